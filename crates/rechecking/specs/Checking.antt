-- What the tests of an entry show, and which entries are sure to pass them.
use Rattle.std.specs.Prelude.{◌≡◌, ℕ, ◌<◌, List, [], ◌∷◌, Some}
use Rattle.isa_model.specs.declared.instructions.Insn.{Insn}
use Rattle.isa_model.specs.Code.Instructions.{Program, fetch}
use Rattle.stack_state.specs.declared.states.State.{State}
use Rattle.stack_state.specs.Meaning.{Covers}
use Rattle.stack_state.specs.Starts.{start}
use Rattle.state_cover.specs.FrameCover.{StateEncloses}
use Rattle.transfer.specs.declared.Ways.{Ways}
use Rattle.transfer.specs.declared.Ways.TheVariants as ways
use Rattle.transfer.specs.declared.refusals.Refusal.{Refusal}
use Rattle.transfer.specs.Exact.{StepsToWays, RefusesStep}
use Rattle.table_entries.specs.Entries.{Entry}
use Rattle.rechecking.specs.declared.errors.TableError.{TableError}
use Rattle.rechecking.specs.declared.errors.TableError.TheVariants.{Step, Successor}
use Rattle.rechecking.specs.Tables.{EntryAt, IsClosedEntry, MeansStarts}

-- ---- successors

-- the entry with this index covers the state, and its number is smaller
pub record Enters (t : EntryAt) (number index : ℕ) (a : State) : Type 0 where
  pub entry : Entry
  pub there : t index ≡ Some entry
  pub smaller : entry.number < number
  pub covers : (p : Program) → Covers p entry.state a

-- the same, if registers and stack slots show it, under any names of identities: `packet` gives
-- those of packet offsets, `null` those of look-ups
pub record EntersClearly (t : EntryAt) (number index : ℕ) (a : State) : Type 0 where
  pub entry : Entry
  pub there : t index ≡ Some entry
  pub smaller : entry.number < number
  pub packet : ℕ → ℕ
  pub null : ℕ → ℕ
  pub covers : StateEncloses packet null entry.state a

-- the entry with this index covers the state
pub record Covering (t : EntryAt) (index : ℕ) (a : State) : Type 0 where
  pub entry : Entry
  pub there : t index ≡ Some entry
  pub covers : (p : Program) → Covers p entry.state a

-- the same, where registers and stack slots show it
pub record CoversClearly (t : EntryAt) (index : ℕ) (a : State) : Type 0 where
  pub entry : Entry
  pub there : t index ≡ Some entry
  pub packet : ℕ → ℕ
  pub null : ℕ → ℕ
  pub covers : StateEncloses packet null entry.state a

-- there are as many named entries as successors, and each has this relation to its successor
abbrev pub FollowsBy : (ℕ → State → Type 0) → List ℕ → Ways → State → State → Type 0
FollowsBy R [] ways.None a b = Unit {0}
FollowsBy R (i ∷ []) ways.One a b = R i a
FollowsBy R (i ∷ (j ∷ [])) ways.Two a b = R i a × R j b
FollowsBy R named w a b = ⊥

-- ---- the start

-- the state of the first entry means every start, and this is its number
pub record HasStart (p : Program) (t : EntryAt) (number : ℕ) : Type 0 where
  pub first : Entry
  pub there : t 0 ≡ Some first
  pub starts : MeansStarts p first.state
  pub number_is : first.number ≡ number

-- the first entry covers the start state, where registers and stack slots show it
pub record StartsClearly (t : EntryAt) : Type 0 where
  pub first : Entry
  pub there : t 0 ≡ Some first
  pub packet : ℕ → ℕ
  pub null : ℕ → ℕ
  pub covers : StateEncloses packet null first.state start

-- ---- the first entry that does not pass

abbrev pub AllFineBefore : Program → EntryAt → ℕ → Type 0
AllFineBefore p t k = (j : ℕ) (e : Entry) → j < k → t j ≡ Some e → IsClosedEntry p t e

-- the entry's step is refused
pub record IsRefusedStep (p : Program) (t : EntryAt) (k : ℕ) (refusal : Refusal) : Type 0 where
  pub entry : Entry
  pub insn : Insn
  pub there : t k ≡ Some entry
  pub fetched : fetch p entry.state.slot ≡ Some insn
  pub refused : RefusesStep p entry.state insn refusal

-- its step is made, and the states to which it leads do not clearly enter the entries that it names
pub record IsUnnamed (p : Program) (t : EntryAt) (k : ℕ) : Type 0 where
  pub entry : Entry
  pub insn : Insn
  pub there : t k ≡ Some entry
  pub fetched : fetch p entry.state.slot ≡ Some insn
  pub went : Ways
  pub first : State
  pub second : State
  pub made : StepsToWays p entry.state insn went first second
  pub unnamed : FollowsBy (EntersClearly t entry.number) entry.successors went first second → ⊥

abbrev pub IsRefusedAt : Program → EntryAt → ℕ → TableError → Type 0
IsRefusedAt p t k (Step index refusal) = (index ≡ k) × IsRefusedStep p t k refusal
IsRefusedAt p t k (Successor index) = (index ≡ k) × IsUnnamed p t k
IsRefusedAt p t k error = ⊥

-- it is refused, and all entries before it are closed
abbrev pub IsFirstRefused : Program → EntryAt → TableError → Type 0
IsFirstRefused p t error = (k : ℕ) × AllFineBefore p t k × IsRefusedAt p t k error
