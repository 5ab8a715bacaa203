-- What follows from the tests of an entry and of the start.
use Rattle.rechecking.proofs.Common.{◌≡◌, ℕ, ◌+◌, ◌≤◌, ◌<◌, List, [], ◌∷◌, Contains, Bool, true, false, IsTrue, Option, Some, None, IsSome, Ok, Err, inl, inr, arith, subst, rules, cases_lt, Program, fetch, step, After-weaker, State, Means, Covers, Refusal, EntryHead, Entry, entry_of, list_of, EntryAt, EntersSmaller, IsClosedEntry, MeansStarts, HasEntry, Covering, CoversClearly, Enters, EntersClearly, FollowsBy, StartsClearly, HasStart, IsRefusedAt, AllFineBefore}
use Rattle.std.specs.Prelude.{refl}
use Rattle.isa_model.specs.declared.instructions.Insn.{Insn}
use Rattle.isa_model.specs.Machine.States as Machine
use Rattle.isa_model.specs.Machine.MachineStates.{IsProgram}
use Rattle.isa_model.specs.Running.Runs.{start_state}
use Rattle.stack_state.specs.Starts.{start}
use Rattle.stack_state.proofs.StartsLaws.{Means-start}
use Rattle.transfer.specs.declared.Ways.{Ways}
use Rattle.transfer.specs.declared.Ways.TheVariants as ways
use Rattle.state_cover.specs.FrameCover.{StateEncloses}
use Rattle.transfer.specs.Exact.{Steps}
use Rattle.transfer.specs.Leading.{LeadsTo, InSome}
use Rattle.isa_model.specs.declared.limits.TheConstants.{MAX_STEPS}
use Rattle.table_entries.specs.declared.entries.NamedEntries.{NamedEntries}
use Rattle.table_entries.specs.declared.entries.NamedEntries.TheVariants as named
use Rattle.rechecking.specs.declared.errors.TableError.TheVariants.{Step, Successor}

goes_into : (p : Program) (t : EntryAt) (e : Entry) (index : ℕ) (a : State) (s : Machine.State)
    → Contains e.successors index → Enters t e.number index a
    → Means p a s → EntersSmaller p t e s
unfolding Covers
goes_into p t e index a s there h m = record {
  index = index;
  named = there;
  entry = h.entry;
  there = h.there;
  smaller = h.smaller;
  member = h.covers p s m;
}

into : (p : Program) (t : EntryAt) (number : ℕ) (from : State) (named : List ℕ) (w : Ways)
    (a b : State) (s : Machine.State) → FollowsBy (Enters t number) named w a b → InSome p w a b s
    → EntersSmaller p t (record { number = number; state = from; successors = named }) s
into p t n from [] ways.None a b s f m = absurd m
into p t n from (i ∷ []) ways.One a b s f m =
    goes_into p t (record { number = n; state = from; successors = i ∷ [] }) i a s
    (0, omega arith, refl) f m
into p t n from (i ∷ (j ∷ [])) ways.Two a b s f (inl m) =
    goes_into p t (record { number = n; state = from; successors = i ∷ (j ∷ []) }) i a s
    (0, omega arith, refl) f.0 m
into p t n from (i ∷ (j ∷ [])) ways.Two a b s f (inr m) =
    goes_into p t (record { number = n; state = from; successors = i ∷ (j ∷ []) }) j b s
    (1, omega arith, refl) f.1 m
into p t n from named w a b s f m = absurd f

-- an entry that passes the tests is closed
pub IsClosedEntry-follows : (p : Program) (t : EntryAt) (e : Entry) (w : Ways) (a b : State)
    → 1 ≤ e.number → e.number ≤ MAX_STEPS
    → LeadsTo p e.state w a b → FollowsBy (Enters t e.number) e.successors w a b
    → IsClosedEntry p t e
unfolding LeadsTo
IsClosedEntry-follows p t e w a b some most leads follows = record {
  some = some;
  most = most;
  steps = λ clock fits s m. After-weaker (InSome p w a b) (EntersSmaller p t e) (step p clock s)
      (λ u k. into p t e.number e.state e.successors w a b u follows k) (leads clock fits s m);
}

-- what covers the start state means every start
pub MeansStarts-covers : (p : Program) (a : State) → IsProgram p → Covers p a start
    → MeansStarts p a
unfolding Covers
MeansStarts-covers p a program covers head packet contents given =
    covers (start_state head packet contents) (Means-start p head packet contents program given)

-- two that are entered
pub FollowsBy-two : (t : EntryAt) (number i j : ℕ) (names : NamedEntries) (w : Ways) (a b : State)
    → names ≡ named.Two i j → w ≡ ways.Two → Enters t number i a → Enters t number j b
    → FollowsBy (Enters t number) (list_of names) w a b
FollowsBy-two t number i j names w a b two goes first second = rw (two, goes) (first, second)

-- ---- options that have an element

-- the element of an option that has one
pub there_is : {X : Type 0} (o : Option X) → IsSome o → (x : X) × (o ≡ Some x)
there_is (Some x) h = (x, refl)
there_is None h = absurd (cc)

same_entry : (o : Option Entry) (d e : Entry) → o ≡ Some d → o ≡ Some e → d ≡ e
same_entry o d e h k = cc

-- ---- an entry that covers a state, or not

-- a state covers itself
pub Enters-same : (p : Program) (t : EntryAt) (number index : ℕ) (a : State) (head : EntryHead)
    → HasEntry p t index head a
    → ((e : Entry) → t index ≡ Some e → e.number < number) → Enters t number index a
unfolding Covers
Enters-same p t number index a head has smaller = record {
  entry = entry_of head a;
  there = has.there;
  smaller = smaller (entry_of head a) has.there;
  covers = λ q s m. m;
}

pub Enters-covering : (t : EntryAt) (number index : ℕ) (a : State) → Covering t index a
    → ((e : Entry) → t index ≡ Some e → e.number < number) → Enters t number index a
Enters-covering t number index a h smaller =
    record {
      entry = h.entry;
      there = h.there;
      smaller = smaller h.entry h.there;
      covers = h.covers;
    }

-- an entry that does not clearly cover the state is not clearly entered
pub unclear_covers : (t : EntryAt) (number index : ℕ) (a : State) → (CoversClearly t index a → ⊥)
    → EntersClearly t number index a → ⊥
unclear_covers t number index a refuted h =
    refuted (record {
      entry = h.entry;
      there = h.there;
      packet = h.packet;
      null = h.null;
      covers = h.covers;
    })

-- nor is one whose number is not smaller
pub unclear_number : (t : EntryAt) (number index : ℕ) (a : State) (passes : Bool)
    → ((e : Entry) → t index ≡ Some e → e.number < number → IsTrue passes) → passes ≡ false
    → EntersClearly t number index a → ⊥
unclear_number t number index a passes finds refuted h =
    let yes : passes ≡ true = finds h.entry h.there h.smaller in cc

-- a test that finds clear cases, and failed for this entry
pub unclear_entry : (t : EntryAt) (index : ℕ) (a : State) (e : Entry) (passes : Bool)
    → t index ≡ Some e
    → ((packet null : ℕ → ℕ) → StateEncloses packet null e.state a → IsTrue passes)
    → passes ≡ false → CoversClearly t index a → ⊥
unclear_entry t index a e passes there finds refuted h =
    let is : h.entry ≡ e = same_entry (t index) h.entry e h.there there in
    let yes : passes ≡ true =
    finds h.packet h.null
    (subst (λ (x : Entry). StateEncloses h.packet h.null x.state a) is h.covers) in
    cc

pub unclear_start : (t : EntryAt) (e : Entry) (passes : Bool) → t 0 ≡ Some e
    → ((packet null : ℕ → ℕ) → StateEncloses packet null e.state start → IsTrue passes)
    → passes ≡ false → StartsClearly t → ⊥
unclear_start t e passes there finds refuted h =
    let is : h.first ≡ e = same_entry (t 0) h.first e h.there there in
    let yes : passes ≡ true =
    finds h.packet h.null
    (subst (λ (x : Entry). StateEncloses h.packet h.null x.state start) is h.covers) in
    cc

pub no_start : (t : EntryAt) → t 0 ≡ None → StartsClearly t → ⊥
no_start t none h = let there = h.there in absurd (cc)

pub refused_step : (p : Program) (t : EntryAt) (k : ℕ) (e : Entry) (r : Refusal) (b c : State)
    → t k ≡ Some e → IsSome (fetch p e.state.slot)
    → ((i : Insn) → fetch p e.state.slot ≡ Some i → Steps p e.state i (Err r) b c)
    → IsRefusedAt p t k (Step k r)
refused_step p t k e r b c there begins steps =
    let (insn, fetched) = there_is (fetch p e.state.slot) begins in (
      refl,
      record {
        entry = e;
        insn = insn;
        there = there;
        fetched = fetched;
        refused = (b, c, steps insn fetched);
      },
    )

pub unnamed_step : (p : Program) (t : EntryAt) (k : ℕ) (e : Entry) (w : Ways) (a b : State)
    → t k ≡ Some e → IsSome (fetch p e.state.slot)
    → ((i : Insn) → fetch p e.state.slot ≡ Some i → Steps p e.state i (Ok w) a b)
    → (FollowsBy (EntersClearly t e.number) e.successors w a b → ⊥)
    → IsRefusedAt p t k (Successor k)
unnamed_step p t k e w a b there begins steps unnamed =
    let (insn, fetched) = there_is (fetch p e.state.slot) begins in (
      refl,
      record {
        entry = e;
        insn = insn;
        there = there;
        fetched = fetched;
        went = w;
        first = a;
        second = b;
        made = steps insn fetched;
        unnamed = unnamed;
      },
    )

-- where the entry at an index is closed, each entry that is found at that index is
pub fine_of : (p : Program) (t : EntryAt) (k : ℕ) (d : Entry) → t k ≡ Some d → IsClosedEntry p t d
    → (e : Entry) → t k ≡ Some e → IsClosedEntry p t e
fine_of p t k d there fine e at = subst (IsClosedEntry p t) (same_entry (t k) d e there at) fine

-- an entry 0 that covers the start state, and its number
pub HasStart-covers : (p : Program) (t : EntryAt) (e : Entry) (n : ℕ) → IsProgram p → t 0 ≡ Some e
    → Covers p e.state start → Some e.number ≡ Some n → HasStart p t n
HasStart-covers p t e n program there covers same = record {
  first = e;
  there = there;
  starts = MeansStarts-covers p e.state program covers;
  number_is = grind rules;
}

-- one more entry that is closed
pub fine_next : (p : Program) (t : EntryAt) (k : ℕ) → AllFineBefore p t k
    → ((e : Entry) → t k ≡ Some e → IsClosedEntry p t e) → AllFineBefore p t (k + 1)
fine_next p t k before here j e less at = elim (cases_lt j k) [
  | inl inside ↦ before j e inside at
  | inr past ↦ let same : j ≡ k = omega arith in here e (subst (λ (i : ℕ). t i ≡ Some e) same at)
]
