-- The states that are stored at joins.
use Rattle.std.specs.Prelude.{◌≡◌, ℕ, ◌<◌, List, Option, Some, None, slice_get, slice_set}
use Rattle.isa_model.specs.Code.Instructions.{Program}
use Rattle.stack_state.specs.declared.states.State.{State}
use Rattle.stack_state.specs.Meaning.{Covers}
use Rattle.explorer.specs.declared.stored_states.StoredState.{StoredState}

-- the stored state with this index is s, and has this number
abbrev pub IsStored : List StoredState → ℕ → State → ℕ → Type 0
IsStored states index s n = slice_get states index ≡ Some (record { state = s; number = n })

-- the stored state with this index is finished, has this number, and covers s
pub record IsCovered (states : List StoredState) (index : ℕ) (s : State) (n : ℕ) : Type 0 where
  pub other : State
  pub stored : slice_get states index ≡ Some (record { state = other; number = n })
  pub finished : 0 < n
  pub same_slot : other.slot ≡ s.slot
  pub covers : (p : Program) → Covers p other s

-- an unfinished stored state and the state cover one another
pub record IsRepeated (states : List StoredState) (s : State) : Type 0 where
  pub index : ℕ
  pub other : State
  pub stored : slice_get states index ≡ Some (record { state = other; number = 0 })
  pub same_slot : other.slot ≡ s.slot
  pub covers : (p : Program) → Covers p other s
  pub covered : (p : Program) → Covers p s other

-- the index at which a state is stored, if it is
abbrev pub StoredAt : List StoredState → Option ℕ → State → Type 0
StoredAt states None s = Unit {0}
StoredAt states (Some k) s =
    (n : ℕ) × (slice_get states k ≡ Some (record { state = s; number = n }))

-- the state that was stored, if there is one, has the number, and the other stored states are as
-- they were
abbrev pub GetsNumber : List StoredState → Option ℕ → ℕ → List StoredState → Type 0
GetsNumber old None n new = new ≡ old
GetsNumber old (Some k) n new =
    (s : State) → StoredAt old (Some k) s → new ≡ slice_set old k (record { state = s; number = n })
