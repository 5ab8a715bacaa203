-- The last two states of a path at one slot.
use Rattle.std.specs.Prelude.{◌≡◌, ℕ, ◌+◌, ◌<◌, List, ◌∷◌, ◌++◌, length, IfSome}
use Rattle.stack_state.specs.declared.states.State.{State}
use Rattle.listeners.specs.declared.turns.Turns.{Turns}

-- the state is on the path, whose last state is the first here, and `index` states come before it
pub record IsAtIndex (path : List State) (s : State) (index : ℕ) : Type 0 where
  pub after : List State
  pub before : List State
  pub split : path ≡ after ++ s ∷ before
  pub index_is : length before ≡ index

-- each of the two is on the path, if it has an index there
pub record AreOn (path : List State) (turns : Turns) : Type 0 where
  pub last : IfSome turns.index (λ index. IsAtIndex path turns.last index)
  pub earlier : IfSome turns.earlier_index (λ index. IsAtIndex path turns.earlier index)

-- the state is on the path, and it is not the last one
abbrev pub IsFurtherBack : List State → State → Type 0
IsFurtherBack path s = (index : ℕ) × IsAtIndex path s index × (index + 1 < length path)
