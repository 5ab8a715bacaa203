-- The numbers of states, and how many instructions are explored.
use Rattle.std.specs.Prelude.{◌≡◌, ℕ, ◌+◌, max, Some}
use Rattle.isa_model.specs.declared.instructions.Insn.{Insn}
use Rattle.isa_model.specs.Code.Instructions.{Program, fetch}
use Rattle.stack_state.specs.declared.states.State.{State}
use Rattle.stack_state.specs.Meaning.{Covers}
use Rattle.control_flow.specs.Graph.{BeginsInsn}
use Rattle.transfer.specs.declared.Ways.{Ways}
use Rattle.transfer.specs.declared.Ways.TheVariants as ways
use Rattle.transfer.specs.Exact.{StepsToWays}
use Rattle.walks.specs.Forgetting.{Coarse, Forgets}
use Rattle.walks.specs.Walks.{WalksTo}

-- the successors are these states, after what does not matter was forgotten
abbrev pub AreForgotten : Program → Ways → State → State → State → State → Type 0
AreForgotten p ways.None a b first other = Unit {0}
AreForgotten p ways.One a b first other = Forgets Coarse p a first
AreForgotten p ways.Two a b first other = Forgets Coarse p a first × Forgets Coarse p b other

-- the instruction at a state's slot has this number of successors, and they are these states after
-- what does not matter was forgotten
pub record StepsInto (p : Program) (s : State) (taken : Ways) (first other : State) : Type 0 where
  pub insn : Insn
  pub here : fetch p s.slot ≡ Some insn
  pub next : State
  pub aside : State
  pub makes : StepsToWays p s insn taken next aside
  pub forgets : AreForgotten p taken next aside first other

-- the number of a state: 1 more than the greatest number of its successors, and 1 if it has none;
-- or the number of a state at its slot that covers it and that a walk from the start reaches too
pub data HasNumber (p : Program) : State → ℕ → Type 0 where
  LeadsNowhere : (s a b : State) (n : ℕ) → StepsInto p s ways.None a b → n ≡ 1 → HasNumber p s n
  LeadsToOne : (s a b : State) (m n : ℕ) → StepsInto p s ways.One a b → HasNumber p a m → n ≡ m + 1
      → HasNumber p s n
  LeadsToTwo : (s a b : State) (j k n : ℕ) → StepsInto p s ways.Two a b → HasNumber p a j
      → HasNumber p b k → n ≡ max j k + 1 → HasNumber p s n
  IsCoveredBy : (s e : State) (steps n : ℕ) → WalksTo Coarse p steps e → e.slot ≡ s.slot
      → Covers p e s
      → HasNumber p e n → HasNumber p s n

-- at least n instructions are explored from a state, if no state covers another
pub data Takes (p : Program) : State → ℕ → Type 0 where
  Nothing : (s : State) (n : ℕ) → n ≡ 0 → Takes p s n
  ItsOwn : (s : State) (n : ℕ) → BeginsInsn p s.slot → n ≡ 1 → Takes p s n
  OneMore : (s a b : State) (m n : ℕ) → StepsInto p s ways.One a b → Takes p a m → n ≡ m + 1
      → Takes p s n
  BothMore : (s a b : State) (j k n : ℕ) → StepsInto p s ways.Two a b → Takes p a j → Takes p b k
      → n ≡ j + k + 1 → Takes p s n
