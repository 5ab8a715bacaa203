-- The successors of an abstract state.
use Rattle.std.specs.Prelude.{ℕ, ◌⊎◌, Result, Ok, Err}
use Rattle.isa_model.specs.Code.Instructions.{Program}
use Rattle.isa_model.specs.Machine.States as Machine
use Rattle.isa_model.specs.Machine.Steps.{step}
use Rattle.isa_model.specs.Running.Ends.{After}
use Rattle.isa_model.specs.Machine.MachineStates.{IsClock}
use Rattle.stack_state.specs.declared.states.State.{State}
use Rattle.stack_state.specs.Meaning.{Means}
use Rattle.transfer.specs.declared.refusals.Refusal.{Refusal}
use Rattle.transfer.specs.declared.Ways.{Ways}
use Rattle.transfer.specs.declared.Ways.TheVariants.{None, One, Two}
use Rattle.transfer.specs.declared.Successors.{Successors}
use Rattle.transfer.specs.declared.Successors.TheVariants as successors

-- P holds of each successor: the first, and the other
abbrev pub EachWay : Ways → State → State → (State → Type 0) → Type 0
EachWay None a b P = Unit {0}
EachWay One a b P = P a
EachWay Two a b P = P a × P b

-- the machine state is a member of one of them
abbrev pub InSome : Program → Ways → State → State → Machine.State → Type 0
InSome p None a b s = ⊥
InSome p One a b s = Means p a s
InSome p Two a b s = Means p a s ⊎ Means p b s

-- with every clock, no member traps at its next step, and each that does not exit becomes a member
-- of one of these successors
unfoldable pub LeadsTo : Program → State → Ways → State → State → Type 0
LeadsTo p from ways a b =
    (clock : ℕ → ℕ) → IsClock clock → (s : Machine.State) → Means p from s
    → After (InSome p ways a b) (step p clock s)

-- P of the ways and the two states, for the successors of a result
abbrev pub OnSuccessors : Result Successors Refusal → (Result Ways Refusal → State → State → Type 0)
    → Type 0
OnSuccessors (Ok successors.None) P = (a b : State) × P (Ok None) a b
OnSuccessors (Ok (successors.One a)) P = (b : State) × P (Ok One) a b
OnSuccessors (Ok (successors.Two a b)) P = P (Ok Two) a b
OnSuccessors (Err e) P = (a b : State) × P (Err e) a b
