-- Runs that exit within n steps and meet no trap.
use Rattle.std.specs.Prelude.{ℕ, zero, suc}
use Rattle.isa_model.specs.Code.Instructions.{Program}
use Rattle.isa_model.specs.Machine.States.{State}
use Rattle.isa_model.specs.Machine.Steps.{StepResult, Next, Finished, Trapped, step}

-- a step does not trap, and where it goes on, P holds of the next state
abbrev pub After : (State → Type 0) → StepResult → Type 0
After P (Next t) = P t
After P (Finished a) = Unit {0}
After P (Trapped e) = ⊥

-- from s the run exits within n steps
unfoldable pub Ends : Program → (ℕ → ℕ) → State → ℕ → Type 0
Ends p clock s zero = ⊥
Ends p clock s (suc n) = After (λ t. Ends p clock t n) (step p clock s)
