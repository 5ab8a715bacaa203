-- Runs of words are runs of states.
use Rattle.std.proofs.Common.{◌≡◌, ℕ, suc, ◌+◌, ◌≤◌}
use Rattle.isa_model.specs.Code.Instructions.{Program}
use Rattle.isa_model.specs.Machine.States.{State}
use Rattle.isa_model.specs.Machine.Steps.{Finished, step}
use Rattle.isa_model.specs.Machine.MachineStates.{IsState}
use Rattle.isa_model.specs.Running.Runs.{Reaches as ModelReaches}
use Rattle.isa_model.specs.Running.Ends.{Ends as ModelEnds}
use Rattle.word_machine.specs.Words.{Words}
use Rattle.machine.specs.Related.{Layout, Related}

-- the model's run from s, which ends within n steps, is after k steps in a state that the words
-- represent
pub record Tracks (p : Program) (clock : ℕ → ℕ) (s : State) (n k : ℕ) (v : Words) : Type 0 where
  pub state : State
  pub layout : Layout
  pub reached : ModelReaches p clock s k state
  pub is : IsState p state
  pub related : Related p layout state v
  pub left : ℕ
  pub in_time : k + left ≡ n
  pub ends : ModelEnds p clock state left

-- the same, and the next step is the exit, with this number
pub record Finishes (p : Program) (clock : ℕ → ℕ) (s : State) (n number steps : ℕ)
    (v : Words) : Type 0 where
  pub before : ℕ
  pub follows : Tracks p clock s n before v
  pub exits : step p clock follows.state ≡ Finished number
  pub counted : steps ≡ suc before
  pub in_time : steps ≤ n
