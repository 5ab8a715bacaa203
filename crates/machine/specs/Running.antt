-- What callers see of the machine, and the results of its runs.
use Rattle.std.specs.Prelude.{◌≡◌, ℕ, ◌+◌, ◌≤◌, List}
use Rattle.isa_model.specs.declared.frames.FrameHead.{FrameHead}
use Rattle.isa_model.specs.Code.Instructions.{Program}
use Rattle.isa_model.specs.Machine.States.{KeyValues}
use Rattle.isa_model.specs.Code.Limits.{max_steps}
use Rattle.isa_model.specs.Running.Runs.{Outcome, HasOutcome}
use Rattle.isa_model.specs.Running.Outcomes.{StartsEnd}
use Rattle.isa_model.specs.Machine.MachineStates.{FitRows, IsProgram}
use Rattle.machine.specs.declared.machines.Exit.{Exit}

-- its program with the bound of its runs, and the maps' contents between runs
pub record Running : Type 0 where
  pub program : Program
  pub bound : ℕ
  pub contents : List KeyValues

-- every run exits within the bound, and the contents fit the rows
pub record RunsWithinBound (r : Running) : Type 0 where
  pub is_program : IsProgram r.program
  pub ends : StartsEnd r.program r.bound
  pub some : 1 ≤ r.bound
  pub most : r.bound ≤ max_steps
  pub fits : FitRows r.program.maps r.contents

-- a run returns its outcome, which has no more steps than the bound: the number and the steps, the
-- packet and the contents that it leaves, and the clock's next answers
pub record ReturnsOutcome (r : Running) (head : FrameHead) (packet : List ℕ) (clock : ℕ → ℕ)
    (exit : Exit) (after : List ℕ) (left : List KeyValues) (coming : ℕ → ℕ) : Type 0 where
  pub outcome : Outcome
  pub found : HasOutcome r.program head packet r.contents clock outcome
  pub few : outcome.steps ≤ r.bound
  pub number_is : exit.r0 ≡ outcome.number
  pub steps_are : exit.steps ≡ outcome.steps
  pub packet_is : after ≡ outcome.packet
  pub contents_are : left ≡ outcome.contents
  pub clock_is : (k : ℕ) → coming k ≡ clock (outcome.clock_calls + k)
