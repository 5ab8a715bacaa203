-- What callers see of the checked machine.
use Rattle.std.specs.Prelude.{ℕ, List}
use Rattle.isa_model.specs.declared.frames.FrameHead.{FrameHead}
use Rattle.isa_model.specs.Code.Instructions.{Program}
use Rattle.isa_model.specs.Machine.States.{KeyValues}
use Rattle.isa_model.specs.Running.Runs.{Turn, turn}

-- its program, and the maps' contents between runs
pub record LoadedProgram : Type 0 where
  pub program : Program
  pub contents : List KeyValues

-- one run of its program on a packet, within the limit
abbrev pub turn_from : LoadedProgram → ℕ → (ℕ → ℕ) → FrameHead → List ℕ → Turn
turn_from machine limit clock head packet =
    turn machine.program limit clock head packet machine.contents
