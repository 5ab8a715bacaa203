-- What the call returns for a run on one packet.
use Rattle.std.specs.Prelude.{ℕ, List}
use Rattle.isa_model.specs.declared.frames.FrameHead.{FrameHead}
use Rattle.isa_model.specs.Machine.States.{KeyValues}
use Rattle.isa_model.specs.Reporting.Reports.{starting_contents}
use Rattle.machine.specs.declared.machines.Exit.{Exit}
use Rattle.machine.specs.Running.{ReturnsOutcome}
use Rattle.calls.specs.Verdicts.{IsAcceptedImage}

-- the bytes are an accepted image, and the run of its program on this packet, on maps as they
-- start, has this exit and leaves this packet
pub record RunsProgram (bytes : List ℕ) (head : FrameHead) (packet : List ℕ) (exit : Exit)
    (after : List ℕ) : Type 0 where
  pub bound : ℕ
  pub accepts : IsAcceptedImage bytes bound
  pub left : List KeyValues
  pub coming : ℕ → ℕ
  pub returns : ReturnsOutcome
      (record {
        program = accepts.program;
        bound = bound;
        contents = starting_contents accepts.program.maps;
      })
      head packet (λ _. head.time) exit after left coming
