-- What the call that runs an open program returns.
use Rattle.std.specs.Prelude.{◌≡◌, ℕ, List, Option, Some}
use Rattle.isa_model.specs.declared.frames.FrameHead.{FrameHead}
use Rattle.isa_model.specs.Machine.States.{KeyValues}
use Rattle.machine.specs.declared.machines.Exit.{Exit}
use Rattle.machine.specs.Running.{Running, ReturnsOutcome}

-- the run of the open program on this packet has this exit, and leaves this packet; program and
-- bound stay, and the maps keep what the run left
pub record RunsSession (old new : Option Running) (head : FrameHead) (packet : List ℕ) (exit : Exit)
    (after : List ℕ) : Type 0 where
  pub machine : Running
  pub left : List KeyValues
  pub coming : ℕ → ℕ
  pub was : old ≡ Some machine
  pub is : new ≡ Some (record machine { contents = left })
  pub returns : ReturnsOutcome machine head packet (λ _. head.time) exit after left coming
