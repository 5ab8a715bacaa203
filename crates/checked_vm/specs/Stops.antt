-- Where a run stopped, and what its registers held there.
use Rattle.std.specs.Prelude.{ℕ, List}
use Rattle.isa_model.specs.declared.frames.FrameHead.{FrameHead}
use Rattle.isa_model.specs.declared.ends.End.{End}
use Rattle.isa_model.specs.Code.Instructions.{Program, fetch}
use Rattle.isa_model.specs.Machine.States.{State, KeyValues}
use Rattle.isa_model.specs.Running.Runs.{Progress, GoesOn, Ended, progress, start_state, turn}
use Rattle.checked_vm.specs.declared.stops.RunEnd.{RunEnd}

-- the state that a run has reached: after its last step, or before the instruction that ended it
abbrev pub state_at : Progress → State
state_at (GoesOn s) = s
state_at (Ended e s) = s

-- the end of a run, and where it stopped
abbrev pub stop_in : Program → End → State → RunEnd
stop_in p e s = record { end = e; slot = s.slot; insn = fetch p s.slot; registers = s.regs }

-- where a run within a limit stopped
unfoldable pub stop_of : Program → ℕ → (ℕ → ℕ) → FrameHead → List ℕ → List KeyValues → RunEnd
stop_of p limit clock head packet contents =
    stop_in p (turn p limit clock head packet contents).ends
    (state_at (progress p clock limit (start_state head packet contents)))
