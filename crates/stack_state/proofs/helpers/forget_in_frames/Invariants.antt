use Rattle.stack_state.proofs.Common.{◌≡◌, ◌++◌, map, take, drop, length, forgotten_frame}
use Rattle.stack_state.proofs.helpers.forget_in_frames.Given as goal

abbrev pub invariant-loop-i : goal.invariant-loop-i
invariant-loop-i l = record {
  length : length l.frames ≡ length l.fn.frames;
  done : l.frames
      ≡ map (forgotten_frame l.index) (take l.i l.fn.frames) ++ drop l.i l.fn.frames;
}
