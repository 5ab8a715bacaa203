use Rattle.stack_state.proofs.Common.{◌≡◌, ◌++◌, map, take, drop, length, with_kinds, learned}
use Rattle.stack_state.proofs.facts.learn_frames.Given as goal

abbrev pub invariant-loop-index : goal.invariant-loop-index
invariant-loop-index l = record {
  length : length l.frames ≡ length l.fn.frames;
  done : l.frames
      ≡ map (with_kinds (learned l.fact)) (take l.index l.fn.frames) ++ drop l.index l.fn.frames;
}
