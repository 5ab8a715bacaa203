use Rattle.stack_state.proofs.Common.{◌≡◌, ◌++◌, map, take, drop, length, learned}
use Rattle.stack_state.proofs.facts.learn_kinds.Given as goal

abbrev pub invariant-loop-index : goal.invariant-loop-index
invariant-loop-index l = record {
  length : length l.kinds ≡ length l.fn.kinds;
  done : l.kinds ≡ map (learned l.fact) (take l.index l.fn.kinds) ++ drop l.index l.fn.kinds;
}
