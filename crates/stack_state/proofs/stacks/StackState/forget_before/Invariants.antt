use Rattle.stack_state.proofs.Common.{◌≡◌, ◌++◌, length, drop, replicate, Written, frame_slots}
use Rattle.stack_state.proofs.stacks.StackState.forget_before.Given as goal

abbrev pub invariant-loop-index : goal.invariant-loop-index
invariant-loop-index l = record {
  length : length l.self-inside.slots ≡ frame_slots;
  done : l.self-inside.slots ≡ replicate l.index (Written 0) ++ drop l.index l.fn.self.slots;
}
