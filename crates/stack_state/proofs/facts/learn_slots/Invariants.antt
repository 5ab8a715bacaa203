use Rattle.stack_state.proofs.Common.{◌≡◌, ◌++◌, map, take, drop, length, with_spilled, learned, frame_slots}
use Rattle.stack_state.proofs.facts.learn_slots.Given as goal

abbrev pub invariant-loop-index : goal.invariant-loop-index
invariant-loop-index l = record {
  old_wide : length l.fn.stack.slots ≡ frame_slots;
  wide : length l.stack.slots ≡ frame_slots;
  done : l.stack.slots
      ≡ map (with_spilled (learned l.fact)) (take l.index l.fn.stack.slots)
      ++ drop l.index l.fn.stack.slots;
}
