use Rattle.stack_state.proofs.Common.{◌≡◌, ◌≤◌, ◌++◌, map, take, drop, length, AreBlankBefore, forgotten_slot, frame_slots}
use Rattle.stack_state.proofs.stacks.StackState.forget_map.Given as goal

abbrev pub invariant-loop-slot : goal.invariant-loop-slot
invariant-loop-slot l = record {
  length : length l.self-inside.slots ≡ frame_slots;
  done : l.self-inside.slots
      ≡ map (forgotten_slot l.map) (take l.slot l.fn.self.slots) ++ drop l.slot l.fn.self.slots;
  blank : AreBlankBefore l.self-inside.known_from l.self-inside.slots;
  from : l.self-inside.known_from ≤ l.slot;
}
