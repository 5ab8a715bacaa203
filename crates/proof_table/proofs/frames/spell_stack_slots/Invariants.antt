use Rattle.proof_table.proofs.Common.{◌≡◌, ◌++◌, take, flat_map, stack_slot_bytes}
use Rattle.proof_table.proofs.frames.spell_stack_slots.Given as goal

abbrev pub invariant-loop-slot : goal.invariant-loop-slot
invariant-loop-slot l =
    l.buffer.items ≡ l.initial.buffer.items ++ flat_map stack_slot_bytes (take l.slot-index l.slots)
