use Rattle.table_entries.proofs.Common.{◌≡◌, ◌-◌, Some, take, frame_slots, stack_slot_in, many}
use Rattle.table_entries.proofs.Many.{with_front}
use Rattle.table_entries.proofs.spelling.after_stack_slots.Given as goal

-- what was spelled, and what is left to read
abbrev pub invariant-loop-index : goal.invariant-loop-index
invariant-loop-index l =
    with_front (Some (take l.index l.slots))
    (many (λ k. stack_slot_in l.rows l.holder) (frame_slots - l.index) l.index l.rest)
    ≡ many (λ k. stack_slot_in l.rows l.holder) frame_slots 0 l.bytes
