use Rattle.table_entries.proofs.Common.{◌≡◌, ◌-◌, frame_slots, stack_slot_in, many, seen}
use Rattle.table_entries.proofs.Seen.{and_seen}
use Rattle.table_entries.proofs.passing.pass_stack_slots.Given as goal

-- what was passed over, and what is left
abbrev pub invariant-loop-index : goal.invariant-loop-index
invariant-loop-index l =
    and_seen l.allowed
    (seen (many (λ k. stack_slot_in l.rows l.holder) (frame_slots - l.index) l.index l.rest))
    ≡ seen (many (λ k. stack_slot_in l.rows l.holder) frame_slots 0 l.bytes)
