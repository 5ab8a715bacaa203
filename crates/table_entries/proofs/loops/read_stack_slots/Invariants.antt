use Rattle.table_entries.proofs.Common.{◌≡◌, ◌-◌, take, length, frame_slots, stack_slot_in, many, kept}
use Rattle.table_entries.proofs.Many.{with_front}
use Rattle.table_entries.proofs.loops.read_stack_slots.Given as goal

-- what was read, and what is left to read
abbrev pub invariant-loop-index : goal.invariant-loop-index
invariant-loop-index l =
    record {
      so_far : with_front (kept l.allowed (take l.index l.stack.slots))
          (many (λ k. stack_slot_in l.rows l.holder) (frame_slots - l.index) l.index l.rest)
          ≡ many (λ k. stack_slot_in l.rows l.holder) frame_slots 0 l.bytes;
      long : length l.stack.slots ≡ frame_slots;
    }
