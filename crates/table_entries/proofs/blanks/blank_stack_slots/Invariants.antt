use Rattle.table_entries.proofs.Common.{◌≡◌, ◌+◌, ◌*◌, drop, AreZeros}
use Rattle.table_entries.proofs.blanks.blank_stack_slots.Given as goal

-- the table's bytes of all stack slots before this group of four are zeros
abbrev pub invariant-loop-group : goal.invariant-loop-group
invariant-loop-group l =
    record {
      zeros : AreZeros (2 * l.sixteens + 8 * l.group) l.bytes;
      rest_is : l.rest
          ≡ drop (2 * l.sixteens + 8 * l.group) l.bytes;
    }
