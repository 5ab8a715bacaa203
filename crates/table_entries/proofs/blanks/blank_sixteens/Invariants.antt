use Rattle.table_entries.proofs.Common.{◌≡◌, ◌*◌, drop, AreZeros}
use Rattle.table_entries.proofs.blanks.blank_sixteens.Given as goal

-- the table's bytes of all stack slots before this group of sixteen are zeros
abbrev pub invariant-loop-group : goal.invariant-loop-group
invariant-loop-group l =
    record {
      zeros : AreZeros (32 * l.group) l.bytes;
      rest_is : l.rest
          ≡ drop (32 * l.group) l.bytes;
    }
