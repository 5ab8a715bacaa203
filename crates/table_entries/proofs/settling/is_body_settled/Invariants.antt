use Rattle.table_entries.proofs.Common.{◌≡◌, ◌-◌, List, length, drop, Option, Entry, entries_in, with_entries, ArePassed}
use Rattle.table_entries.proofs.settling.is_body_settled.Given as goal

-- some entries were read, and what is left to read
abbrev pub invariant-loop-index : goal.invariant-loop-index
invariant-loop-index l =
    record {
      so_far : (read : List (Option Entry))
          × (with_entries read (entries_in l.image (l.count - l.index) l.index l.rest)
          ≡ entries_in l.image l.count 0 (drop 8 l.front));
      passed : ArePassed (length l.image.maps) l.passing.frames.items;
    }
