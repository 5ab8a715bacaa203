use Rattle.table_entries.proofs.Common.{◌≡◌, ◌-◌, length, map, drop, entries_in, entry_from, first_none, with_entries, IsEnd, ArePassed}
use Rattle.table_entries.proofs.tables.places_in.Given as goal

-- the entries at the places were read, and what is left to read
abbrev pub invariant-loop-index : goal.invariant-loop-index
invariant-loop-index l =
    record {
      so_far : with_entries (map (entry_from l.image l.bytes) l.places.items)
          (entries_in l.image (l.count - l.index) l.index l.rest)
          ≡ entries_in l.image l.count 0 (drop 8 l.bytes);
      first_is : l.first ≡ first_none 0 (map (entry_from l.image l.bytes) l.places.items);
      long : length l.places.items ≡ l.index;
      is_end : IsEnd l.bytes l.rest;
      passed : ArePassed (length l.image.maps) l.passing.frames.items;
    }
