use Rattle.rechecking.proofs.Common.{◌≤◌, length, entry_at, count_of, AllFineBefore, IsKnownEntry, IsKnownSpelled}
use Rattle.table_entries.specs.Growing.{Grows}
use Rattle.rechecking.proofs.entries.test_all.Given as goal

-- the entries before it are placed and closed, and the known entry's state is in `state` or `room`
abbrev pub invariant-loop-index : goal.invariant-loop-index
invariant-loop-index l = record {
  grows : Grows l.image l.fn.growing l.growing;
  placed : l.index ≤ count_of l.growing.table;
  before : AllFineBefore l.image (entry_at l.image l.growing.table) l.index;
  spelled : IsKnownSpelled (length l.image.maps) l.bytes l.state l.room l.known;
  has : IsKnownEntry l.image (entry_at l.image l.growing.table) l.state l.room l.known;
}
