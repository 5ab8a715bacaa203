use Rattle.table_entries.proofs.Common.{◌≡◌, length, count_of, Grows, ArePassed}
use Rattle.table_entries.proofs.growing.Growing.pass_to.Given as goal

-- as many entries are placed as the counter of the loop says
abbrev pub invariant-loop : goal.invariant-loop
invariant-loop l = record {
  grows : Grows l.image l.fn.self l.self;
  placed : count_of l.self.table ≡ l.counter;
  passed : ArePassed (length l.image.maps) l.passing.frames.items;
}
