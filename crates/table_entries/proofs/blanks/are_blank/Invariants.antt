use Rattle.table_entries.proofs.Common.{◌≡◌, take, replicate, Written}
use Rattle.table_entries.proofs.blanks.are_blank.Given as goal

abbrev pub invariant-loop-index : goal.invariant-loop-index
invariant-loop-index l = take l.index l.slots ≡ replicate l.index (Written 0)
