use Rattle.image.proofs.Loop.{RowsSoFar}
use Rattle.image.specs.Refusals.{rows_from}
use Rattle.image.proofs.rows.rows_of.Given as goal

abbrev pub invariant-loop-index : goal.invariant-loop-index
invariant-loop-index l =
    RowsSoFar l.rows.items l.count l.index l.bytes (rows_from l.count 0 l.bytes)
