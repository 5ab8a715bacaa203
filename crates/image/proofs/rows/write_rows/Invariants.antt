use Rattle.image.proofs.Common.{take, flat_map, Appends, row_bytes}
use Rattle.image.proofs.rows.write_rows.Given as goal

abbrev pub invariant-loop-row : goal.invariant-loop-row
invariant-loop-row g l = Appends (g.W.Write.contents l.initial.writer) (g.W.Write.contents l.writer)
    (flat_map row_bytes (take l.row-index l.rows))
