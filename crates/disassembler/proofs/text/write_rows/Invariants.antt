use Rattle.disassembler.proofs.Common.{take, Appends, rows_text}
use Rattle.disassembler.proofs.text.write_rows.Given as goal

abbrev pub invariant-loop-row : goal.invariant-loop-row
invariant-loop-row g l = Appends (g.W.Write.contents l.initial.out) (g.W.Write.contents l.out)
    (rows_text (take l.row-index l.rows))
