use Rattle.captures.proofs.Common.{Appends, rows_text}
use Rattle.captures.proofs.texts.write_rows.Given as goal

abbrev pub invariant-rows : goal.invariant-rows
invariant-rows g l =
    Appends (g.W.Write.contents l.initial.out) (g.W.Write.contents l.out)
    (rows_text l.body l.number)
