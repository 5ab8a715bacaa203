use Rattle.calls.proofs.RowLaws.{AreWritten}
use Rattle.calls.proofs.describing.fill_rows.Given as goal

abbrev pub invariant-loop-i : goal.invariant-loop-i
invariant-loop-i l = AreWritten l.fn.room l.rows l.room l.i
