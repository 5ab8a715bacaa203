use Rattle.image.proofs.Common.{List, ℕ, subst, Appends, AppendsBeginning}
use Rattle.image.proofs.Writing.{on_err, Appends-rows, AppendsBeginning-rows}
use Rattle.image.proofs.rows.write_rows.Goals as goal

pub returns-in_err-write_bytes-clause-err : goal.returns-in_err-write_bytes-clause-err
returns-in_err-write_bytes-clause-err g c =
    on_err _ c.from_residual.result
    (AppendsBeginning-rows _ _ _ c.args.rows.now c.loop-row.row-index _ c.loop-row-test.true
    c.loop-row.invariant
    (subst (λ (l : List ℕ). AppendsBeginning (g.W.Write.contents c.loop-row.writer)
    (g.W.Write.contents c.write_bytes.new.writer) l) c.bytes_of.ensures
    c.in_err-write_bytes.ensures.err))

pub loop-row-preserved : goal.loop-row-preserved
loop-row-preserved g c =
    Appends-rows _ _ _ c.args.rows.now c.loop-row.row-index _ c.loop-row-test.true
    c.loop-row.invariant
    (subst (λ (l : List ℕ). Appends (g.W.Write.contents c.loop-row.writer)
    (g.W.Write.contents c.write_bytes.new.writer) l) c.bytes_of.ensures
    c.in_ok-write_bytes.ensures.ok)
