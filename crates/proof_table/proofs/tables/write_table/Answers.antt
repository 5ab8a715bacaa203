use Rattle.proof_table.proofs.Common.{subst, IsImage, on_err, GainsTableOf, entries_for}
use Rattle.std.proofs.lemmas.Result.{on_ok_weaker}
use Rattle.proof_table.proofs.WritingLaws.{BeginsTable-nothing, GainsTable-of}
use Rattle.proof_table.proofs.tables.write_table.Goals as goal

pub returns-in_err-explored-clause-err : goal.returns-in_err-explored-clause-err
returns-in_err-explored-clause-err g c =
    on_err _ c.from_residual.result
    (BeginsTable-nothing c.args.verified.now.program _
    (subst IsImage c.image.ensures.program c.recall.ensures))

pub returns-clause-ok : goal.returns-clause-ok
returns-clause-ok g c =
    let p = c.args.verified.now.program in
    let es = entries_for c.in_ok-explored.explored in
    let old = g.W.Write.contents c.args.writer.now in
    let new = g.W.Write.contents c.write_explored.new.writer in
    on_ok_weaker c.write_explored.result
    (λ (h : GainsTableOf p es old new). GainsTable-of p es old new h) c.write_explored.ensures.ok
