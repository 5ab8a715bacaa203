use Rattle.proof_table.proofs.Common.{ℕ, List, arith, subst, sym, OnOk, OnErr, Appends, Program, AppendsBeginning, IsImage, start, HasNumber, OfStart, on_err, BeginsTable, GainsTableOf, BeginsEntries, GainsEntries, entries_for}
use Rattle.std.proofs.lemmas.Result.{on_err_weaker, on_ok_weaker}
use Rattle.proof_table.proofs.WritingLaws.{GainsTableOf-entries, BeginsTable-entries, BeginsTable-head, BeginsTable-nothing}
use Rattle.proof_table.proofs.tables.write_explored.Goals as goal

pub returns-in_err-buffer-clause-err : goal.returns-in_err-buffer-clause-err
returns-in_err-buffer-clause-err g c =
    on_err _ c.from_residual.result
    (BeginsTable-nothing c.args.verified.now.program _
    (subst IsImage c.image-image.ensures.program c.recall.ensures))

pub returns-in_err-write_all-clause-err : goal.returns-in_err-write_all-clause-err
returns-in_err-write_all-clause-err g c =
    let p = c.args.verified.now.program in
    let part = subst
    (λ (l : List ℕ). AppendsBeginning (g.W.Write.contents c.args.writer.now)
    (g.W.Write.contents c.write_all.new.writer) l) c.head_bytes.ensures
    c.in_err-write_all.ensures.err in
    on_err _ c.from_residual-in_err-write_all.result
    (BeginsTable-head p c.len-count.result _ _
    (subst IsImage c.image-image.ensures.program c.recall.ensures)
    (omega (arith, c.requires.some, c.len-count.ensures))
    (omega (arith, c.requires.few, c.len-count.ensures)) part)

pub returns-clause-ok : goal.returns-clause-ok
returns-clause-ok g c =
    let old = g.W.Write.contents c.args.writer.now in
    let mid = g.W.Write.contents c.write_all.new.writer in
    let new = g.W.Write.contents c.write_entries.new.writer in
    let n = c.len-count.result in
    let head =
    subst (λ (l : List ℕ). Appends old mid l) c.head_bytes.ensures
    c.in_ok-write_all.ensures.ok in
    subst (λ (p : Program). OnOk c.write_entries.result
    (GainsTableOf p (entries_for c.args.explored.now) old new))
    c.image-image.ensures.program
    (on_ok_weaker c.write_entries.result
    (λ (h : GainsEntries c.image-image.result.now c.args.explored.now n mid new).
    GainsTableOf-entries c.image-image.result.now c.args.explored.now n old mid new
    c.len-count.ensures
    (omega (arith, c.requires.some, c.len-count.ensures))
    (omega (arith, c.requires.few, c.len-count.ensures))
    (subst (λ (p : Program). OfStart c.args.explored.now (HasNumber p start))
    (sym c.image-image.ensures.program) c.requires.number) head h)
    c.write_entries.ensures.ok)

pub returns-clause-err : goal.returns-clause-err
returns-clause-err g c =
    let old = g.W.Write.contents c.args.writer.now in
    let mid = g.W.Write.contents c.write_all.new.writer in
    let new = g.W.Write.contents c.write_entries.new.writer in
    let n = c.len-count.result in
    let head =
    subst (λ (l : List ℕ). Appends old mid l) c.head_bytes.ensures
    c.in_ok-write_all.ensures.ok in
    subst (λ (p : Program). OnErr c.write_entries.result (BeginsTable p old new))
    c.image-image.ensures.program
    (on_err_weaker c.write_entries.result
    (λ (h : BeginsEntries c.image-image.result.now n mid new). BeginsTable-entries
    c.image-image.result.now n old mid new
    (omega (arith, c.requires.some, c.len-count.ensures))
    (omega (arith, c.requires.few, c.len-count.ensures)) head h)
    c.write_entries.ensures.err)
