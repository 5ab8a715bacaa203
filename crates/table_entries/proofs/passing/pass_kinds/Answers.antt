use Rattle.table_entries.proofs.Common.{arith, err_from_is_err_and, kind_in, many, seen}
use Rattle.table_entries.proofs.Seen.{seen-begins, seen-goes_on, seen-stops, seen-done}
use Rattle.table_entries.proofs.passing.pass_kinds.Goals as goal

pub loop-index-init : goal.loop-index-init
loop-index-init c =
    seen-begins (seen (many (λ k. kind_in c.args.rows c.args.holder) 10 0 c.args.bytes.now))

pub loop-index-preserved : goal.loop-index-preserved
loop-index-preserved c =
    rw c.both-allowed.ensures
    (seen-goes_on (λ k. kind_in c.args.rows c.args.holder) c.loop-index.allowed 10
    c.loop-index.index c.loop-index.rest.now c.in_ok-fits.fits c.in_ok-fits.after.now _
    (omega arith) c.in_ok-fits.ensures c.loop-index.invariant)

pub returns-in_err-fits : goal.returns-in_err-fits
returns-in_err-fits c =
    let p = err_from_is_err_and c.from_residual.result c.from_residual.ensures.1 in
    rw (p.1, p.2)
    (seen-stops (λ k. kind_in c.args.rows c.args.holder) c.loop-index.allowed 10 c.loop-index.index
    c.loop-index.rest.now c.in_err-fits.field-0.0 _ (omega arith)
    c.in_err-fits.ensures c.loop-index.invariant)

pub returns : goal.returns
returns c =
    seen-done (λ k. kind_in c.args.rows c.args.holder) c.loop-index.allowed 10 c.loop-index.index
    c.loop-index.rest.now _ (omega arith) c.loop-index.invariant
