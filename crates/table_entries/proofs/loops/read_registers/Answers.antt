use Rattle.table_entries.proofs.Common.{◌∙◌, take, arith, length-set, err_from_is_err_and, kind_in, kept}
use Rattle.table_entries.proofs.Many.{kept-goes_on, many-stops, kept-done}
use Rattle.table_entries.proofs.loops.read_registers.Goals as goal

pub loop-index-preserved : goal.loop-index-preserved
loop-index-preserved c =
    let xs = c.loop-index.registers in
    let x = c.read_kind.new.kind in
    record {
      so_far =
          rw c.both-allowed.ensures
          (kept-goes_on (λ k. kind_in c.args.rows c.args.holder) c.loop-index.allowed
          c.in_ok-fits.fits xs 10 c.loop-index.index c.loop-index.rest.now x
          c.in_ok-fits.after.now _ (omega arith)
          (omega arith) c.in_ok-fits.ensures c.loop-index.invariant.so_far);
      long = length-set xs c.loop-index.index x ∙ c.loop-index.invariant.long;
    }

pub returns-in_err-fits : goal.returns-in_err-fits
returns-in_err-fits c =
    let p = err_from_is_err_and c.from_residual.result c.from_residual.ensures.1 in
    rw (p.1, p.2)
    (many-stops (λ k. kind_in c.args.rows c.args.holder)
    (kept c.loop-index.allowed (take c.loop-index.index c.loop-index.registers)) 10
    c.loop-index.index
    c.loop-index.rest.now c.in_err-fits.field-0.0 _
    (omega arith) c.in_err-fits.ensures c.loop-index.invariant.so_far)

pub returns : goal.returns
returns c =
    kept-done (λ k. kind_in c.args.rows c.args.holder) c.loop-index.allowed c.loop-index.registers
    10 c.loop-index.index c.loop-index.rest.now _ (omega arith)
    (omega arith) c.loop-index.invariant.so_far
