use Rattle.table_entries.proofs.Common.{◌≡◌, ◌-◌, true, arith, err_from_is_err_and, frame_in, callers_in, seen}
use Rattle.table_entries.proofs.Seen.{seen-begins, seen-goes_on, seen-stops, seen-done}
use Rattle.table_entries.proofs.passing.pass_callers.Goals as goal

pub loop-holder-init : goal.loop-holder-init
loop-holder-init c =
    let all : c.args.count - 0 ≡ c.args.count = omega arith in
    record {
      so_far = rw all (seen-begins (seen (callers_in c.args.rows c.args.count c.args.bytes.now)));
      passed = c.requires;
    }

pub loop-holder-preserved : goal.loop-holder-preserved
loop-holder-preserved c =
    record {
      so_far =
          rw c.both-allowed.ensures
          (seen-goes_on (λ k. frame_in c.args.rows k true) c.loop-holder.allowed c.args.count
          c.loop-holder.holder c.loop-holder.rest.now c.in_ok-fits.fits
          c.in_ok-fits.after.now _ (omega arith) c.in_ok-fits.ensures.read
          c.loop-holder.invariant.so_far);
      passed = c.pass_caller.ensures.passed;
    }

pub returns-in_err-fits-clause-read : goal.returns-in_err-fits-clause-read
returns-in_err-fits-clause-read c =
    let p = err_from_is_err_and c.from_residual.result c.from_residual.ensures.1 in
    rw (p.1, p.2)
    (seen-stops (λ k. frame_in c.args.rows k true) c.loop-holder.allowed c.args.count
    c.loop-holder.holder c.loop-holder.rest.now c.in_err-fits.field-0.0 _
    (omega arith) c.in_err-fits.ensures.read c.loop-holder.invariant.so_far)

pub returns-clause-read : goal.returns-clause-read
returns-clause-read c =
    seen-done (λ k. frame_in c.args.rows k true) c.loop-holder.allowed c.args.count
    c.loop-holder.holder c.loop-holder.rest.now _ (omega arith)
    c.loop-holder.invariant.so_far
