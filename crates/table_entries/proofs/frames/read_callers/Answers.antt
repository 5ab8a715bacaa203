use Rattle.table_entries.proofs.Common.{ℕ, true, arith, err_from_is_err_and, frame_in, kept}
use Rattle.table_entries.proofs.Many.{many-goes_on, many-stops, many-done, many-begins, kept-both}
use Rattle.table_entries.proofs.frames.read_callers.Goals as goal

pub loop-holder-init : goal.loop-holder-init
loop-holder-init c =
    record {
      so_far =
          rw c.clear.ensures
          (many-begins (λ k. frame_in c.args.rows k true) c.args.count c.args.bytes.now);
      long = rw c.clear.ensures;
    }

pub loop-holder-preserved : goal.loop-holder-preserved
loop-holder-preserved c =
    let one = λ (k : ℕ). frame_in c.args.rows k true in
    let items = c.loop-holder.callers.items in
    let frame = c.read_frame.new.frame in
    record {
      so_far =
          rw (
            c.both-allowed.ensures,
            c.push.ensures.items,
            c.copy.ensures,
            kept-both c.loop-holder.allowed
                c.in_ok-fits.fits items frame,
          )
          (many-goes_on one
          (kept c.loop-holder.allowed items) c.args.count c.loop-holder.holder
          c.loop-holder.rest.now (kept c.in_ok-fits.fits frame)
          c.in_ok-fits.after.now _
          (omega arith) c.in_ok-fits.ensures c.loop-holder.invariant.so_far);
      long = omega arith;
    }

pub returns-in_err-fits : goal.returns-in_err-fits
returns-in_err-fits c =
    let p = err_from_is_err_and c.from_residual.result c.from_residual.ensures.1 in
    rw (p.1, p.2)
    (many-stops (λ k. frame_in c.args.rows k true)
    (kept c.loop-holder.allowed c.loop-holder.callers.items) c.args.count c.loop-holder.holder
    c.loop-holder.rest.now c.in_err-fits.field-0.0 _
    (omega arith) c.in_err-fits.ensures c.loop-holder.invariant.so_far)

pub returns : goal.returns
returns c =
    many-done (λ k. frame_in c.args.rows k true)
    (kept c.loop-holder.allowed c.loop-holder.callers.items) c.args.count c.loop-holder.holder
    c.loop-holder.rest.now _ (omega arith) c.loop-holder.invariant.so_far
