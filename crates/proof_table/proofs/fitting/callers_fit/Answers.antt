use Rattle.proof_table.proofs.Common.{ℕ, get_or, true, refl, subst, below_more, get_or_read_under, AbstractFrame, FrameFits, frame_said}
use Rattle.proof_table.proofs.fitting.callers_fit.Goals as goal

pub loop-holder-preserved : goal.loop-holder-preserved
loop-holder-preserved c = λ k d less.
    let callers = c.args.callers.now in
    let i = c.loop-holder.holder in
    let read =
    get_or_read_under callers i _ c.index-callers-holder.result d c.index-callers-holder.is
    c.loop-holder-test.true refl in
    below_more (λ (j : ℕ). FrameFits c.args.rows j true (frame_said (get_or callers j d))) i
    (λ j below. c.loop-holder.invariant j d below)
    (subst (λ (f : AbstractFrame). FrameFits c.args.rows i true (frame_said f)) read
    (c.if-not-frame_fits.ensures.0 refl)) k less
