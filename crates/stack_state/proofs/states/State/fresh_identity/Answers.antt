use Rattle.stack_state.proofs.Common.{◌*◌, Bool, false, List, length, replicate, subst, arith, AreFree, IsFreshAt, Marks}
use Rattle.stack_state.proofs.MarksLaws.{marked-replicate, is_marked-replicate, IsLeastFresh-marks}
use Rattle.stack_state.proofs.states.State.fresh_identity.Goals as goal

pub first_free-requires : goal.first_free-requires
first_free-requires c =
    let frames = c.mark_frames.ensures.few in
    let last = c.mark_frame.ensures.few in
    let few = c.as_slice.ensures.fits in
    omega (arith, marked-replicate 594)

pub returns : goal.returns
returns c =
    let a = c.args.self.now in
    let none : List Bool = replicate 594 false in
    let callers : Marks (AreFree (IsFreshAt c.args.sort a.callers.items) (length a.callers.items))
    (74 * length a.callers.items) none c.mark_frames.new.named =
    subst (λ fs.
    Marks (AreFree (IsFreshAt c.args.sort fs) (length fs))
    (74 * length fs) none c.mark_frames.new.named)
    c.as_slice.ensures.value c.mark_frames.ensures in
    let first = c.first_free.ensures in
    IsLeastFresh-marks c.args.sort a
    (74 * length a.callers.items) 74 c.first_free.result none c.mark_frames.new.named
    c.mark_frame.new.named
    callers c.mark_frame.ensures (is_marked-replicate 594) first.some
    (omega arith) first.free first.least
