use Rattle.table_entries.proofs.Common.{arith, err_from_is_err_and, frame_slots, stack_slot_in}
use Rattle.table_entries.proofs.BlankStackSlots.{blank_passed}
use Rattle.table_entries.proofs.Seen.{seen-goes_on, seen-stops, seen-done}
use Rattle.table_entries.proofs.passing.pass_stack_slots.Goals as goal

pub loop-index-init : goal.loop-index-init
loop-index-init c =
    rw c.skip-rest.ensures
    (blank_passed c.args.rows c.args.holder frame_slots c.blank_stack_slots-blank.result
    c.args.bytes.now
    c.blank_stack_slots-blank.ensures.most c.blank_stack_slots-blank.ensures.zeros)

pub loop-index-preserved : goal.loop-index-preserved
loop-index-preserved c =
    rw c.both-allowed.ensures
    (seen-goes_on (λ k. stack_slot_in c.args.rows c.args.holder) c.loop-index.allowed frame_slots
    c.loop-index.index c.loop-index.rest.now c.in_ok-fits.fits c.in_ok-fits.after.now _
    (omega arith) c.in_ok-fits.ensures c.loop-index.invariant)

pub returns-in_err-fits : goal.returns-in_err-fits
returns-in_err-fits c =
    let p = err_from_is_err_and c.from_residual.result c.from_residual.ensures.1 in
    rw (p.1, p.2)
    (seen-stops (λ k. stack_slot_in c.args.rows c.args.holder) c.loop-index.allowed frame_slots
    c.loop-index.index c.loop-index.rest.now c.in_err-fits.field-0.0 _ (omega arith)
    c.in_err-fits.ensures c.loop-index.invariant)

pub returns : goal.returns
returns c =
    seen-done (λ k. stack_slot_in c.args.rows c.args.holder) c.loop-index.allowed frame_slots
    c.loop-index.index c.loop-index.rest.now _ (omega arith) c.loop-index.invariant
