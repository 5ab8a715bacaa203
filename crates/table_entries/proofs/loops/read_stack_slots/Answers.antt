use Rattle.table_entries.proofs.Common.{◌≡◌, ◌∙◌, List, length, take, drop, replicate, ap, arith, err_from_is_err_and, StackSlot, Written, frame_slots, slot_at, stack_slot_in, kept}
use Rattle.std.proofs.lemmas.List.{length-set, length-replicate, take_all, take-append-le}
use Rattle.table_entries.proofs.BlankStackSlots.{blank_so_far}
use Rattle.table_entries.proofs.Many.{kept-goes_on, many-stops, kept-done}
use Rattle.table_entries.proofs.loops.read_stack_slots.Goals as goal

pub loop-index-init : goal.loop-index-init
loop-index-init c =
    let n = c.blank_stack_slots-blank.result in
    let front : List StackSlot = replicate n (Written 0) in
    let count = length-replicate n (Written 0) in
    let blank : take n c.forget_before.new.self.slots ≡ front =
    ap (take n) c.forget_before.ensures.before
    ∙ take-append-le n front (drop n c.args.stack.now.slots) (omega (arith, count))
    ∙ take_all n front (omega (arith, count)) in
    record {
      so_far =
          rw (blank, c.skip-rest.ensures)
          (blank_so_far c.args.rows c.args.holder frame_slots n c.args.bytes.now
          c.blank_stack_slots-blank.ensures.most c.blank_stack_slots-blank.ensures.zeros);
      long = c.forget_before.ensures.wide;
    }

pub loop-index-preserved : goal.loop-index-preserved
loop-index-preserved c =
    let xs = c.loop-index.stack.slots in
    let x = slot_at c.read_stack_slot.new.stack.slots c.loop-index.index in
    record {
      so_far =
          rw (c.both-allowed.ensures, c.read_stack_slot.ensures.others)
          (kept-goes_on (λ k. stack_slot_in c.args.rows c.args.holder) c.loop-index.allowed
          c.in_ok-fits.fits xs frame_slots c.loop-index.index c.loop-index.rest.now x
          c.in_ok-fits.after.now _ (omega arith)
          (omega (arith, c.loop-index.invariant.long)) c.in_ok-fits.ensures.read
          c.loop-index.invariant.so_far);
      long =
          ap length c.read_stack_slot.ensures.others ∙ length-set xs c.loop-index.index x
          ∙ c.loop-index.invariant.long;
    }

pub returns-in_err-fits : goal.returns-in_err-fits
returns-in_err-fits c =
    let p = err_from_is_err_and c.from_residual.result c.from_residual.ensures.1 in
    rw (p.1, p.2)
    (many-stops (λ k. stack_slot_in c.args.rows c.args.holder)
    (kept c.loop-index.allowed (take c.loop-index.index c.loop-index.stack.slots)) frame_slots
    c.loop-index.index
    c.loop-index.rest.now c.in_err-fits.field-0.0 _
    (omega arith) c.in_err-fits.ensures.read c.loop-index.invariant.so_far)

pub returns : goal.returns
returns c =
    kept-done (λ k. stack_slot_in c.args.rows c.args.holder) c.loop-index.allowed
    c.loop-index.stack.slots frame_slots c.loop-index.index c.loop-index.rest.now _ (omega arith)
    (omega arith) c.loop-index.invariant.so_far
