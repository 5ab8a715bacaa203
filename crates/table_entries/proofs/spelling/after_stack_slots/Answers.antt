use Rattle.table_entries.proofs.Common.{◌≡◌, Ok, Some, take, take_all, ap, ◌∙◌, arith, frame_slots, stack_slot_in}
use Rattle.table_entries.proofs.Many.{spelled-goes_on, many-done}
use Rattle.table_entries.proofs.BlankStackSlots.{blank_so_far}
use Rattle.table_entries.proofs.spelling.after_stack_slots.Goals as goal

pub loop-index-init : goal.loop-index-init
loop-index-init c =
    let blank : take c.blank_stack_slots-blank.result c.args.slots.now ≡ _ =
    c.are_blank.ensures c.if-not-are_blank.false in
    rw (blank, c.skip-rest.ensures)
    (blank_so_far c.args.rows c.args.holder frame_slots c.blank_stack_slots-blank.result
    c.args.bytes.now
    c.blank_stack_slots-blank.ensures.most c.blank_stack_slots-blank.ensures.zeros)

pub loop-index-preserved : goal.loop-index-preserved
loop-index-preserved c =
    spelled-goes_on (λ k. stack_slot_in c.args.rows c.args.holder) c.args.slots.now frame_slots
    c.loop-index.index c.loop-index.rest.now c.index-slots-index.result
    c.in_ok-rest.rest.now _ (omega arith) (omega arith) c.in_ok-rest.ensures c.loop-index.invariant

pub returns : goal.returns
returns c =
    let whole : take c.loop-index.index c.args.slots.now ≡ c.args.slots.now =
    take_all c.loop-index.index c.args.slots.now (omega arith) in
    many-done (λ k. stack_slot_in c.args.rows c.args.holder)
    (Some (take c.loop-index.index c.args.slots.now)) frame_slots c.loop-index.index
    c.loop-index.rest.now _ (omega arith)
    c.loop-index.invariant
    ∙ ap (λ xs. Ok (Some xs, c.loop-index.rest.now)) whole
