use Rattle.std.proofs.Common.{arith}
use Rattle.kept_states.proofs.GroupLaws.{slot_parts-next, slot_parts-done}
use Rattle.kept_states.proofs.kept_frames.are_slots.Goals as goal

pub loop-index-preserved : goal.loop-index-preserved
loop-index-preserved c = λ ys left.
    c.loop-index.invariant ys
    (slot_parts-next c.loop-index.rest c.is_slot.new.self ys c.args.slots.now c.loop-index.index
    c.index-slots-index.result (omega arith) (c.is_slot.ensures c.if-not-is_slot.false) left)

pub returns-clause-same : goal.returns-clause-same
returns-clause-same c = λ yes.
    c.loop-index.invariant c.loop-index.rest
    (slot_parts-done c.loop-index.rest c.args.slots.now c.loop-index.index (omega arith))
