use Rattle.std.proofs.Common.{arith}
use Rattle.explanations.proofs.FrontLaws.{slots_begun, slots_done, slots_more}
use Rattle.explanations.proofs.fronts.keep_slots.Goals as goal

pub loop-index-init : goal.loop-index-init
loop-index-init c =
    slots_begun c.args.count c.known_from.result c.max-begin.result c.args.stack.now.slots
    c.known_from.ensures c.max-begin.ensures

pub loop-index-preserved : goal.loop-index-preserved
loop-index-preserved c =
    rw c.mark.ensures.set
    (slots_more c.args.count c.loop-index.index c.args.stack.now.slots c.loop-index.stack.slots
    (omega arith) (omega arith) c.loop-index.invariant)

pub returns : goal.returns
returns c =
    slots_done c.args.count c.loop-index.index c.args.stack.now.slots c.loop-index.stack.slots
    (omega arith) c.loop-index.invariant
