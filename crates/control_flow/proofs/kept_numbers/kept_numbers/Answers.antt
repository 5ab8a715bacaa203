use Rattle.control_flow.proofs.Common.{HasHome, subst}
use Rattle.control_flow.proofs.KeptMasks.{AreWithinBelow-start, AreWithinBelow-more}
use Rattle.control_flow.proofs.Graphs.{jump_from-stays, nodes_near}
use Rattle.control_flow.proofs.kept_numbers.kept_numbers.Goals as goal

pub of-requires-clause-near : goal.of-requires-clause-near
of-requires-clause-near c =
    rw c.deref-2.ensures.value
    (nodes_near c.args.image.now c.in_ok-nodes.nodes.items c.in_ok-nodes.ensures)

pub of-requires-clause-inside : goal.of-requires-clause-inside
of-requires-clause-inside c =
    rw c.deref-2.ensures.value
    (jump_from-stays c.args.image.now c.in_ok-nodes.nodes.items c.in_ok-nodes.ensures c.requires)

pub loop-slot-init : goal.loop-slot-init
loop-slot-init c =
    rw c.in_ok-masks.ensures.items (λ known. AreWithinBelow-start c.args.tested.now)

pub loop-slot-preserved : goal.loop-slot-preserved
loop-slot-preserved c =
    rw c.in_ok-push.ensures.items
    (λ known. AreWithinBelow-more c.loop-slot.slot c.loop-slot.masks.items c.args.tested.now
    c.kept_at.result
    (λ h has. subst (λ m. HasHome m h) c.mask_of-tested.ensures (c.kept_at.ensures known h has))
    (c.loop-slot.invariant known))
