use Rattle.control_flow.proofs.Common.{arith, HasEdges}
use Rattle.control_flow.proofs.Graphs.{nodes_more, nodes_all}
use Rattle.control_flow.proofs.kept_numbers.keeping_nodes.Goals as goal

pub loop-slot-preserved : goal.loop-slot-preserved
loop-slot-preserved c =
    rw c.in_ok-push.ensures.items
    (nodes_more (HasEdges c.args.image.now) c.loop-slot.slot c.loop-slot.nodes.items
    c.keeping_node.result c.keeping_node.ensures c.loop-slot.invariant)

pub returns : goal.returns
returns c =
    nodes_all (HasEdges c.args.image.now) c.args.image.now c.loop-slot.slot
    c.loop-slot.nodes.items (omega arith) c.loop-slot.invariant
