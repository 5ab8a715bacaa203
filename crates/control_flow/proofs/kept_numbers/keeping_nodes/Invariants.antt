use Rattle.control_flow.specs.Nodes.{HasEdges}
use Rattle.control_flow.proofs.Graphs.{NodesBelow}
use Rattle.control_flow.proofs.kept_numbers.keeping_nodes.Given as goal

-- the nodes are those of the slots up to here
abbrev pub invariant-loop-slot : goal.invariant-loop-slot
invariant-loop-slot l = NodesBelow (HasEdges l.image) l.slot l.nodes.items
