use Rattle.control_flow.specs.Nodes.{ShowsTests}
use Rattle.control_flow.proofs.Graphs.{NodesBelow}
use Rattle.control_flow.proofs.nodes.testing_nodes.Given as goal

-- the nodes are those of the slots up to here
abbrev pub invariant-loop-slot : goal.invariant-loop-slot
invariant-loop-slot l = NodesBelow (ShowsTests l.image) l.slot l.nodes.items
