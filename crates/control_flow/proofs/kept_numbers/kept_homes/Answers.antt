use Rattle.control_flow.proofs.Graphs.{jump_from-stays, nodes_near}
use Rattle.control_flow.proofs.kept_numbers.kept_homes.Goals as goal

pub wanted_homes-requires-clause-near : goal.wanted_homes-requires-clause-near
wanted_homes-requires-clause-near c =
    rw c.deref.ensures.value
    (nodes_near c.args.image.now c.in_ok-nodes.nodes.items c.in_ok-nodes.ensures)

pub wanted_homes-requires-clause-inside : goal.wanted_homes-requires-clause-inside
wanted_homes-requires-clause-inside c =
    rw c.deref.ensures.value
    (jump_from-stays c.args.image.now c.in_ok-nodes.nodes.items c.in_ok-nodes.ensures c.requires)
