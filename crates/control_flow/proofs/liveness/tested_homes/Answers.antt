use Rattle.control_flow.proofs.Common.{IfOk-weaker, AreTestedMasks, AreWantedMasks}
use Rattle.control_flow.proofs.Graphs.{testing_edges, jump_from-stays, nodes_near}
use Rattle.control_flow.proofs.WantedPaths.{AreWantedMasks-tested}
use Rattle.control_flow.proofs.liveness.tested_homes.Goals as goal

pub wanted_homes-requires-clause-near : goal.wanted_homes-requires-clause-near
wanted_homes-requires-clause-near c =
    rw c.deref.ensures.value
    (nodes_near c.args.image.now c.in_ok-nodes.nodes.items
    (testing_edges c.args.image.now c.in_ok-nodes.nodes.items c.in_ok-nodes.ensures))

pub wanted_homes-requires-clause-inside : goal.wanted_homes-requires-clause-inside
wanted_homes-requires-clause-inside c =
    rw c.deref.ensures.value
    (jump_from-stays c.args.image.now c.in_ok-nodes.nodes.items
    (testing_edges c.args.image.now c.in_ok-nodes.nodes.items c.in_ok-nodes.ensures)
    c.requires.inside)

pub returns : goal.returns
returns c =
    let p = c.args.image.now in
    let nodes = c.in_ok-nodes.nodes.items in
    IfOk-weaker c.wanted_homes.result (λ masks. AreWantedMasks nodes masks.items)
    (λ masks. AreTestedMasks p masks.items)
    (λ masks wanted. AreWantedMasks-tested p nodes masks.items c.in_ok-nodes.ensures wanted)
    (rw c.deref.ensures.value at c.wanted_homes.ensures)
