use Rattle.std.proofs.Common.{refl, rules}
use Rattle.control_flow.proofs.Graphs.{testing_some, testing_none}
use Rattle.control_flow.proofs.nodes.testing_node.Goals as goal

pub returns-in-Some : goal.returns-in-Some
returns-in-Some c =
    testing_some c.args.image.now c.args.slot c.in-Some.insn.now c.blank_node-node.result _
    c.args.taken (search rules) c.requires.taken c.blank_node-node.ensures
    c.registers_tested.ensures c.none.ensures c.homes_written.ensures c.may_read.ensures
    c.may_write.ensures refl refl

pub returns-in-None : goal.returns-in-None
returns-in-None c =
    testing_none c.args.image.now c.args.slot c.blank_node-node.result (search rules)
    c.blank_node-node.ensures
