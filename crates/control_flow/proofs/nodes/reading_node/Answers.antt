use Rattle.std.proofs.Common.{refl, rules}
use Rattle.control_flow.proofs.Graphs.{reading_some, reading_none}
use Rattle.control_flow.proofs.nodes.reading_node.Goals as goal

pub returns-in-Some : goal.returns-in-Some
returns-in-Some c =
    reading_some c.args.image.now c.args.slot c.in-Some.insn.now c.blank_node-node.result _
    c.args.taken (search rules) c.requires.taken c.blank_node-node.ensures c.homes_read.ensures
    c.homes_written.ensures refl refl refl

pub returns-in-None : goal.returns-in-None
returns-in-None c =
    reading_none c.args.image.now c.args.slot c.blank_node-node.result (search rules)
    c.blank_node-node.ensures
