use Rattle.machine.proofs.BetweenRunsLaws.{keeps_rows, updates, versioned_again}
use Rattle.machine.proofs.machines.Machine.update.Goals as goal

pub invariant_of-self : goal.invariant_of-self
invariant_of-self c =
    let p = c.self.inside.program in
    let bound = c.self.inside.bound in
    let memory = c.self.inside.memory in
    let new = c.update-answer.new.self in
    versioned_again p bound c.self.inside.version memory new c.self.invariant
    (keeps_rows p bound memory.maps c.self.invariant.ready.rows c.args.self.now c.self.view_is
    c.args.map c.requires.map new c.update-answer.ensures.others c.update-answer.ensures.updated.row)
    c.say_fits-2.ensures

pub returns : goal.returns
returns c =
    updates c.self.inside.program c.self.inside.bound c.self.inside.memory.maps
    c.self.invariant.ready.rows c.args.self.now c.self.view_is c.args.map c.requires.map
    c.update-answer.new.self c.update-answer.ensures.others c.args.key.now c.args.value.now
    c.args.flags c.update-answer.result c.update-answer.ensures.updated
