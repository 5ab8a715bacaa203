use Rattle.machine.proofs.BetweenRunsLaws.{keeps_rows, deletes, versioned_again}
use Rattle.machine.proofs.machines.Machine.delete.Goals as goal

pub invariant_of-self : goal.invariant_of-self
invariant_of-self c =
    let p = c.self.inside.program in
    let bound = c.self.inside.bound in
    let memory = c.self.inside.memory in
    let new = c.delete-answer.new.self in
    versioned_again p bound c.self.inside.version memory new c.self.invariant
    (keeps_rows p bound memory.maps c.self.invariant.ready.rows c.args.self.now c.self.view_is
    c.args.map c.requires.map new c.delete-answer.ensures.others c.delete-answer.ensures.deleted.row)
    c.say_fits-2.ensures

pub returns : goal.returns
returns c =
    deletes c.self.inside.program c.self.inside.bound c.self.inside.memory.maps
    c.self.invariant.ready.rows c.args.self.now c.self.view_is c.args.map c.requires.map
    c.delete-answer.new.self c.delete-answer.ensures.others c.args.key.now c.delete-answer.result
    c.delete-answer.ensures.deleted
