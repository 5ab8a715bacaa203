use Rattle.machine.specs.BetweenRuns.{row_at}
use Rattle.machine.proofs.BetweenRunsLaws.{inside, row_is, value_size_is}
use Rattle.machine.proofs.machines.Machine.lookup.Goals as goal

pub returns-clause-size : goal.returns-clause-size
returns-clause-size c =
    let p = c.self.inside.program in
    let bound = c.self.inside.bound in
    let maps = c.self.inside.memory.maps in
    let ready = c.self.invariant.ready in
    value_size_is maps c.say_fits.ensures c.args.map
    (inside p bound maps ready.rows c.args.self.now c.self.view_is c.args.map c.requires.map)
    c.args.key.now
    (row_at c.args.self.now c.args.map) c.lookup.result
    (row_is p bound maps ready.rows c.args.self.now c.self.view_is c.args.map c.requires.map)
    c.lookup.ensures
