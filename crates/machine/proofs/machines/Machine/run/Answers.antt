use Rattle.machine.proofs.Common.{◌≡◌, length, subst, ap, arith, contents_of, Running, ReturnsOutcome}
use Rattle.machine.proofs.Runs.{run_ends, run_returns, still_ready}
use Rattle.machine.proofs.machines.Machine.run.Goals as goal

pub run-ended-requires-clause-ends : goal.run-ended-requires-clause-ends
run-ended-requires-clause-ends g c =
    run_ends c.self.inside.program c.self.inside.bound c.self.inside.memory c.self.invariant.ready
    c.args.head c.args.packet.now (g.C.Clock.at c.args.clock.now)
    (g.met.C.Clock.within c.args.clock.now) c.requires c.in_range.ensures.bytes
    c.in_range.ensures.interface c.in_range.ensures.queue c.say_fits.ensures

pub run-ended-requires-clause-top : goal.run-ended-requires-clause-top
run-ended-requires-clause-top g c =
    let none : length c.self.inside.memory.saved.items ≡ 0 =
    ap length c.self.invariant.ready.outer in
    omega arith

pub invariant_of-self : goal.invariant_of-self
invariant_of-self g c =
    let (at, asked, exits, comes) = c.run-ended.ensures.exits in
    let ready = still_ready c.self.inside.program c.self.inside.bound c.self.inside.memory
    c.self.invariant.ready c.args.head c.args.packet.now (g.C.Clock.at c.args.clock.now)
    (g.met.C.Clock.within c.args.clock.now) c.requires c.in_range.ensures.bytes
    c.in_range.ensures.interface c.in_range.ensures.queue c.say_fits.ensures
    c.run-ended.result.number c.run-ended.result.steps at asked c.run-ended.new.regs
    c.run-ended.new.memory c.run-ended.new.packet exits c.run-ended.ensures.kept in
    record { ready = ready; version_is = c.self.invariant.version_is }

pub returns-clause-outcome : goal.returns-clause-outcome
returns-clause-outcome g c =
    let (at, asked, exits, comes) = c.run-ended.ensures.exits in
    subst (λ (r : Running). ReturnsOutcome r c.args.head c.args.packet.now
    (g.C.Clock.at c.args.clock.now)
    (record { r0 = c.run-ended.result.number; steps = c.run-ended.result.steps })
    c.run-ended.new.packet (contents_of c.run-ended.new.memory.maps)
    (g.C.Clock.at c.run-ended.new.clock))
    c.self.view_is
    (run_returns c.self.inside.program c.self.inside.bound c.self.inside.memory
    c.self.invariant.ready c.args.head c.args.packet.now (g.C.Clock.at c.args.clock.now)
    (g.met.C.Clock.within c.args.clock.now) c.requires c.in_range.ensures.bytes
    c.in_range.ensures.interface c.in_range.ensures.queue c.say_fits.ensures
    c.run-ended.result.number c.run-ended.result.steps at asked c.run-ended.new.regs
    c.run-ended.new.memory c.run-ended.new.packet exits
    (g.C.Clock.at c.run-ended.new.clock) comes)
