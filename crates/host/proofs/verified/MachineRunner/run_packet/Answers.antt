use Rattle.std.proofs.Common.{sym}
use Rattle.host.proofs.Accepted.{turn-ReturnsOutcome}
use Rattle.host.proofs.verified.MachineRunner.run_packet.Goals as goal

pub returns-clause-ends : goal.returns-clause-ends
returns-clause-ends c =
    let (ends, packet, contents) = turn-ReturnsOutcome c.args.self.now c.args.head
    c.args.body.now
    (λ k. c.args.head.time) c.run-exit.result _ _ _ c.run-exit.ensures.outcome in
    sym ends

pub returns-clause-body : goal.returns-clause-body
returns-clause-body c =
    let (ends, packet, contents) = turn-ReturnsOutcome c.args.self.now c.args.head
    c.args.body.now
    (λ k. c.args.head.time) c.run-exit.result _ _ _ c.run-exit.ensures.outcome in
    sym packet

pub returns-clause-contents : goal.returns-clause-contents
returns-clause-contents c =
    let (ends, packet, contents) = turn-ReturnsOutcome c.args.self.now c.args.head
    c.args.body.now
    (λ k. c.args.head.time) c.run-exit.result _ _ _ c.run-exit.ensures.outcome in
    sym contents
