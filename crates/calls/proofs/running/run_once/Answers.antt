use Rattle.calls.proofs.Common.{ℕ, sym, subst, FrameHead, ReturnsOutcome}
use Rattle.calls.proofs.running.run_once.Goals as goal

pub returns-clause-ran : goal.returns-clause-ran
returns-clause-ran c = λ _.
    let head : FrameHead = record {
      time = c.args.head.now.time;
      interface = c.args.head.now.interface;
      queue = c.args.head.now.queue;
    } in
    record {
      bound = c.in-Ok.verified.bound;
      accepts =
          record {
            program = c.in-Ok.verified.program;
            spelled = c.in-Ok.ensures.spelled;
            verified = c.in-Ok.ensures.verified;
          };
      left = c.run-exit.new.self.contents;
      coming = λ _. c.run-exit.new.clock.time;
      returns = rw (sym c.in-Some.ensures.made)
          (subst (λ (t : ℕ). ReturnsOutcome c.in-Some.machine head c.args.packet.now
          (λ _. t) c.run-exit.result
          c.run-exit.new.packet c.run-exit.new.self.contents (λ _. c.run-exit.new.clock.time))
          c.clock_at-clock.ensures c.run-exit.ensures.outcome);
    }
