use Rattle.calls.proofs.Common.{◌∙◌, ℕ, Some, arith, sym, ap, subst, FrameHead, Running, ReturnsOutcome}
use Rattle.calls.proofs.session_runs.run_session.Goals as goal

pub run-exit-requires : goal.run-exit-requires
run-exit-requires c = omega arith

pub returns-clause-wrong : goal.returns-clause-wrong
returns-clause-wrong c = grind arith

pub returns-clause-ran : goal.returns-clause-ran
returns-clause-ran c = λ _.
    let head : FrameHead = record {
      time = c.args.head.now.time;
      interface = c.args.head.now.interface;
      queue = c.args.head.now.queue;
    } in
    let machine = c.deref_mut.result.now in
    let left = c.run-exit.new.self.contents in
    record {
      machine = machine;
      left = left;
      coming = λ _. c.run-exit.new.clock.time;
      was = sym c.in-Some.ensures.machine
          ∙ ap (λ (r : Running). Some r) (sym c.deref_mut.ensures.value);
      is = c.put.ensures
          ∙ (λ i. Some (record {
            program = c.run-exit.ensures.program i;
            bound = c.run-exit.ensures.bound i;
            contents = left;
          }));
      returns =
          subst (λ (t : ℕ). ReturnsOutcome machine head c.args.packet.now
          (λ _. t) c.run-exit.result c.run-exit.new.packet left (λ _. c.run-exit.new.clock.time))
          c.clock_at-clock.ensures c.run-exit.ensures.outcome;
    }

pub returns-clause-within : goal.returns-clause-within
returns-clause-within c = λ _.
    let outcome = c.run-exit.ensures.outcome in
    let steps = outcome.steps_are in
    let few = outcome.few in
    record {
      machine = c.deref_mut.result.now;
      is = sym c.in-Some.ensures.machine
          ∙ ap (λ (r : Running). Some r) (sym c.deref_mut.ensures.value);
      so = omega (arith, steps, few);
    }
