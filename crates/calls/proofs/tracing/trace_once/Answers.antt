use Rattle.calls.proofs.Common.{◌≡◌, ℕ, ap, ◌∙◌, subst, FrameHead}
use Rattle.isa_model.specs.declared.ends.End.{End}
use Rattle.isa_model.specs.Running.Runs.{turn}
use Rattle.checked_vm.specs.Machines.{LoadedProgram}
use Rattle.calls.specs.Traces.{end_of}
use Rattle.calls.proofs.tracing.trace_once.Goals as goal

pub returns-clause-traced : goal.returns-clause-traced
returns-clause-traced c = λ _.
    let head : FrameHead = record {
      time = c.args.head.now.time;
      interface = c.args.head.now.interface;
      queue = c.args.head.now.queue;
    } in
    let machine = c.in-Ok-new.machine in
    let made = c.in-Ok-new.ensures.made in
    let ended = subst
    (λ (t : ℕ). c.run-end.result
    ≡ (turn machine.program c.args.limit (λ _. t) head c.args.packet.now machine.contents).ends)
    c.clock_at-clock.ensures c.run-end.ensures.ends in
    let left = subst
    (λ (t : ℕ). c.run-end.new.packet
    ≡ (turn machine.program c.args.limit
    (λ _. t) head c.args.packet.now machine.contents).packet)
    c.clock_at-clock.ensures c.run-end.ensures.packet in
    record {
      program = c.in-Ok.program;
      spelled = c.in-Ok.ensures.found;
      is_image = c.in-Ok.ensures.fits;
      ends =
          subst (λ (m : LoadedProgram). c.end_of.result
          ≡ end_of (turn m.program c.args.limit
          (λ _. head.time) head c.args.packet.now m.contents).ends c.args.limit)
          made (c.end_of.ensures ∙ ap (λ (e : End). end_of e c.args.limit) ended);
      packet_is =
          subst (λ (m : LoadedProgram). c.run-end.new.packet
          ≡ (turn m.program c.args.limit (λ _. head.time) head c.args.packet.now m.contents).packet)
          made left;
    }
