use Rattle.checked_vm.proofs.Common.{◌≡◌, ◌+◌, List, refl, sym, ap, ◌∙◌, subst, arith, State, left}
use Rattle.isa_model.specs.declared.ends.End.TheVariants.{Exit, Trap}
use Rattle.isa_model.proofs.RunLaws.{progress-zero}
use Rattle.checked_vm.proofs.Turns.{progress-next, turn_of-finished, turn_of-trapped, state_at-finished, state_at-trapped, begun_in-zero, begun_in-next, begun_in-finished, begun_in-trapped}
use Rattle.checked_vm.proofs.core_state.Core.steps.Goals as goal

pub loop-done-init : goal.loop-done-init
loop-done-init g c = record {
  so_far = λ p code rows version. progress-zero p _ _;
  running = c.requires.running;
  rows = refl;
  serial = omega arith;
  clock_calls = let none = c.requires.clock_calls in omega arith;
  clock = λ k.
      let none = c.requires.clock_calls in
      let same : k ≡ c.args.self.now.clock_calls + k = omega arith in
      ap (g.C.Clock.at c.args.clock.now) same;
  seen = λ p code rows version states h.
      subst (g.W.Watcher.has_seen c.args.watcher.now c.args.insns.now)
      (begun_in-zero p (g.C.Clock.at c.args.clock.now) _ states) h;
}

pub loop-done-preserved : goal.loop-done-preserved
loop-done-preserved g c =
    let inv = c.loop-done.invariant in
    let e = c.in-Went.ensures in
    record {
      so_far = λ p code rows version.
          progress-next p (g.C.Clock.at c.args.clock.now) c.loop-done.done _ _ _
          (inv.so_far p code rows version)
          (e.step p (g.C.Clock.at c.args.clock.now) code (rows ∙ sym inv.rows) version inv.clock);
      running = e.running;
      rows = e.rows ∙ inv.rows;
      serial = omega (arith, e.serial, inv.serial);
      clock_calls = omega (arith, e.clock_calls, inv.clock_calls);
      clock = e.clock (g.C.Clock.at c.args.clock.now) inv.clock;
      seen = λ p code rows version states h.
          subst (g.W.Watcher.has_seen c.see.new.self c.args.insns.now)
          (begun_in-next p (g.C.Clock.at c.args.clock.now) c.loop-done.done _ _ states
          (inv.so_far p code rows version))
          (c.see.ensures _ (inv.seen p code rows version states h));
    }

pub returns-in-Finished-clause-turn : goal.returns-in-Finished-clause-turn
returns-in-Finished-clause-turn g c = λ p code rows version.
    let inv = c.loop-done.invariant in
    let clock = g.C.Clock.at c.args.clock.now in
    let went = c.in-Finished.ensures.step p clock code (rows ∙ sym inv.rows) version inv.clock in
    turn_of-finished p clock c.loop-done.done c.args.limit c.in-Finished.number _ _
    (inv.so_far p code rows version) went.0 (omega arith)
    ∙ ap (left (Exit c.in-Finished.number (c.loop-done.done + 1))) (sym went.1)

pub returns-in-Trapped-clause-turn : goal.returns-in-Trapped-clause-turn
returns-in-Trapped-clause-turn g c = λ p code rows version.
    let inv = c.loop-done.invariant in
    let clock = g.C.Clock.at c.args.clock.now in
    let went = c.in-Trapped.ensures.step p clock code (rows ∙ sym inv.rows) version inv.clock in
    turn_of-trapped p clock c.loop-done.done c.args.limit c.in-Trapped.reason _ _
    (inv.so_far p code rows version) went.0 (omega arith)
    ∙ ap (left (Trap c.in-Trapped.reason c.loop-done.done)) (sym went.1)

pub returns-in-Finished-clause-clock : goal.returns-in-Finished-clause-clock
returns-in-Finished-clause-clock g c =
    c.in-Finished.ensures.clock (g.C.Clock.at c.args.clock.now) c.loop-done.invariant.clock

pub returns-in-Trapped-clause-clock : goal.returns-in-Trapped-clause-clock
returns-in-Trapped-clause-clock g c =
    c.in-Trapped.ensures.clock (g.C.Clock.at c.args.clock.now) c.loop-done.invariant.clock

pub returns-in-Finished-clause-stop : goal.returns-in-Finished-clause-stop
returns-in-Finished-clause-stop g c = λ p code rows version.
    let inv = c.loop-done.invariant in
    let clock = g.C.Clock.at c.args.clock.now in
    let went = c.in-Finished.ensures.step p clock code (rows ∙ sym inv.rows) version inv.clock in
    state_at-finished p clock c.loop-done.done c.args.limit c.in-Finished.number _ _
    (inv.so_far p code rows version) went.0 (omega arith) ∙ sym went.1

pub returns-in-Trapped-clause-stop : goal.returns-in-Trapped-clause-stop
returns-in-Trapped-clause-stop g c = λ p code rows version.
    let inv = c.loop-done.invariant in
    let clock = g.C.Clock.at c.args.clock.now in
    let went = c.in-Trapped.ensures.step p clock code (rows ∙ sym inv.rows) version inv.clock in
    state_at-trapped p clock c.loop-done.done c.args.limit c.in-Trapped.reason _ _
    (inv.so_far p code rows version) went.0 (omega arith) ∙ sym went.1

pub returns-in-Finished-clause-seen : goal.returns-in-Finished-clause-seen
returns-in-Finished-clause-seen g c = λ p code rows version states h.
    let inv = c.loop-done.invariant in
    let clock = g.C.Clock.at c.args.clock.now in
    let went = c.in-Finished.ensures.step p clock code (rows ∙ sym inv.rows) version inv.clock in
    subst (g.W.Watcher.has_seen c.see.new.self c.args.insns.now)
    (begun_in-finished p clock c.loop-done.done c.args.limit c.in-Finished.number _ _ states
    (inv.so_far p code rows version) went.0 (omega arith))
    (c.see.ensures _ (inv.seen p code rows version states h))

pub returns-in-Trapped-clause-seen : goal.returns-in-Trapped-clause-seen
returns-in-Trapped-clause-seen g c = λ p code rows version states h.
    let inv = c.loop-done.invariant in
    let clock = g.C.Clock.at c.args.clock.now in
    let went = c.in-Trapped.ensures.step p clock code (rows ∙ sym inv.rows) version inv.clock in
    subst (g.W.Watcher.has_seen c.see.new.self c.args.insns.now)
    (begun_in-trapped p clock c.loop-done.done c.args.limit c.in-Trapped.reason _ _ states
    (inv.so_far p code rows version) went.0 (omega arith))
    (c.see.ensures _ (inv.seen p code rows version states h))
