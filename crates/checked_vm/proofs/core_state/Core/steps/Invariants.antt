use Rattle.checked_vm.proofs.Common.{◌≡◌, ◌+◌, ◌≤◌, List, ◌++◌, Program, GoesOn, progress, state_of, IsRunning, State, ClockAnswers}
use Rattle.checked_vm.specs.Watching.{begun_in}
use Rattle.checked_vm.proofs.core_state.Core.steps.Given as goal

abbrev pub invariant-loop-done : goal.invariant-loop-done
invariant-loop-done g l = record {
  so_far : (p : Program) → p.insns ≡ l.insns → p.maps ≡ l.initial.self.maps.rows
      → p.version ≡ l.version
      → progress p (g.C.Clock.at l.initial.clock) l.done (state_of l.initial.self l.initial.packet)
      ≡ GoesOn (state_of l.self l.packet);
  running : IsRunning l.self;
  rows : l.self.maps.rows ≡ l.initial.self.maps.rows;
  serial : l.self.maps.next_serial ≤ l.initial.self.maps.next_serial + l.done;
  clock_calls : l.self.clock_calls ≤ l.done;
  clock : ClockAnswers (g.C.Clock.at l.initial.clock) l.self.clock_calls (g.C.Clock.at l.clock);
  seen : (p : Program) → p.insns ≡ l.insns → p.maps ≡ l.initial.self.maps.rows
      → p.version ≡ l.version
      → (states : List State) → g.W.Watcher.has_seen l.initial.watcher l.insns states
      → g.W.Watcher.has_seen l.watcher l.insns
      (states ++ begun_in p (g.C.Clock.at l.initial.clock) l.done
      (state_of l.initial.self l.initial.packet));
}
