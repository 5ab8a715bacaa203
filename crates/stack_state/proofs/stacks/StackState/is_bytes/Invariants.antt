use Rattle.stack_state.proofs.Common.{◌≤◌, AreMarked}
use Rattle.stack_state.proofs.stacks.StackState.is_bytes.Given as goal

abbrev pub invariant-loop-at : goal.invariant-loop-at
invariant-loop-at l =
    record { from_on : l.from ≤ l.at; marked : AreMarked l.self.slots l.from l.at }
