use Rattle.std.proofs.Common.{◌≡◌, length, take}
use Rattle.stack_state.proofs.states.State.copy_callers.Given as goal

abbrev pub invariant-loop-index : goal.invariant-loop-index
invariant-loop-index l = record {
  others : l.self ≡ record l.fn.self { callers = l.self.callers };
  count : length l.self.callers.items ≡ l.kept;
  done : take l.index l.self.callers.items ≡ take l.index l.other.callers.items;
}

abbrev pub invariant-loop-index-2 : goal.invariant-loop-index-2
invariant-loop-index-2 l = record {
  others : l.self ≡ record l.fn.self { callers = l.self.callers };
  done : l.self.callers.items ≡ take l.index l.other.callers.items;
}
