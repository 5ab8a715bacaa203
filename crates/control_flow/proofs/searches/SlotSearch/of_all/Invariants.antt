use Rattle.control_flow.proofs.SlotSearch.{AreBelow}
use Rattle.control_flow.proofs.searches.SlotSearch.of_all.Given as goal

abbrev pub invariant-loop-slot : goal.invariant-loop-slot
invariant-loop-slot l = AreBelow l.slot l.frontier.items
