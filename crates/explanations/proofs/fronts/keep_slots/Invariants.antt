use Rattle.explanations.proofs.FrontLaws.{SlotsKeptTo}
use Rattle.explanations.proofs.fronts.keep_slots.Given as goal

abbrev pub invariant-loop-index : goal.invariant-loop-index
invariant-loop-index l = SlotsKeptTo l.count l.index l.fn.stack.slots l.stack.slots
