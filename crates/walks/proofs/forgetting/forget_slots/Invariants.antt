use Rattle.walks.proofs.ForgettingLoops.{SlotsLeftBelow}
use Rattle.walks.proofs.forgetting.forget_slots.Given as goal

abbrev pub invariant-loop-index : goal.invariant-loop-index
invariant-loop-index l = SlotsLeftBelow l.flow l.slot l.index l.fn.stack.slots l.stack.slots
