use Rattle.control_flow.specs.Masks.{HasSlot}
use Rattle.walks.proofs.NumberLoops.{InBelow}
use Rattle.walks.proofs.numbers.forget_slots_of.Given as goal

abbrev pub invariant-loop-index : goal.invariant-loop-index
invariant-loop-index l = InBelow (HasSlot l.chosen) l.index l.fn.stack.slots l.stack.slots
