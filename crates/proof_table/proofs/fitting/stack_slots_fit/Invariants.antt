use Rattle.proof_table.proofs.Common.{take, All, StackSlotFits, stack_slot_said}
use Rattle.proof_table.proofs.fitting.stack_slots_fit.Given as goal

abbrev pub invariant-loop-slot : goal.invariant-loop-slot
invariant-loop-slot l =
    All (λ slot. StackSlotFits l.rows l.holder (stack_slot_said slot)) (take l.slot-index l.slots)
