use Rattle.proof_table.proofs.Common.{subst, refl, take_all, arith, All, All-more, StackSlot, StackSlotFits, stack_slot_said}
use Rattle.proof_table.proofs.fitting.stack_slots_fit.Goals as goal

pub loop-slot-preserved : goal.loop-slot-preserved
loop-slot-preserved c =
    let fits : StackSlot → Type 0 =
    λ slot. StackSlotFits c.args.rows c.args.holder (stack_slot_said slot) in
    All-more fits c.args.slots.now c.loop-slot.slot-index c.slot-item.result
    (omega arith) c.loop-slot.invariant
    (c.if-not-stack_slot_fits.ensures.0 refl)

pub returns-clause-fit : goal.returns-clause-fit
returns-clause-fit c =
    let fits : StackSlot → Type 0 =
    λ slot. StackSlotFits c.args.rows c.args.holder (stack_slot_said slot) in (
      λ yes. subst (All fits)
          (take_all c.loop-slot.slot-index c.args.slots.now (omega arith)) c.loop-slot.invariant,
      λ h.
          refl,
    )
