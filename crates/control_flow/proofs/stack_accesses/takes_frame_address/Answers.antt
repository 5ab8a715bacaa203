use Rattle.control_flow.proofs.Common.{arith, iff_false, TakesFrameAddressAt}
use Rattle.control_flow.proofs.TargetTests.{none_more}
use Rattle.control_flow.proofs.StackUses.{none_takes}
use Rattle.control_flow.proofs.stack_accesses.takes_frame_address.Goals as goal

pub loop-slot-preserved : goal.loop-slot-preserved
loop-slot-preserved c =
    none_more (TakesFrameAddressAt c.args.image.now) c.loop-slot.slot c.loop-slot.invariant
    (iff_false c.takes_address_at.ensures c.if-takes_address_at.false)

pub returns : goal.returns
returns c = (
  λ h. absurd cc,
  λ taken. absurd
      (none_takes c.args.image.now c.loop-slot.slot (omega arith) c.loop-slot.invariant taken),
)
