use Rattle.control_flow.proofs.Common.{arith, iff_false, TargetOutside, Fails}
use Rattle.control_flow.proofs.TargetTests.{none_more, none_at_all}
use Rattle.control_flow.proofs.targets.first_outside.Goals as goal

pub loop-slot-preserved : goal.loop-slot-preserved
loop-slot-preserved c =
    none_more (Fails c.args.image.now TargetOutside) c.loop-slot.slot c.loop-slot.invariant
    (iff_false c.leads_outside.ensures c.if-leads_outside.false)

pub returns : goal.returns
returns c =
    none_at_all c.args.image.now TargetOutside c.loop-slot.slot (omega arith) c.loop-slot.invariant
