use Rattle.control_flow.proofs.Common.{arith, iff_false, SecondHalf, Fails}
use Rattle.control_flow.proofs.TargetTests.{none_more, none_at_all}
use Rattle.control_flow.proofs.targets.first_into_half.Goals as goal

pub loop-slot-preserved : goal.loop-slot-preserved
loop-slot-preserved c =
    none_more (Fails c.args.image.now SecondHalf) c.loop-slot.slot c.loop-slot.invariant
    (iff_false c.leads_into_half.ensures c.if-leads_into_half.false)

pub returns : goal.returns
returns c =
    none_at_all c.args.image.now SecondHalf c.loop-slot.slot (omega arith) c.loop-slot.invariant
