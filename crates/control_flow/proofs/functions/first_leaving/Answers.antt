use Rattle.control_flow.proofs.Common.{arith, iff_false, OtherFunction, Fails}
use Rattle.control_flow.proofs.TargetTests.{none_more, none_at_all}
use Rattle.control_flow.proofs.functions.first_leaving.Goals as goal

pub loop-slot-preserved : goal.loop-slot-preserved
loop-slot-preserved c =
    none_more (Fails c.args.image.now OtherFunction) c.loop-slot.slot c.loop-slot.invariant
    (iff_false c.leaves_function.ensures c.if-leaves_function.false)

pub returns : goal.returns
returns c =
    none_at_all c.args.image.now OtherFunction c.loop-slot.slot (omega arith) c.loop-slot.invariant
