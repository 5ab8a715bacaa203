use Rattle.control_flow.proofs.Common.{arith, iff_false, FallsOff, Fails}
use Rattle.control_flow.proofs.TargetTests.{none_more, none_at_all}
use Rattle.control_flow.proofs.functions.first_falling_off.Goals as goal

pub loop-slot-preserved : goal.loop-slot-preserved
loop-slot-preserved c =
    none_more (Fails c.args.image.now FallsOff) c.loop-slot.slot c.loop-slot.invariant
    (iff_false c.falls_off.ensures c.if-falls_off.false)

pub returns : goal.returns
returns c =
    none_at_all c.args.image.now FallsOff c.loop-slot.slot (omega arith) c.loop-slot.invariant
