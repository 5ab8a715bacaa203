use Rattle.control_flow.proofs.Common.{arith, iff_false, TakesInputAt}
use Rattle.control_flow.proofs.TargetTests.{none_more}
use Rattle.control_flow.proofs.InputLaws.{none_takes_input}
use Rattle.control_flow.proofs.number_passes.has_input.Goals as goal

pub loop-slot-preserved : goal.loop-slot-preserved
loop-slot-preserved c =
    none_more (TakesInputAt c.args.image.now) c.loop-slot.slot c.loop-slot.invariant
    (iff_false c.takes_input_at.ensures c.if-takes_input_at.false)

pub returns : goal.returns
returns c = (
  λ h. absurd cc,
  λ takes. absurd
      (none_takes_input c.args.image.now c.loop-slot.slot (omega arith) c.loop-slot.invariant takes),
)
