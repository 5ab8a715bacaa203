use Rattle.control_flow.proofs.Common.{arith, not, nat_lt, ltb-true, IsSecondHalf, HasTarget}
use Rattle.control_flow.proofs.TargetTests.{at_some, at_none, half_test}
use Rattle.control_flow.proofs.targets.leads_into_half.Goals as goal

pub returns-then-to-slots : goal.returns-then-to-slots
returns-then-to-slots c =
    at_some (HasTarget c.args.image.now c.args.slot) (IsSecondHalf c.args.image.now)
    (not c.begins_insn.result) c.in-Some.to c.in-Some.ensures
    (half_test c.args.image.now c.in-Some.to c.begins_insn.result
    (omega arith) c.begins_insn.ensures)

pub returns-else-to-slots : goal.returns-else-to-slots
returns-else-to-slots c =
    at_some (HasTarget c.args.image.now c.args.slot) (IsSecondHalf c.args.image.now)
    (nat_lt c.in-Some.to c.slots.result) c.in-Some.to c.in-Some.ensures (
      λ h. let lt = ltb-true c.in-Some.to c.slots.result h in
          absurd (omega arith),
      λ half. let lt = half.0 in absurd (omega arith),
    )

pub returns-in-None : goal.returns-in-None
returns-in-None c =
    at_none (HasTarget c.args.image.now c.args.slot)
    (IsSecondHalf c.args.image.now) c.in-None.ensures
