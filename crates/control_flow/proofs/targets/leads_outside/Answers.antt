use Rattle.control_flow.proofs.Common.{◌≤◌, length, arith, nat_le, leb-true, le-leb, HasTarget}
use Rattle.control_flow.proofs.TargetTests.{at_some, at_none}
use Rattle.control_flow.proofs.targets.leads_outside.Goals as goal

pub returns-in-Some : goal.returns-in-Some
returns-in-Some c =
    let slots = c.slots.result in
    let to = c.in-Some.to in
    at_some (HasTarget c.args.image.now c.args.slot) (λ to. length c.args.image.now.insns ≤ to)
    (nat_le slots to) to c.in-Some.ensures
    (λ h. let le = leb-true slots to h in omega arith, λ past. le-leb slots to (omega arith))

pub returns-in-None : goal.returns-in-None
returns-in-None c =
    at_none (HasTarget c.args.image.now c.args.slot)
    (λ to. length c.args.image.now.insns ≤ to) c.in-None.ensures
