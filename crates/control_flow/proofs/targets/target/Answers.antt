use Rattle.control_flow.proofs.TargetTests.{target_is_jump}
use Rattle.control_flow.proofs.targets.target.Goals as goal

pub returns-in-Some : goal.returns-in-Some
returns-in-Some c = target_is_jump c.args.image.now c.args.slot c.in-Some.to (c.in-Some.ensures)
