use Rattle.std.proofs.Common.{arith}
use Rattle.std.proofs.lemmas.Grind.{common_steps}
use Rattle.control_flow.proofs.slot_masks.SlotMask.has.Goals as goal

pub returns : goal.returns
returns c = grind (arith, common_steps)
