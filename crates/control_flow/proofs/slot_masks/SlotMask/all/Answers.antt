use Rattle.control_flow.proofs.MaskLemmas.{all_has}
use Rattle.control_flow.proofs.slot_masks.SlotMask.all.Goals as goal

pub returns : goal.returns
returns c = all_has
