use Rattle.control_flow.proofs.MaskLemmas.{without_has}
use Rattle.control_flow.proofs.slot_masks.SlotMask.without.Goals as goal

pub returns : goal.returns
returns c = λ j. without_has c.args.self.bits c.args.other.bits j
