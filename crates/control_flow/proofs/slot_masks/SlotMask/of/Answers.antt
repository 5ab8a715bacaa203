use Rattle.control_flow.proofs.MaskLemmas.{some_has}
use Rattle.control_flow.proofs.slot_masks.SlotMask.of.Goals as goal

pub returns-in-Some : goal.returns-in-Some
returns-in-Some c =
    some_has c.args.slot c.in-Some.index c.in-Some.is (c.requires c.in-Some.index c.in-Some.is)
