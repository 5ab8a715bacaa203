use Rattle.control_flow.proofs.Common.{arith, and_le_l}
use Rattle.control_flow.proofs.MaskLemmas.{slots_meet}
use Rattle.control_flow.proofs.slot_masks.SlotMask.meets.Goals as goal

pub returns : goal.returns
returns c =
    let fits = and_le_l c.args.self.bits c.args.other.bits in
    slots_meet c.args.self c.args.other (omega arith)
