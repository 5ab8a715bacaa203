use Rattle.std.proofs.Common.{rules, ◌≡◌, ◌*◌, ◌/◌, ◌^◌, bit_and}
use Rattle.control_flow.proofs.MaskLemmas.{none_in}
use Rattle.control_flow.proofs.slot_masks.SlotMask.is_empty_in.Goals as goal

pub returns-clause-none : goal.returns-clause-none
returns-clause-none c = λ yes j low high.
    let none : bit_and (c.args.self.bits / 2 ^ (8 * c.args.byte)) 255 ≡ 0 = search rules in
    none_in c.args.self.bits (8 * c.args.byte) j none low high
