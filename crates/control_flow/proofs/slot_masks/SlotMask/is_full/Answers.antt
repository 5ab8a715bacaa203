use Rattle.control_flow.proofs.Common.{rules, ◌≡◌, sym, subst, HasSlot, all_slots}
use Rattle.control_flow.proofs.MaskLemmas.{all_has}
use Rattle.control_flow.proofs.slot_masks.SlotMask.is_full.Goals as goal

pub returns-clause-all : goal.returns-clause-all
returns-clause-all c = λ yes j below.
    let all : c.args.self ≡ all_slots = search rules in
    subst (λ m. HasSlot m j) (sym all) ((all_has j).1 below)
