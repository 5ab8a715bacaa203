use Rattle.control_flow.proofs.Common.{rules, ◌≡◌, subst, HasSlot, no_slots}
use Rattle.control_flow.proofs.MaskLemmas.{no_slot}
use Rattle.control_flow.proofs.slot_masks.SlotMask.is_empty.Goals as goal

pub returns-clause-none : goal.returns-clause-none
returns-clause-none c = λ yes j h.
    let none : c.args.self ≡ no_slots = search rules in
    no_slot j (subst (λ m. HasSlot m j) none h)
