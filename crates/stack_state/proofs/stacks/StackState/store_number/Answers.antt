use Rattle.stack_state.proofs.Common.{◌≡◌, ◌∙◌, ℕ, List, get_or, ap, sym, length, length-set, ◌/◌, ◌%◌, subst, arith, get_or_default, StackSlot, Written, frame_slots, IsSlotStored, StoresNumber}
use Rattle.stack_state.proofs.NumberStoreLaws.{stores_number}
use Rattle.stack_state.proofs.stacks.StackState.store_number.Goals as goal

pub returns-clause-meant : goal.returns-clause-meant
returns-clause-meant c =
    let slots = c.args.self.now.slots in
    let at : ℕ = c.args.at in
    let wide : length slots ≡ frame_slots =
    sym (length-set slots (at / 8) c.stored.result)
    ∙ ap length (sym c.set.ensures.set) ∙ c.set.ensures.wide in
    let same = get_or_default c.slots.result.now (at / 8) c.index-slots-at.result (Written 0)
    (omega (arith, wide, ap length c.slots.ensures))
    ∙ ap (λ (ys : List StackSlot). get_or ys (at / 8) (Written 0)) c.slots.ensures in
    subst (λ (ys : List StackSlot). StoresNumber slots at c.args.size c.args.numbers ys)
    (sym c.set.ensures.set)
    (stores_number slots at c.args.size c.args.numbers c.stored.result wide c.requires.inside
    c.requires.in_slot
    (subst (λ (s : StackSlot). IsSlotStored s (at % 8) c.args.size c.args.numbers c.stored.result)
    same c.stored.ensures))
