use Rattle.stack_state.proofs.Common.{arith, length, sym, get_or, List, ◌≡◌, ℕ, ◌+◌, ◌/◌, ◌%◌, set, ap, ◌∙◌, bit_or, get_or_default, StackSlot, Written, StackSlots, frame_slots, slot_at, marks_of, mask_of}
use Rattle.stack_state.proofs.StackLaws.{stores}
use Rattle.stack_state.proofs.stacks.StackState.store.Goals as goal

pub returns-clause-meant : goal.returns-clause-meant
returns-clause-meant c =
    let slots = c.args.self.now.slots in
    let at : ℕ = c.args.at in
    let viewed = ap (λ (s : StackSlots). s.slots) c.self.view_is in
    let wide : length slots ≡ frame_slots = ap length (sym viewed) ∙ c.self.invariant.wide in
    let marks : c.marks.result ≡ marks_of (slot_at slots (at / 8)) =
    c.marks.ensures
    ∙ ap marks_of
    (get_or_default c.self.inside.slots (at / 8) c.index-self-at.result (Written 0)
    (omega (arith, c.self.invariant.wide))
    ∙ ap (λ (ys : List StackSlot). get_or ys (at / 8) (Written 0)) viewed) in
    let mask = c.mask.ensures
    ∙ ap (λ (n : ℕ). mask_of (at % 8) (at % 8 + n)) c.bytes.ensures.value in
    stores slots _ at c.args.size wide c.requires.inside c.requires.in_slot
    (c.mark.ensures.set
    ∙ ap (λ (m : ℕ). set slots (at / 8) (Written (bit_or m c.mask.result))) marks
    ∙ ap (λ (m : ℕ). set slots (at / 8) (Written (bit_or (marks_of (slot_at slots (at / 8))) m)))
    mask)

pub returns-clause-exact : goal.returns-clause-exact
returns-clause-exact c =
    let slots = c.args.self.now.slots in
    let at : ℕ = c.args.at in
    let viewed = ap (λ (s : StackSlots). s.slots) c.self.view_is in
    let wide : length slots ≡ frame_slots = ap length (sym viewed) ∙ c.self.invariant.wide in
    let marks : c.marks.result ≡ marks_of (slot_at slots (at / 8)) =
    c.marks.ensures
    ∙ ap marks_of
    (get_or_default c.self.inside.slots (at / 8) c.index-self-at.result (Written 0)
    (omega (arith, c.self.invariant.wide))
    ∙ ap (λ (ys : List StackSlot). get_or ys (at / 8) (Written 0)) viewed) in
    let mask = c.mask.ensures
    ∙ ap (λ (n : ℕ). mask_of (at % 8) (at % 8 + n)) c.bytes.ensures.value in
    c.mark.ensures.set
    ∙ ap (λ (m : ℕ). set slots (at / 8) (Written (bit_or m c.mask.result))) marks
    ∙ ap (λ (m : ℕ). set slots (at / 8) (Written (bit_or (marks_of (slot_at slots (at / 8))) m)))
    mask
