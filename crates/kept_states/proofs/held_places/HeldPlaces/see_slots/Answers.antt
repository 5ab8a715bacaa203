use Rattle.kept_states.proofs.Common.{◌∙◌, ℕ, ◌+◌, drop, get_or, ap, ap₂, sym, arith, drop_all, Written, InSlot, all_written, held_part, held_slots}
use Rattle.kept_states.proofs.HeldLaws.{held_slots-next}
use Rattle.kept_states.proofs.held_places.HeldPlaces.see_slots.Goals as goal

pub loop-index-preserved : goal.loop-index-preserved
loop-index-preserved c =
    let i : ℕ = c.loop-index.index in
    let ts = c.args.slots.now in
    let t = get_or ts i c.index-slots-index.result in
    let h = c.args.self.now in
    ap (λ f. all_written f (held_slots h (i + 1) (drop (i + 1) ts)))
    (c.see_slot.ensures
    ∙ ap₂ (λ a b. all_written c.loop-index.frame
    (held_part a b (InSlot i (Written 255)) (InSlot i t)))
    c.is_in-is_any.ensures c.is_in-is_held.ensures)
    ∙ sym (held_slots-next h c.loop-index.frame ts i t (omega arith)
    (ap (get_or ts i) c.index-slots-index.is))
    ∙ c.loop-index.invariant

pub returns : goal.returns
unfolding all_written held_slots
returns c =
    sym (ap (λ l. all_written c.loop-index.frame
    (held_slots c.args.self.now c.loop-index.index l))
    (drop_all c.loop-index.index c.args.slots.now (omega arith))) ∙ c.loop-index.invariant
