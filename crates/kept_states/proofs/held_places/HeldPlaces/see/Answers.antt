use Rattle.kept_states.proofs.Common.{◌∙◌, ap, all_written, held_registers, held_slots, seen}
use Rattle.kept_states.proofs.held_places.HeldPlaces.see.Goals as goal

pub returns : goal.returns
unfolding seen
returns c =
    let h = c.args.self.now in
    let f = c.args.full.now in
    c.see_slots.ensures
    ∙ ap (λ ts. all_written c.see_registers.new.frame (held_slots h 0 ts)) c.slots.ensures
    ∙ ap (λ g. all_written g (held_slots h 0 f.stack.slots))
    (c.see_registers.ensures
    ∙ ap (λ g. all_written g (held_registers h c.args.any.now 0 f.registers))
    c.clear_frame.ensures)
