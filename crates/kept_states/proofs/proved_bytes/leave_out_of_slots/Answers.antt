use Rattle.kept_states.proofs.Common.{◌∙◌, List, map, ap, StackSlot, Written, proved_kind, with_spilled}
use Rattle.stack_state.specs.Slots.{slot_at}
use Rattle.kept_states.proofs.SameMaps.{map-set_same}
use Rattle.kept_states.proofs.proved_bytes.leave_out_of_slots.Goals as goal

pub loop-index-preserved : goal.loop-index-preserved
loop-index-preserved c =
    let g = with_spilled (proved_kind c.args.proved.identity c.args.proved.bytes) in
    let new = c.leave_out_of_slot.new.stack.slots in
    ap (λ (l : List StackSlot). map g l) c.leave_out_of_slot.ensures.others
    ∙ map-set_same g c.loop-index.stack.slots c.loop-index.index (slot_at new c.loop-index.index)
    (Written 0) c.leave_out_of_slot.ensures.same
    ∙ c.loop-index.invariant
