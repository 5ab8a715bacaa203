use Rattle.kept_states.proofs.Common.{◌≡◌, map, proved_kind, with_spilled}
use Rattle.kept_states.proofs.proved_bytes.leave_out_of_slots.Given as goal

abbrev pub invariant-loop-index : goal.invariant-loop-index
invariant-loop-index l =
    map (with_spilled (proved_kind l.proved.identity l.proved.bytes)) l.stack.slots
    ≡ map (with_spilled (proved_kind l.proved.identity l.proved.bytes)) l.fn.stack.slots
