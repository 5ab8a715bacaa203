use Rattle.kept_states.proofs.Common.{◌≡◌, drop, all_written, held_slots}
use Rattle.kept_states.proofs.held_places.HeldPlaces.see_slots.Given as goal

-- the stack slots from here on are still to be written
abbrev pub invariant-loop-index : goal.invariant-loop-index
invariant-loop-index l =
    all_written l.frame (held_slots l.self l.index (drop l.index l.slots))
    ≡ all_written l.initial.frame (held_slots l.self 0 l.slots)
