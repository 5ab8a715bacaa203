use Rattle.kept_states.proofs.Common.{◌≡◌, ◌++◌, List, drop, Part, slot_parts}
use Rattle.kept_states.proofs.kept_frames.are_slots.Given as goal

-- where the rest begins with the parts of the stack slots from the index on, at the start it began
-- with those of all stack slots
abbrev pub invariant-loop-index : goal.invariant-loop-index
invariant-loop-index l =
    (ys : List Part) → l.rest ≡ slot_parts l.index (drop l.index l.slots) ++ ys
    → l.initial.rest ≡ slot_parts 0 l.slots ++ ys
