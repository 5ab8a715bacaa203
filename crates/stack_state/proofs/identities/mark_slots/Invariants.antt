use Rattle.stack_state.specs.Marks.{AreFree, HoldsOther, Marks}
use Rattle.stack_state.proofs.identities.mark_slots.Given as goal

-- the places before it are marked
abbrev pub invariant-loop-index : goal.invariant-loop-index
invariant-loop-index l =
    Marks (AreFree (HoldsOther l.sort l.slots) l.index) l.index l.initial.named l.named
