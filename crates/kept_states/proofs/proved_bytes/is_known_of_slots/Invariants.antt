use Rattle.kept_states.proofs.Common.{◌≡◌, ℕ, ◌<◌, get_or, StackSlot, proved_kind, with_spilled}
use Rattle.kept_states.proofs.proved_bytes.is_known_of_slots.Given as goal

abbrev pub invariant-loop-index : goal.invariant-loop-index
invariant-loop-index l =
    (d : StackSlot) (k : ℕ) → k < l.index
    → with_spilled (proved_kind l.proved.identity l.proved.bytes) (get_or l.slots k d)
    ≡ get_or l.slots k d
