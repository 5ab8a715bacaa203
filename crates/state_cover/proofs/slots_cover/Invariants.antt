use Rattle.state_cover.proofs.Common.{ℕ, ◌<◌, slot_at, packet_name, null_name, SlotCovers}
use Rattle.state_cover.proofs.slots_cover.Given as goal

-- each slot before it covers the other's
abbrev pub invariant-loop-index : goal.invariant-loop-index
invariant-loop-index l = (k : ℕ) → k < l.index
    → SlotCovers (packet_name l.a l.b) (null_name l.a l.b) (slot_at l.left k) (slot_at l.right k)
