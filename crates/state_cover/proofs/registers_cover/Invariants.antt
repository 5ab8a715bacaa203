use Rattle.state_cover.proofs.Common.{ℕ, ◌<◌, KindCovers, kind_at, packet_name, null_name}
use Rattle.state_cover.proofs.registers_cover.Given as goal

-- each register before it covers the other's
abbrev pub invariant-loop-index : goal.invariant-loop-index
invariant-loop-index l = (k : ℕ) → k < l.index
    → KindCovers (packet_name l.a l.b) (null_name l.a l.b) (kind_at l.left k) (kind_at l.right k)
