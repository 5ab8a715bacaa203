use Rattle.state_cover.proofs.Common.{ℕ, ◌<◌, get_or, AbstractFrame, packet_name, null_name, FrameCovers}
use Rattle.state_cover.proofs.covers.Given as goal

-- each caller's call frame before it covers the other's
abbrev pub invariant-loop-index : goal.invariant-loop-index
invariant-loop-index l = (j : ℕ) (d e : AbstractFrame) → j < l.index
    → FrameCovers (packet_name l.a l.b) (null_name l.a l.b) (get_or l.left j d) (get_or l.right j e)
