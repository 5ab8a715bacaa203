use Rattle.kept_states.proofs.Common.{◌≡◌, ℕ, ◌<◌, get_or, AbstractFrame, proved_kind, with_kinds}
use Rattle.kept_states.proofs.proved_bytes.is_known_of_frames.Given as goal

abbrev pub invariant-loop-index : goal.invariant-loop-index
invariant-loop-index l =
    (d : AbstractFrame) (k : ℕ) → k < l.index
    → with_kinds (proved_kind l.proved.identity l.proved.bytes) (get_or l.frames k d)
    ≡ get_or l.frames k d
