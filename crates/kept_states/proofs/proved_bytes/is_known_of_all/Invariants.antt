use Rattle.kept_states.proofs.Common.{◌≡◌, ℕ, ◌<◌, get_or, Kind, proved_kind}
use Rattle.kept_states.proofs.proved_bytes.is_known_of_all.Given as goal

abbrev pub invariant-loop-index : goal.invariant-loop-index
invariant-loop-index l =
    (d : Kind) (k : ℕ) → k < l.index
    → proved_kind l.proved.identity l.proved.bytes (get_or l.kinds k d)
    ≡ get_or l.kinds k d
