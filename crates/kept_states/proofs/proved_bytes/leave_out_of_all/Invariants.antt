use Rattle.kept_states.proofs.Common.{◌≡◌, map, proved_kind}
use Rattle.kept_states.proofs.proved_bytes.leave_out_of_all.Given as goal

abbrev pub invariant-loop-index : goal.invariant-loop-index
invariant-loop-index l =
    map (proved_kind l.proved.identity l.proved.bytes) l.kinds ≡ map (proved_kind l.proved.identity l.proved.bytes) l.fn.kinds
