use Rattle.kept_states.proofs.Common.{◌≡◌, map, proved_kind, with_kinds}
use Rattle.kept_states.proofs.proved_bytes.leave_out_of_frames.Given as goal

abbrev pub invariant-loop-index : goal.invariant-loop-index
invariant-loop-index l =
    map (with_kinds (proved_kind l.proved.identity l.proved.bytes)) l.frames ≡ map (with_kinds (proved_kind l.proved.identity l.proved.bytes)) l.fn.frames
