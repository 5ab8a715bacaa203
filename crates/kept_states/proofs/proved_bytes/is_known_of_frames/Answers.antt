use Rattle.kept_states.proofs.Common.{arith, proved_kind, with_kinds}
use Rattle.kept_states.proofs.SameMaps.{map-fixed}
use Rattle.kept_states.proofs.proved_bytes.is_known_of_frames.Goals as goal

pub returns : goal.returns
returns c =
    λ _. map-fixed (with_kinds (proved_kind c.args.proved.identity c.args.proved.bytes))
    c.args.frames.now (λ d k h. c.loop-index.invariant d k (omega (arith, h)))
