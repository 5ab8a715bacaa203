use Rattle.kept_states.proofs.Common.{arith, proved_kind}
use Rattle.kept_states.proofs.SameMaps.{map-fixed}
use Rattle.kept_states.proofs.proved_bytes.is_known_of_all.Goals as goal

pub returns : goal.returns
returns c =
    λ _. map-fixed (proved_kind c.args.proved.identity c.args.proved.bytes) c.args.kinds.now
    (λ d k h. c.loop-index.invariant d k (omega (arith, h)))
