use Rattle.kept_states.proofs.Common.{arith, proved_kind, with_spilled}
use Rattle.kept_states.proofs.SameMaps.{map-fixed}
use Rattle.kept_states.proofs.proved_bytes.is_known_of_slots.Goals as goal

pub returns : goal.returns
returns c =
    λ _. map-fixed (with_spilled (proved_kind c.args.proved.identity c.args.proved.bytes))
    c.args.slots.now (λ d k h. c.loop-index.invariant d k (omega (arith, h)))
