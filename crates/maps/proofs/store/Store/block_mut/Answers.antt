use Rattle.maps.proofs.Common.{refl, with_values-same}
use Rattle.maps.proofs.store.Store.block_mut.Goals as goal

pub returns : goal.returns
returns g c = (
  (refl, λ w. with_values-same c.args.self.now w _ _ _ _ _),
  record { lends = tt; value = c.as_mut_slice.ensures.value },
)
