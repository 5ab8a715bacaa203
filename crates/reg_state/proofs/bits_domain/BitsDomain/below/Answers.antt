use Rattle.reg_state.proofs.Common.{Full64, low_same}
use Rattle.reg_state.proofs.bits_domain.BitsDomain.below.Goals as goal

pub returns-in-Full64-clause-common : goal.returns-in-Full64-clause-common
returns-in-Full64-clause-common c = λ x y hx hy h.
    c.below.ensures.common x y hx hy
    (rw (c.in-Full64.is, low_same Full64 x hx.below, low_same Full64 y hy.below) at h)

pub returns-in-Low32-clause-common : goal.returns-in-Low32-clause-common
returns-in-Low32-clause-common c = λ x y hx hy h.
    c.plain_pair.ensures.common x y hx hy
    (c.below-in-Low32.ensures.common _ _ (c.plain_halves.ensures x hx)
    (c.plain_halves-in-Low32.ensures y hy) (rw c.in-Low32.is at h))
