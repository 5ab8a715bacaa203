use Rattle.reg_state.proofs.Common.{Full64, low_same}
use Rattle.reg_state.proofs.range_domain.RangeDomain.at_most.Goals as goal

pub returns-in-Full64-clause-common : goal.returns-in-Full64-clause-common
returns-in-Full64-clause-common c = λ x y hx hy h.
    c.at_most.ensures.common x y hx hy
    (rw (c.in-Full64.is, low_same Full64 x hx.0.below, low_same Full64 y hy.0.below) at h)

pub returns-in-Low32-clause-common : goal.returns-in-Low32-clause-common
returns-in-Low32-clause-common c =
    λ x y hx hy h. c.low_at_most.ensures.common x y hx hy (rw c.in-Low32.is at h)
