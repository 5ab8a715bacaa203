use Rattle.reg_state.proofs.Common.{Full64, low_same}
use Rattle.reg_state.proofs.RelationsLaws.{signed_half}
use Rattle.reg_state.proofs.bits_domain.BitsDomain.signed_at_most.Goals as goal

pub returns-in-Full64-clause-common : goal.returns-in-Full64-clause-common
returns-in-Full64-clause-common c = λ x y hx hy h.
    c.signed_at_most.ensures.common x y hx hy
    (rw (c.in-Full64.is, low_same Full64 x hx.below, low_same Full64 y hy.below) at h)

pub returns-in-Low32-clause-common : goal.returns-in-Low32-clause-common
returns-in-Low32-clause-common c = λ x y hx hy h.
    c.signed_pair.ensures.common x y hx hy
    (c.signed_at_most-in-Low32.ensures.common _ _ (c.signed_halves.ensures x hx)
    (c.signed_halves-in-Low32.ensures y hy)
    (rw (signed_half x, signed_half y) (rw c.in-Low32.is at h)))
