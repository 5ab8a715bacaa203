use Rattle.reg_state.proofs.Common.{IfSome_then, Full64, low_same}
use Rattle.reg_state.proofs.range_domain.RangeDomain.signed_below.Goals as goal

pub returns-in-Full64-clause-common : goal.returns-in-Full64-clause-common
returns-in-Full64-clause-common c = λ x y hx hy h.
    c.signed_below.ensures.common x y hx hy
    (rw (c.in-Full64.is, low_same Full64 x hx.0.below, low_same Full64 y hy.0.below) at h)

pub returns-in-Low32-clause-common : goal.returns-in-Low32-clause-common
returns-in-Low32-clause-common c =
    λ x y hx hy h. c.low_signed_below.ensures.common x y hx hy (rw c.in-Low32.is at h)

pub returns-in-Full64-clause-left_limit : goal.returns-in-Full64-clause-left_limit
returns-in-Full64-clause-left_limit c =
    rw c.in-Full64.is
    (IfSome_then c.signed_below.result c.signed_below.ensures.left_limit
    (λ p within x h. rw (low_same Full64 x h.0.below) (within x h)))

pub returns-in-Full64-clause-right_limit : goal.returns-in-Full64-clause-right_limit
returns-in-Full64-clause-right_limit c =
    rw c.in-Full64.is
    (IfSome_then c.signed_below.result c.signed_below.ensures.right_limit
    (λ p within y h. rw (low_same Full64 y h.0.below) (within y h)))
