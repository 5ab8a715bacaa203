use Rattle.std.specs.Int.Bits.{and_zero_r}
use Rattle.reg_state.proofs.Common.{IfSome_then, Full64, low_same}
use Rattle.reg_state.proofs.range_domain.RangeDomain.disjoint.Goals as goal

pub returns-in-Full64-clause-common : goal.returns-in-Full64-clause-common
returns-in-Full64-clause-common c = λ x y hx hy h.
    c.disjoint.ensures.common x y hx hy
    (rw (c.in-Full64.is, low_same Full64 x hx.0.below, low_same Full64 y hy.0.below) at h)

pub returns-in-Low32-clause-common : goal.returns-in-Low32-clause-common
returns-in-Low32-clause-common c =
    λ x y hx hy h. c.low_disjoint.ensures.common x y hx hy (rw c.in-Low32.is at h)

pub returns-in-Full64-clause-left_only : goal.returns-in-Full64-clause-left_only
returns-in-Full64-clause-left_only c =
    λ full. IfSome_then c.disjoint.result c.disjoint.ensures.left (λ p within x h. and_zero_r x)

pub returns-in-Full64-clause-right_only : goal.returns-in-Full64-clause-right_only
returns-in-Full64-clause-right_only c =
    λ full. IfSome_then c.disjoint.result c.disjoint.ensures.right (λ p within y h. and_zero_r y)

pub returns-in-Low32-clause-left_only : goal.returns-in-Low32-clause-left_only
returns-in-Low32-clause-left_only c =
    λ full. IfSome_then c.low_disjoint.result c.low_disjoint.ensures.left
    (λ p within x h. and_zero_r x)

pub returns-in-Low32-clause-right_only : goal.returns-in-Low32-clause-right_only
returns-in-Low32-clause-right_only c =
    λ full. IfSome_then c.low_disjoint.result c.low_disjoint.ensures.right
    (λ p within y h. and_zero_r y)
