use Rattle.reg_state.proofs.Common.{IfSome_then, Full64, low_same}
use Rattle.reg_state.proofs.ConstantsLaws.{no_limits-IsAlone}
use Rattle.reg_state.proofs.bits_domain.BitsDomain.unequal.Goals as goal

pub returns-in-Full64-clause-common : goal.returns-in-Full64-clause-common
returns-in-Full64-clause-common c = λ x y hx hy h.
    c.unequal.ensures.common x y hx hy
    (rw (c.in-Full64.is, low_same Full64 x hx.below, low_same Full64 y hy.below) at h)

pub returns-in-Low32-clause-common : goal.returns-in-Low32-clause-common
returns-in-Low32-clause-common c = λ x y hx hy h.
    c.plain_pair.ensures.common x y hx hy
    (c.unequal-in-Low32.ensures.common _ _ (c.plain_halves.ensures x hx)
    (c.plain_halves-in-Low32.ensures y hy) (rw c.in-Low32.is at h))

pub returns-in-Full64-clause-left_limit : goal.returns-in-Full64-clause-left_limit
returns-in-Full64-clause-left_limit c =
    IfSome_then c.unequal.result c.unequal.ensures.left
    (λ p within x h n alone limit same. no_limits-IsAlone n alone)

pub returns-in-Full64-clause-right_limit : goal.returns-in-Full64-clause-right_limit
returns-in-Full64-clause-right_limit c =
    IfSome_then c.unequal.result c.unequal.ensures.right
    (λ p within y h n alone limit same. no_limits-IsAlone n alone)

pub returns-in-Low32-clause-left_limit : goal.returns-in-Low32-clause-left_limit
returns-in-Low32-clause-left_limit c =
    IfSome_then c.plain_pair.result c.plain_pair.ensures.left
    (λ p within x h n alone limit same. no_limits-IsAlone n alone)

pub returns-in-Low32-clause-right_limit : goal.returns-in-Low32-clause-right_limit
returns-in-Low32-clause-right_limit c =
    IfSome_then c.plain_pair.result c.plain_pair.ensures.right
    (λ p within y h n alone limit same. no_limits-IsAlone n alone)
