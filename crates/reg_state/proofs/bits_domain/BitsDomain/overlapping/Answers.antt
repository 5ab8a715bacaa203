use Rattle.reg_state.proofs.Common.{Full64, low_same}
use Rattle.reg_state.proofs.bits_domain.BitsDomain.overlapping.Goals as goal

pub returns-in-Full64-clause-common : goal.returns-in-Full64-clause-common
returns-in-Full64-clause-common c = λ x y hx hy h.
    c.overlapping.ensures.common x y hx hy
    (rw (c.in-Full64.is, low_same Full64 x hx.below, low_same Full64 y hy.below) at h)

pub returns-in-Low32-clause-common : goal.returns-in-Low32-clause-common
returns-in-Low32-clause-common c = λ x y hx hy h.
    c.plain_pair.ensures.common x y hx hy
    (c.overlapping-in-Low32.ensures.common _ _ (c.plain_halves.ensures x hx)
    (c.plain_halves-in-Low32.ensures y hy) (rw c.in-Low32.is at h))

pub returns-in-Low32-clause-left_only : goal.returns-in-Low32-clause-left_only
returns-in-Low32-clause-left_only c = λ full. let no : ⊥ = let is = c.in-Low32.is in cc in absurd no

pub returns-in-Low32-clause-right_only : goal.returns-in-Low32-clause-right_only
returns-in-Low32-clause-right_only c =
    λ full. let no : ⊥ = let is = c.in-Low32.is in cc in absurd no
