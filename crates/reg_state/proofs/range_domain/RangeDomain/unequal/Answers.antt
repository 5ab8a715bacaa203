use Rattle.reg_state.proofs.Common.{subst, sym, ◌∙◌, arith, ints, IfSome_then, Full64, low_same}
use Rattle.ranges.specs.Ranges.{Has}
use Rattle.reg_state.proofs.ConstantsLaws.{range_limits-IsLimit, low_limits-IsLimit}
use Rattle.reg_state.proofs.range_domain.RangeDomain.unequal.Goals as goal

pub returns-in-Full64-clause-common : goal.returns-in-Full64-clause-common
returns-in-Full64-clause-common c = λ x y hx hy h.
    c.unequal.ensures.common x y hx hy
    (rw (c.in-Full64.is, low_same Full64 x hx.0.below, low_same Full64 y hy.0.below) at h)

pub returns-in-Low32-clause-common : goal.returns-in-Low32-clause-common
returns-in-Low32-clause-common c =
    λ x y hx hy h. c.low_unequal.ensures.common x y hx hy (rw c.in-Low32.is at h)

pub returns-in-Full64-clause-left_limit : goal.returns-in-Full64-clause-left_limit
returns-in-Full64-clause-left_limit c =
    rw c.in-Full64.is (IfSome_then c.unequal.result c.unequal.ensures.left_limit
    (λ p excluded x h n alone limit same.
    excluded n (omega (arith, ints, alone.0), omega (arith, ints, alone.1))
    (range_limits-IsLimit c.args.self n limit)
    (subst (Has p.0) (sym (low_same Full64 x h.0.below) ∙ same) h)))

pub returns-in-Full64-clause-right_limit : goal.returns-in-Full64-clause-right_limit
returns-in-Full64-clause-right_limit c =
    rw c.in-Full64.is (IfSome_then c.unequal.result c.unequal.ensures.right_limit
    (λ p excluded y h n alone limit same.
    excluded n (omega (arith, ints, alone.0), omega (arith, ints, alone.1))
    (range_limits-IsLimit c.args.other n limit)
    (subst (Has p.1) (sym (low_same Full64 y h.0.below) ∙ same) h)))

pub returns-in-Low32-clause-left_limit : goal.returns-in-Low32-clause-left_limit
returns-in-Low32-clause-left_limit c =
    rw c.in-Low32.is (IfSome_then c.low_unequal.result c.low_unequal.ensures.left_limit
    (λ p excluded x h n alone limit.
    excluded n (omega (arith, ints, alone.0), omega (arith, ints, alone.1))
    (low_limits-IsLimit c.args.self n limit) x h))

pub returns-in-Low32-clause-right_limit : goal.returns-in-Low32-clause-right_limit
returns-in-Low32-clause-right_limit c =
    rw c.in-Low32.is (IfSome_then c.low_unequal.result c.low_unequal.ensures.right_limit
    (λ p excluded y h n alone limit.
    excluded n (omega (arith, ints, alone.0), omega (arith, ints, alone.1))
    (low_limits-IsLimit c.args.other n limit) y h))
