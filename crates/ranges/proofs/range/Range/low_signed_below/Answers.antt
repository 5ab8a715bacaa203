use Rattle.ranges.proofs.Common.{arith, ints, IfSome_then}
use Rattle.ranges.proofs.range.Range.low_signed_below.Goals as goal

pub returns-clause-common : goal.returns-clause-common
returns-clause-common c = λ x y hx hy h.
    let from = hx.1.signed_from in
    let to = hy.1.signed_to in
    c.both_low_limited.ensures.common x y hx hy
    (c.signed_between-left.ensures.members _ hx.1.below (omega (arith, ints)) (omega (arith, ints)))
    (c.signed_between-right.ensures.members _ hy.1.below (omega (arith, ints))
    (omega (arith, ints)))

pub returns-clause-left_limit : goal.returns-clause-left_limit
returns-clause-left_limit c =
    let limits = c.signed_between-left.ensures.limits in
    IfSome_then c.both_low_limited.result c.both_low_limited.ensures.left_limits
    (λ p within x h. let to = (within x h).signed_to in omega (arith, ints, to, limits.1))

pub returns-clause-right_limit : goal.returns-clause-right_limit
returns-clause-right_limit c =
    let limits = c.signed_between-right.ensures.limits in
    IfSome_then c.both_low_limited.result c.both_low_limited.ensures.right_limits
    (λ p within y h. let from = (within y h).signed_from in omega (arith, ints, from, limits.0))
