use Rattle.ranges.proofs.Common.{arith, IfSome_then}
use Rattle.ranges.proofs.range.Range.below.Goals as goal

pub returns-clause-common : goal.returns-clause-common
returns-clause-common c = λ x y hx hy h.
    let from = hx.0.from in
    let to = hy.0.to in
    let below = hy.0.below in
    c.both_limited.ensures.common x y hx hy
    ((c.between-left.ensures.members x).1 (omega arith, omega arith))
    ((c.between-right.ensures.members y).1 (omega arith, omega arith))

pub returns-clause-left_limit : goal.returns-clause-left_limit
returns-clause-left_limit c =
    IfSome_then c.both_limited.result c.both_limited.ensures.left_limits
    (λ p within x h. let b = (c.between-left.ensures.members x).0 (within x h) in
    omega (arith, b.1))

pub returns-clause-right_limit : goal.returns-clause-right_limit
returns-clause-right_limit c =
    IfSome_then c.both_limited.result c.both_limited.ensures.right_limits
    (λ p within y h. let b = (c.between-right.ensures.members y).0 (within y h) in
    omega (arith, b.0))
