use Rattle.ranges.proofs.Common.{arith, bit_and, ◌<◌, ◌%◌, ◌^◌, and_le_l, and_le_r, IfSome_then}
use Rattle.ranges.proofs.range.Range.low_overlapping.Goals as goal

pub returns-clause-common : goal.returns-clause-common
returns-clause-common c = λ x y hx hy h.
    let some : 0 < bit_and (x % 2 ^ 32) (y % 2 ^ 32) = omega arith in
    let l = and_le_l (x % 2 ^ 32) (y % 2 ^ 32) in
    let r = and_le_r (x % 2 ^ 32) (y % 2 ^ 32) in
    let x_in = hx.1.below in
    let y_in = hy.1.below in
    c.both_low_limited.ensures.common x y hx hy
    ((c.between-not_zero.ensures.members (x % 2 ^ 32)).1 (omega arith, omega arith))
    ((c.between-not_zero.ensures.members (y % 2 ^ 32)).1 (omega arith, omega arith))

pub returns-clause-left_limit : goal.returns-clause-left_limit
returns-clause-left_limit c =
    IfSome_then c.both_low_limited.result c.both_low_limited.ensures.left_limits
    (λ p within x h. let b = (c.between-not_zero.ensures.members _).0 (within x h) in
    omega (arith, b.0))

pub returns-clause-right_limit : goal.returns-clause-right_limit
returns-clause-right_limit c =
    IfSome_then c.both_low_limited.result c.both_low_limited.ensures.right_limits
    (λ p within y h. let b = (c.between-not_zero.ensures.members _).0 (within y h) in
    omega (arith, b.0))
