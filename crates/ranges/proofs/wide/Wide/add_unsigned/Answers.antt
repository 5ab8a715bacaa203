use Rattle.std.proofs.Common.{arith, ◌<◌, ◌+◌, ◌%◌, ◌^◌}
use Rattle.ranges.proofs.wide.Wide.add_unsigned.Goals as goal

pub returns-then-always_wraps-clause-contains : goal.returns-then-always_wraps-clause-contains
returns-then-always_wraps-clause-contains c = λ x y hx hy.
    (c.between.ensures.members ((x + y) % 2 ^ 64)).1 (omega arith, omega arith)

pub returns-else-always_wraps-clause-contains : goal.returns-else-always_wraps-clause-contains
returns-else-always_wraps-clause-contains c =
    λ x y hx hy. (c.any.ensures.members _).1 (let b : (x + y) % 2 ^ 64 < 2 ^ 64 = omega arith in b)
