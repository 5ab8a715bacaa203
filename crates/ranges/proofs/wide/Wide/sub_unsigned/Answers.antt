use Rattle.std.proofs.Common.{arith, ◌<◌, ◌+◌, ◌-◌, ◌%◌, ◌^◌}
use Rattle.ranges.proofs.wide.Wide.sub_unsigned.Goals as goal

pub returns-then-self-other-2-clause-contains : goal.returns-then-self-other-2-clause-contains
returns-then-self-other-2-clause-contains c = λ x y hx hy.
    (c.between.ensures.members ((x + (2 ^ 64 - y)) % 2 ^ 64)).1 (omega arith, omega arith)

pub returns-else-self-other-2-clause-contains : goal.returns-else-self-other-2-clause-contains
returns-else-self-other-2-clause-contains c =
    λ x y hx hy.
    (c.any.ensures.members _).1 (let b : (x + (2 ^ 64 - y)) % 2 ^ 64 < 2 ^ 64 = omega arith in b)
