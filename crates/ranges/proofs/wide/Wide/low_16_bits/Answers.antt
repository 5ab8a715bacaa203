use Rattle.std.proofs.Common.{arith, ◌%◌, ◌^◌}
use Rattle.ranges.proofs.wide.Wide.low_16_bits.Goals as goal

pub returns-else-self-le65535-clause-contains : goal.returns-else-self-le65535-clause-contains
returns-else-self-le65535-clause-contains c =
    λ x hx. (c.between.ensures.members (x % 2 ^ 16)).1 (omega arith, omega arith)
