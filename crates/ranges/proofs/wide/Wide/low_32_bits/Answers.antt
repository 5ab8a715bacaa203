use Rattle.ranges.proofs.Common.{arith, ◌%◌, ◌^◌, and_mask}
use Rattle.ranges.proofs.wide.Wide.low_32_bits.Goals as goal

pub returns-then-self-clause-contains : goal.returns-then-self-clause-contains
returns-then-self-clause-contains c = λ x hx.
    let a = and_mask c.args.self.least 32 in
    let b = and_mask c.args.self.greatest 32 in
    (c.between.ensures.members (x % 2 ^ 32)).1 (omega arith, omega arith)

pub returns-else-self-clause-contains : goal.returns-else-self-clause-contains
returns-else-self-clause-contains c = λ x hx. (c.any.ensures.members (x % 2 ^ 32)).1 (omega arith)
