use Rattle.ranges.proofs.Common.{arith, ints}
use Rattle.ranges.proofs.low.Low.covers.Goals as goal

pub returns-then-self-other-2 : goal.returns-then-self-other-2
returns-then-self-other-2 c = (
  λ t. (omega arith, omega arith, grind (arith, ints), grind (arith, ints)),
  λ e. (let last = e.3 in grind (arith, ints)),
)
