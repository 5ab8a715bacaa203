use Rattle.ranges.proofs.Common.{arith, ints}
use Rattle.ranges.proofs.wide.Wide.covers.Goals as goal

pub returns-then-self-other-2-clause-yes : goal.returns-then-self-other-2-clause-yes
returns-then-self-other-2-clause-yes c = λ t x hx.
    record {
      below = hx.below;
      from = omega arith;
      to = omega arith;
      signed_from = grind (arith, ints);
      signed_to = grind (arith, ints);
    }

pub returns-then-self-other-2-clause-limits : goal.returns-then-self-other-2-clause-limits
returns-then-self-other-2-clause-limits c = (
  λ t. (omega arith, omega arith, grind (arith, ints), grind (arith, ints)),
  λ e. (let last = e.3 in grind (arith, ints)),
)
