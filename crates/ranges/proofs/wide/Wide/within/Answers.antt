use Rattle.ranges.proofs.Common.{arith, ints, clamps}
use Rattle.ranges.proofs.wide.Wide.within.Goals as goal

pub returns-then-least-greatest-clause-common : goal.returns-then-least-greatest-clause-common
returns-then-least-greatest-clause-common c = λ x hx hy. grind (arith, ints, clamps)

pub returns-clause-common : goal.returns-clause-common
returns-clause-common c = λ x hx hy.
    record {
      below = hx.below;
      from = omega arith;
      to = omega arith;
      signed_from = omega (arith, ints, clamps);
      signed_to = omega (arith, ints, clamps);
    }
