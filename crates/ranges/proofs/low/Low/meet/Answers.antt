use Rattle.ranges.proofs.Common.{arith, ints, IfSome_then}
use Rattle.ranges.proofs.low.Low.meet.Goals as goal

pub returns-clause-enclosed : goal.returns-clause-enclosed
returns-clause-enclosed c =
    let both = c.in_ok-both.ensures.enclosed in
    IfSome_then c.tightened.result c.tightened.ensures.enclosed
    (λ m within. (
      (
        omega (arith, both.0, within),
        omega (arith, both.0, within),
        omega (arith, ints, both.0, within),
        omega (arith, ints, both.0, within),
      ),
      (
        omega (arith, both.1, within),
        omega (arith, both.1, within),
        omega (arith, ints, both.1, within),
        omega (arith, ints, both.1, within),
      ),
    ))
