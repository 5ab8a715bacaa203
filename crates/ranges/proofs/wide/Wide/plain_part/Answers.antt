use Rattle.ranges.proofs.Common.{arith, ints, clamps, signed_equation}
use Rattle.ranges.proofs.wide.Wide.plain_part.Goals as goal

pub returns-clause-common : goal.returns-clause-common
returns-clause-common c = λ x hx x_in.
    let e = signed_equation x hx.below in
    (c.between.ensures.members x).1 (omega (arith, ints, clamps), omega (arith, ints, clamps))
