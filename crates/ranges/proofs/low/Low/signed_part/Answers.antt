use Rattle.ranges.proofs.Common.{arith, ints, clamps}
use Rattle.ranges.proofs.LowLaws.{low_signed_equation}
use Rattle.ranges.proofs.low.Low.signed_part.Goals as goal

pub returns-clause-common : goal.returns-clause-common
returns-clause-common c = λ x hx x_in.
    let e = low_signed_equation x hx.below in
    (c.between.ensures.members x).1 (omega (arith, ints, clamps), omega (arith, ints, clamps))

pub returns-clause-left : goal.returns-clause-left
returns-clause-left c = λ x h.
    let e = low_signed_equation x h.below in
    let m = (c.between.ensures.members x).0 h in
    record {
      below = h.below;
      from = omega (arith, m);
      to = omega (arith, ints, clamps, m);
      signed_from = omega (arith, ints, clamps, m);
      signed_to = omega (arith, ints, clamps, m);
    }

pub returns-clause-alike : goal.returns-clause-alike
returns-clause-alike c =
    let l = c.between.ensures.limits in
    let e = low_signed_equation c.max-least.result (omega arith) in
    let f = low_signed_equation c.min-greatest.result (omega arith) in
    let s = c.between.ensures.signed (omega (arith, ints, clamps)) in
    rw (l.0, l.1) s
