use Rattle.ranges.proofs.Common.{arith, IfSome_then}
use Rattle.ranges.proofs.RangeLaws.{wide_trans}
use Rattle.ranges.proofs.range.Range.signed_part.Goals as goal

pub returns-in_err-part-clause-common : goal.returns-in_err-part-clause-common
returns-in_err-part-clause-common c =
    λ x has low side. absurd (c.in_err-part.ensures.common x has side)

pub returns-clause-common : goal.returns-clause-common
returns-clause-common c =
    λ x has low side. c.narrowed.ensures.common x (c.in_ok-part.ensures.common x has side) low

pub returns-clause-enclosed : goal.returns-clause-enclosed
returns-clause-enclosed c =
    IfSome_then c.narrowed.result c.narrowed.ensures.enclosed
    (λ p h. (
      wide_trans c.args.self.wide c.in_ok-part.part p.wide c.in_ok-part.ensures.enclosed h.0,
      h.1,
    ))

pub returns-clause-side : goal.returns-clause-side
returns-clause-side c =
    let side = c.in_ok-part.ensures.side in
    IfSome_then c.narrowed.result c.narrowed.ensures.enclosed (λ p h. omega (arith, h.0))
