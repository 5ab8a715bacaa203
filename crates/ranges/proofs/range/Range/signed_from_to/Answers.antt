use Rattle.ranges.proofs.Common.{w64, FitsSigned, to_z-of_z, IfSome_then}
use Rattle.ranges.proofs.range.Range.signed_from_to.Goals as goal

pub returns-clause-common : goal.returns-clause-common
returns-clause-common c = λ x h from to.
    let f : FitsSigned w64 c.args.least = c.ranges.least in
    let g : FitsSigned w64 c.args.greatest = c.ranges.greatest in
    let s = simp to_z-of_z at (c.signed_between.ensures.members x) in
    c.limited.ensures.common x h (s.1 (h.0.below, from, to))

pub returns-clause-right : goal.returns-clause-right
returns-clause-right c =
    IfSome_then c.limited.result c.limited.ensures.right
    (λ m within x h.
    let f : FitsSigned w64 c.args.least = c.ranges.least in
    let g : FitsSigned w64 c.args.greatest = c.ranges.greatest in
    let s = simp to_z-of_z at (c.signed_between.ensures.members x) in
    let p = s.0 (within x h) in (p.1, p.2))
