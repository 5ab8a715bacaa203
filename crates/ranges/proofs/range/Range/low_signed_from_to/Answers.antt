use Rattle.ranges.proofs.Common.{◌%◌, ◌^◌, arith, FitsSigned, w32, ints, to_z-of_z, IfSome_then}
use Rattle.ranges.proofs.range.Range.low_signed_from_to.Goals as goal

pub returns-clause-common : goal.returns-clause-common
returns-clause-common c = λ x h from to.
    let f : FitsSigned w32 c.args.least = c.ranges.least in
    let g : FitsSigned w32 c.args.greatest = c.ranges.greatest in
    let s = simp to_z-of_z at (c.signed_between.ensures.members (x % 2 ^ 32)) in
    c.low_limited.ensures.common x h (s h.1.below from to)

pub returns-clause-right : goal.returns-clause-right
returns-clause-right c =
    IfSome_then c.low_limited.result c.low_limited.ensures.right
    (λ m within x h.
    let f : FitsSigned w32 c.args.least = c.ranges.least in
    let g : FitsSigned w32 c.args.greatest = c.ranges.greatest in
    let s = simp to_z-of_z at c.signed_between.ensures.limits in
    let p = within x h in
    (omega (arith, ints, p.signed_from, s.0), omega (arith, ints, p.signed_to, s.1)))
