use Rattle.ranges.proofs.Common.{rules, arith, w64, FitsSigned, to_z-of_z}
use Rattle.ranges.proofs.RangeLaws.{signed_between_tight}
use Rattle.ranges.proofs.range.Range.signed_between.Goals as goal

pub returns-clause-members : goal.returns-clause-members
returns-clause-members c = λ x.
    let f : FitsSigned w64 c.args.least = search rules in
    let g : FitsSigned w64 c.args.greatest = search rules in
    let m = c.within_limits.ensures.members x in
    let s = simp to_z-of_z at (c.signed_between.ensures.members x) in
    (λ h. s.0 (m.0 h), λ h. m.1 (s.1 h))

pub returns-clause-unsigned : goal.returns-clause-unsigned
returns-clause-unsigned c = λ le.
    let f : FitsSigned w64 c.args.least = search rules in
    let g : FitsSigned w64 c.args.greatest = search rules in
    let u = simp to_z-of_z at c.signed_between.ensures.unsigned in
    rw c.within_limits.ensures.limits (u le)

pub returns-clause-tight : goal.returns-clause-tight
returns-clause-tight c =
    let f : FitsSigned w64 c.args.least = search rules in
    let g : FitsSigned w64 c.args.greatest = search rules in
    let limits = simp to_z-of_z at c.signed_between.ensures.limits in
    let unsigned = simp to_z-of_z at c.signed_between.ensures.unsigned in
    c.within_limits.ensures.tight
    (signed_between_tight c.signed_between.result c.args.least c.args.greatest c.requires f g
    (omega arith)
    (λ x. simp to_z-of_z at (c.signed_between.ensures.members x)) limits unsigned)
