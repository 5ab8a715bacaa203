use Rattle.std.proofs.Common.{rules, arith, w64, FitsSigned}
use Rattle.ranges.proofs.RangeLaws.{between_tight}
use Rattle.ranges.proofs.wide.Wide.any.Goals as goal

pub returns-clause-members : goal.returns-clause-members
returns-clause-members c = λ x.
    let e = c.greatest_of.ensures in
    let b = c.between.ensures.members x in
    (λ h. let p = b.0 h in omega (arith, p.1), λ lt. b.1 (omega arith, omega arith))

pub returns-clause-tight : goal.returns-clause-tight
returns-clause-tight c =
    let r = c.between.result in
    let fl : FitsSigned w64 r.signed_least = search rules in
    let fg : FitsSigned w64 r.signed_greatest = search rules in
    between_tight r 0 c.greatest_of.result (omega arith)
    (omega arith) fl fg c.between.ensures.members c.between.ensures.limits
    c.between.ensures.signed
