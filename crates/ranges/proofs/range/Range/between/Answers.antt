use Rattle.std.proofs.Common.{rules, arith, w64, FitsSigned}
use Rattle.ranges.proofs.RangeLaws.{between_tight}
use Rattle.ranges.proofs.range.Range.between.Goals as goal

pub returns-clause-tight : goal.returns-clause-tight
returns-clause-tight c =
    let r = c.between.result in
    let fl : FitsSigned w64 r.signed_least = search rules in
    let fg : FitsSigned w64 r.signed_greatest = search rules in
    c.within_limits.ensures.tight
    (between_tight r c.args.least c.args.greatest c.requires
    (omega arith) fl fg c.between.ensures.members c.between.ensures.limits
    c.between.ensures.signed)
