use Rattle.ranges.proofs.Common.{rules, w64, FitsSigned, w32}
use Rattle.ranges.proofs.LowResults.{reads_difference}
use Rattle.ranges.proofs.Limits.{negative_fits}
use Rattle.ranges.proofs.range.Range.negate.Goals as goal

pub returns-clause-tight : goal.returns-clause-tight
returns-clause-tight c = λ x h. c.alu.ensures.tight 0 x c.constant.ensures.contains h

pub returns-clause-signed : goal.returns-clause-signed
returns-clause-signed c = λ x hx full fits.
    let a = c.args.a.wide in
    let f : FitsSigned w64 a.signed_greatest = search rules in
    let k = c.constant.ensures.constant.0 in
    let keeps = rw (k.2, k.3) at (c.alu.ensures.signed 0 x c.constant.ensures.contains hx full) in
    keeps (negative_fits w64 a.signed_least a.signed_greatest a.signed_ordered f fits) fits

pub returns-clause-low_signed : goal.returns-clause-low_signed
returns-clause-low_signed c = λ x hx fits.
    let a = c.args.a.low in
    let f : FitsSigned w32 a.signed_greatest = search rules in
    let k = c.constant.ensures.constant.1 in
    let keeps = rw (k.2, k.3) at
    (c.alu.ensures.low_signed 0 x c.constant.ensures.contains hx
    (reads_difference c.args.width c.args.a.wide)) in
    keeps (negative_fits w32 a.signed_least a.signed_greatest a.signed_ordered f fits) fits
