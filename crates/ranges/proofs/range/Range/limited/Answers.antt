use Rattle.std.proofs.lemmas.Option.{IfSome_then}
use Rattle.ranges.proofs.EnclosesLaws.{enclosed_has, enclosed_wide}
use Rattle.ranges.proofs.RangeLaws.{wide_trans}
use Rattle.ranges.proofs.range.Range.limited.Goals as goal

pub returns-clause-enclosed : goal.returns-clause-enclosed
returns-clause-enclosed c =
    let common = c.in_ok-common.ensures.enclosed in
    IfSome_then c.tightened.result c.tightened.ensures.enclosed
    (λ m h. (wide_trans c.args.self.wide c.in_ok-common.common m.wide common.0 h.0, h.1))

pub returns-clause-left : goal.returns-clause-left
returns-clause-left c =
    let common = c.in_ok-common.ensures.enclosed in
    IfSome_then c.tightened.result c.tightened.ensures.enclosed
    (λ m h x has.
    enclosed_has c.args.self m x
    (wide_trans c.args.self.wide c.in_ok-common.common m.wide common.0 h.0, h.1) has)

pub returns-clause-right : goal.returns-clause-right
returns-clause-right c =
    let common = c.in_ok-common.ensures.enclosed in
    IfSome_then c.tightened.result c.tightened.ensures.enclosed
    (λ m h x has.
    enclosed_wide c.args.wide m.wide x
    (wide_trans c.args.wide c.in_ok-common.common m.wide common.1 h.0) has.0)
