use Rattle.std.proofs.lemmas.Option.{IfSome_then}
use Rattle.ranges.proofs.EnclosesLaws.{enclosed_low, enclosed_has}
use Rattle.ranges.proofs.RangeLaws.{low_trans}
use Rattle.ranges.proofs.range.Range.low_limited.Goals as goal

pub returns-clause-enclosed : goal.returns-clause-enclosed
returns-clause-enclosed c =
    let common = c.in_ok-common.ensures.enclosed in
    IfSome_then c.tightened.result c.tightened.ensures.enclosed
    (λ m h. (h.0, low_trans c.args.self.low c.in_ok-common.common m.low common.0 h.1))

pub returns-clause-left : goal.returns-clause-left
returns-clause-left c =
    let common = c.in_ok-common.ensures.enclosed in
    IfSome_then c.tightened.result c.tightened.ensures.enclosed
    (λ m h x has.
    enclosed_has c.args.self m x
    (h.0, low_trans c.args.self.low c.in_ok-common.common m.low common.0 h.1) has)

pub returns-clause-right : goal.returns-clause-right
returns-clause-right c =
    let common = c.in_ok-common.ensures.enclosed in
    IfSome_then c.tightened.result c.tightened.ensures.enclosed
    (λ m h x has.
    enclosed_low c.args.low m.low _
    (low_trans c.args.low c.in_ok-common.common m.low common.1 h.1) has.1)
