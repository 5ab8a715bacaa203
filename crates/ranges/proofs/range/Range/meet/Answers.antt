use Rattle.ranges.proofs.Common.{IfSome_then, Range, Encloses}
use Rattle.ranges.proofs.EnclosesLaws.{enclosed_has}
use Rattle.ranges.proofs.RangeLaws.{wide_trans, low_trans}
use Rattle.ranges.proofs.range.Range.meet.Goals as goal

-- what is within the common limits is within each
both_enclosed : (a b m : Range) → Encloses a b → Encloses b m → Encloses a m
both_enclosed a b m h k =
    (wide_trans a.wide b.wide m.wide h.0 k.0, low_trans a.low b.low m.low h.1 k.1)

pub returns-clause-enclosed : goal.returns-clause-enclosed
returns-clause-enclosed c =
    let both : Range = record { wide = c.in_ok-wide.wide; low = c.in_ok-low.low } in
    let wide = c.in_ok-wide.ensures.enclosed in
    let low = c.in_ok-low.ensures.enclosed in
    IfSome_then c.tightened.result c.tightened.ensures.enclosed
    (λ m h. (
      both_enclosed c.args.self both m (wide.0, low.0) h,
      both_enclosed c.args.other both m (wide.1, low.1) h,
    ))

pub returns-clause-left : goal.returns-clause-left
returns-clause-left c =
    let both : Range = record { wide = c.in_ok-wide.wide; low = c.in_ok-low.low } in
    let wide = c.in_ok-wide.ensures.enclosed in
    let low = c.in_ok-low.ensures.enclosed in
    IfSome_then c.tightened.result c.tightened.ensures.enclosed
    (λ m h x has.
    enclosed_has c.args.self m x (both_enclosed c.args.self both m (wide.0, low.0) h) has)

pub returns-clause-right : goal.returns-clause-right
returns-clause-right c =
    let both : Range = record { wide = c.in_ok-wide.wide; low = c.in_ok-low.low } in
    let wide = c.in_ok-wide.ensures.enclosed in
    let low = c.in_ok-low.ensures.enclosed in
    IfSome_then c.tightened.result c.tightened.ensures.enclosed
    (λ m h x has.
    enclosed_has c.args.other m x (both_enclosed c.args.other both m (wide.1, low.1) h) has)
