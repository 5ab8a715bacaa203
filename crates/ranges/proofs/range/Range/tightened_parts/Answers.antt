use Rattle.ranges.proofs.Common.{◌^◌, inl, inr, cases_lt, IfSome_then, Encloses}
use Rattle.ranges.proofs.EnclosesLaws.{enclosed_has}
use Rattle.ranges.proofs.RangeLaws.{low_trans, either_tight}
use Rattle.ranges.proofs.range.Range.tightened_parts.Goals as goal

pub returns-then-covers-clause-common : goal.returns-then-covers-clause-common
returns-then-covers-clause-common c = λ x h. (c.any-all.ensures.members x).1 h.0.below

pub returns-then-covers-clause-enclosed : goal.returns-then-covers-clause-enclosed
returns-then-covers-clause-enclosed c = c.covers.ensures.limits.0 c.if-covers.true

pub returns-then-covers-clause-tight : goal.returns-then-covers-clause-tight
returns-then-covers-clause-tight c = c.any-all.ensures.tight

pub returns-in_default-clause-enclosed : goal.returns-in_default-clause-enclosed
returns-in_default-clause-enclosed c =
    IfSome_then c.plain_part.result c.plain_part.ensures.enclosed
    (λ p h. (h.0, low_trans c.args.self.low c.in_ok-low.low p.low c.in_ok-low.ensures.enclosed h.1))

pub returns-in-Some-plain_part-clause-common : goal.returns-in-Some-plain_part-clause-common
returns-in-Some-plain_part-clause-common c = λ x h.
    let low = c.in_ok-low.ensures.common _ h.1 in
    let r = c.followed_by.result in
    elim (cases_lt x (2 ^ 63)) [
      | inl plain ↦
          enclosed_has r c.in-Some-plain_part.plain x c.followed_by.ensures.left
          (c.in-Some-plain_part.ensures.common x h.0 low plain)
      | inr signed ↦
          enclosed_has r c.in-Some.signed x c.followed_by.ensures.right
          (c.in-Some.ensures.common x h.0 low signed)
    ]

pub returns-in-Some-plain_part-clause-enclosed : goal.returns-in-Some-plain_part-clause-enclosed
returns-in-Some-plain_part-clause-enclosed c =
    let s = c.args.self in
    let low = c.in_ok-low.ensures.enclosed in
    let left : Encloses s c.in-Some-plain_part.plain =
    let e = c.in-Some-plain_part.ensures.enclosed in
    (e.0, low_trans s.low c.in_ok-low.low c.in-Some-plain_part.plain.low low e.1) in
    let right : Encloses s c.in-Some.signed =
    let e = c.in-Some.ensures.enclosed in
    (e.0, low_trans s.low c.in_ok-low.low c.in-Some.signed.low low e.1) in
    c.followed_by.ensures.enclosed s left right

pub returns-in-Some-plain_part-clause-tight : goal.returns-in-Some-plain_part-clause-tight
returns-in-Some-plain_part-clause-tight c =
    let f = c.followed_by.ensures in
    either_tight c.followed_by.result c.in-Some-plain_part.plain c.in-Some.signed f.left f.right
    f.wide.0 f.wide.1 f.wide.2 f.wide.3
    f.either c.in-Some-plain_part.ensures.tight c.in-Some.ensures.tight

pub returns-in-None-clause-common : goal.returns-in-None-clause-common
returns-in-None-clause-common c = λ x h.
    let low = c.in_ok-low.ensures.common _ h.1 in
    elim (cases_lt x (2 ^ 63)) [
      | inl plain ↦ absurd (c.in-None.ensures.common x h.0 low plain)
      | inr signed ↦ c.in-Some.ensures.common x h.0 low signed
    ]

pub returns-in-None-clause-enclosed : goal.returns-in-None-clause-enclosed
returns-in-None-clause-enclosed c =
    let e = c.in-Some.ensures.enclosed in (
      e.0,
      low_trans c.args.self.low c.in_ok-low.low c.in-Some.signed.low
          c.in_ok-low.ensures.enclosed e.1,
    )
