use Rattle.ranges.proofs.Common.{◌^◌, inl, inr, arith, ints, cases_lt, IsHalfBetween, HasHalf}
use Rattle.ranges.proofs.EnclosesLaws.{enclosed_low}
use Rattle.ranges.proofs.LowLaws.{reached_weaker, either_reached, fits_between}
use Rattle.ranges.proofs.RangeLaws.{among_half}
use Rattle.ranges.proofs.wide.Wide.low_limits.Goals as goal

pub returns-in-Some-plain_part-2-clause-contains : goal.returns-in-Some-plain_part-2-clause-contains
returns-in-Some-plain_part-2-clause-contains c = λ x h.
    let l = c.hull.result in
    elim (cases_lt x (2 ^ 63)) [
      | inl plain ↦
          enclosed_low l c.unsigned_halves-in-Some-plain_part-2.result _ c.hull.ensures.left
          (c.unsigned_halves-in-Some-plain_part-2.ensures.contains x
          (c.in-Some-plain_part-2.ensures.common x h plain))
      | inr signed ↦
          enclosed_low l c.unsigned_halves-in-Some-plain_part-2-2.result _ c.hull.ensures.right
          (c.unsigned_halves-in-Some-plain_part-2-2.ensures.contains x
          (c.in-Some.ensures.common x h signed))
    ]

pub returns-in-Some-plain_part-2-clause-signed : goal.returns-in-Some-plain_part-2-clause-signed
returns-in-Some-plain_part-2-clause-signed c = λ x h is.
    let s = c.args.self in
    let a = c.in-Some-plain_part-2.plain in
    let b = c.in-Some.signed in
    let ea = c.in-Some-plain_part-2.ensures.enclosed in
    let eb = c.in-Some.ensures.enclosed in
    let oa = a.signed_ordered in
    let ob = b.signed_ordered in
    let ra = c.unsigned_halves-in-Some-plain_part-2.ensures.signed
    c.in-Some-plain_part-2.ensures.alike (
      fits_between s.signed_least s.signed_greatest _ is.0 is.1 ea.2 (omega (arith, ints, ea.3)),
      fits_between s.signed_least s.signed_greatest _ is.0 is.1 (omega (arith, ints, ea.2)) ea.3,
    ) in
    let rb = c.unsigned_halves-in-Some-plain_part-2-2.ensures.signed c.in-Some.ensures.alike (
      fits_between s.signed_least s.signed_greatest _ is.0 is.1 eb.2 (omega (arith, ints, eb.3)),
      fits_between s.signed_least s.signed_greatest _ is.0 is.1 (omega (arith, ints, eb.2)) eb.3,
    ) in (
      elim c.hull.ensures.either.2 [
        | inl e ↦ omega (arith, ints, ra.0, ea.2, e)
        | inr e ↦ omega (arith, ints, rb.0, eb.2, e)
      ],
      elim c.hull.ensures.either.3 [
        | inl e ↦ omega (arith, ints, ra.1, ea.3, e)
        | inr e ↦ omega (arith, ints, rb.1, eb.3, e)
      ],
    )

pub returns-in-Some-plain_part-2-clause-reached : goal.returns-in-Some-plain_part-2-clause-reached
returns-in-Some-plain_part-2-clause-reached c = λ x h.
    let s = c.args.self in
    let a = c.in-Some-plain_part-2.plain in
    let b = c.in-Some.signed in
    let ra = c.unsigned_halves-in-Some-plain_part-2.result in
    let rb = c.unsigned_halves-in-Some-plain_part-2-2.result in
    either_reached c.hull.result ra rb (HasHalf s) c.hull.ensures.either
    (reached_weaker ra (IsHalfBetween a.least a.greatest) (HasHalf s)
    (λ e is. among_half s a e (omega arith)
    (inl c.in-Some-plain_part-2.ensures.side) c.in-Some-plain_part-2.ensures.alike
    c.in-Some-plain_part-2.ensures.left is)
    c.unsigned_halves-in-Some-plain_part-2.ensures.reached)
    (reached_weaker rb (IsHalfBetween b.least b.greatest) (HasHalf s)
    (λ e is. among_half s b e (omega arith)
    (inr c.in-Some.ensures.side) c.in-Some.ensures.alike c.in-Some.ensures.left is)
    c.unsigned_halves-in-Some-plain_part-2-2.ensures.reached)

pub returns-in-Some-plain_part-clause-signed : goal.returns-in-Some-plain_part-clause-signed
returns-in-Some-plain_part-clause-signed c = λ x h is.
    let s = c.args.self in
    let a = c.in-Some-plain_part.plain in
    let ea = c.in-Some-plain_part.ensures.enclosed in
    let oa = a.signed_ordered in
    let ra = c.unsigned_halves.ensures.signed c.in-Some-plain_part.ensures.alike (
      fits_between s.signed_least s.signed_greatest _ is.0 is.1 ea.2 (omega (arith, ints, ea.3)),
      fits_between s.signed_least s.signed_greatest _ is.0 is.1 (omega (arith, ints, ea.2)) ea.3,
    ) in
    (omega (arith, ints, ra.0, ea.2), omega (arith, ints, ra.1, ea.3))

pub returns-in-Some-plain_part-clause-reached : goal.returns-in-Some-plain_part-clause-reached
returns-in-Some-plain_part-clause-reached c = λ x h.
    let s = c.args.self in
    let a = c.in-Some-plain_part.plain in
    reached_weaker c.unsigned_halves.result (IsHalfBetween a.least a.greatest) (HasHalf s)
    (λ e is. among_half s a e (omega arith)
    (inl c.in-Some-plain_part.ensures.side) c.in-Some-plain_part.ensures.alike
    c.in-Some-plain_part.ensures.left is)
    c.unsigned_halves.ensures.reached

pub returns-in-None-plain_part-clause-signed : goal.returns-in-None-plain_part-clause-signed
returns-in-None-plain_part-clause-signed c = λ x h is.
    let s = c.args.self in
    let a = c.in-Some.signed in
    let ea = c.in-Some.ensures.enclosed in
    let oa = a.signed_ordered in
    let ra = c.unsigned_halves-in-None-plain_part.ensures.signed c.in-Some.ensures.alike (
      fits_between s.signed_least s.signed_greatest _ is.0 is.1 ea.2 (omega (arith, ints, ea.3)),
      fits_between s.signed_least s.signed_greatest _ is.0 is.1 (omega (arith, ints, ea.2)) ea.3,
    ) in
    (omega (arith, ints, ra.0, ea.2), omega (arith, ints, ra.1, ea.3))

pub returns-in-None-plain_part-clause-reached : goal.returns-in-None-plain_part-clause-reached
returns-in-None-plain_part-clause-reached c = λ x h.
    let s = c.args.self in
    let a = c.in-Some.signed in
    reached_weaker c.unsigned_halves-in-None-plain_part.result (IsHalfBetween a.least a.greatest)
    (HasHalf s)
    (λ e is. among_half s a e (omega arith)
    (inr c.in-Some.ensures.side) c.in-Some.ensures.alike c.in-Some.ensures.left is)
    c.unsigned_halves-in-None-plain_part.ensures.reached
