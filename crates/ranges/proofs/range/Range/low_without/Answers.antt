use Rattle.ranges.proofs.Common.{◌≡◌, inl, inr, arith, w32, cast_signed, ints}
use Rattle.ranges.proofs.range.Range.low_without.Goals as goal

pub returns-in_err-unsigned-clause-common : goal.returns-in_err-unsigned-clause-common
returns-in_err-unsigned-clause-common c =
    λ x h differs. absurd (c.in_err-unsigned.ensures.common x h differs)

pub returns-in_err-rest-clause-common : goal.returns-in_err-rest-clause-common
returns-in_err-rest-clause-common c = λ x h differs.
    absurd (c.in_err-rest.ensures.common x (c.in_ok-unsigned.ensures.common x h differs) differs)

pub returns-clause-common : goal.returns-clause-common
returns-clause-common c = λ x h differs.
    c.in_ok-rest.ensures.common x (c.in_ok-unsigned.ensures.common x h differs) differs

pub returns-clause-left : goal.returns-clause-left
returns-clause-left c = λ x h. c.in_ok-unsigned.ensures.left x (c.in_ok-rest.ensures.left x h)

pub returns-clause-limit : goal.returns-clause-limit
returns-clause-limit c = λ is x h equal.
    let unsigned = c.in_ok-unsigned.unsigned in
    let signed = cast_signed w32 c.args.half in
    let within = c.in_ok-rest.ensures.left x h in
    let enclosed = c.in_ok-unsigned.ensures.enclosed in
    elim is [
      | inl plain ↦ c.in_ok-unsigned.ensures.limit plain x within equal
      | inr limit ↦ elim limit [
        | inl least ↦
            let from = rw equal at within.1.signed_from in
            let same : unsigned.low.signed_least ≡ signed =
            omega (arith, ints, from, enclosed.1.2) in
            c.in_ok-rest.ensures.limit (inl same) x h equal
        | inr greatest ↦
            let to = rw equal at within.1.signed_to in
            let same : unsigned.low.signed_greatest ≡ signed =
            omega (arith, ints, to, enclosed.1.3) in
            c.in_ok-rest.ensures.limit (inr same) x h equal
      ]
    ]

pub returns-clause-tight : goal.returns-clause-tight
returns-clause-tight c = λ tight. c.in_ok-rest.ensures.tight (c.in_ok-unsigned.ensures.tight tight)
