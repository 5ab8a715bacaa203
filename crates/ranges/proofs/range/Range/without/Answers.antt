use Rattle.ranges.proofs.Common.{◌≡◌, inl, inr, arith, ints}
use Rattle.std.specs.Int.{w64, cast_signed}
use Rattle.ranges.proofs.range.Range.without.Goals as goal

pub returns-in_err-unsigned-clause-common : goal.returns-in_err-unsigned-clause-common
returns-in_err-unsigned-clause-common c =
    λ x h differs. absurd (c.in_err-unsigned.ensures.common x h differs)

pub returns-in_err-rest-clause-common : goal.returns-in_err-rest-clause-common
returns-in_err-rest-clause-common c = λ x h differs.
    absurd (c.in_err-rest.ensures.common x (c.in_ok-unsigned.ensures.common x h differs) differs)

pub returns-clause-common : goal.returns-clause-common
returns-clause-common c = λ x h differs.
    c.in_ok-rest.ensures.common x (c.in_ok-unsigned.ensures.common x h differs) differs

pub returns-clause-left : goal.returns-clause-left
returns-clause-left c = λ x h. c.in_ok-unsigned.ensures.left x (c.in_ok-rest.ensures.left x h)

pub returns-clause-limit : goal.returns-clause-limit
returns-clause-limit c = λ is h.
    let unsigned = c.in_ok-unsigned.unsigned in
    let signed = cast_signed w64 c.args.number in
    let within = c.in_ok-rest.ensures.left c.args.number h in
    let enclosed = c.in_ok-unsigned.ensures.enclosed in
    elim is [
      | inl plain ↦ c.in_ok-unsigned.ensures.limit plain within
      | inr limit ↦ elim limit [
        | inl least ↦
            let same : unsigned.wide.signed_least ≡ signed =
            omega (arith, ints, within.0.signed_from, enclosed.0.2) in
            c.in_ok-rest.ensures.limit (inl same) h
        | inr greatest ↦
            let same : unsigned.wide.signed_greatest ≡ signed =
            omega (arith, ints, within.0.signed_to, enclosed.0.3) in
            c.in_ok-rest.ensures.limit (inr same) h
      ]
    ]

pub returns-clause-tight : goal.returns-clause-tight
returns-clause-tight c = λ tight. c.in_ok-rest.ensures.tight (c.in_ok-unsigned.ensures.tight tight)
