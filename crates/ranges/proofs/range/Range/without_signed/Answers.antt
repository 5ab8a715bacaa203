use Rattle.ranges.proofs.Common.{ℕ, ◌≢◌, ◌<◌, ◌^◌, sym, ap, ◌∙◌, arith, ints, of_z-to_z, IfSome_then}
use Rattle.std.specs.Int.{w64, cast_signed, cast_unsigned}
use Rattle.ranges.proofs.range.Range.without_signed.Goals as goal

-- numbers that differ do so read with a sign
cast_signed-apart : (x n : ℕ) → x < 2 ^ 64 → n < 2 ^ 64 → x ≢ n
    → cast_signed w64 x ≢ cast_signed w64 n
cast_signed-apart x n x_in n_in differs same =
    differs (sym (of_z-to_z w64 x x_in) ∙ ap (cast_unsigned w64) same ∙ of_z-to_z w64 n n_in)

pub returns-else-signed-eq9223372036854775807-clause-common :
    goal.returns-else-signed-eq9223372036854775807-clause-common
returns-else-signed-eq9223372036854775807-clause-common c = λ x h differs.
    let apart = cast_signed-apart x c.args.number h.0.below (omega arith) differs in
    c.signed_from_to.ensures.common x h (omega (arith, ints)) (omega (arith, ints))

pub returns-else-signed-clause-common : goal.returns-else-signed-clause-common
returns-else-signed-clause-common c = λ x h differs.
    let apart = cast_signed-apart x c.args.number h.0.below (omega arith) differs in
    c.signed_from_to-then-self-signed-2.ensures.common x h (omega (arith, ints))
    (omega (arith, ints))

pub returns-else-signed-eq9223372036854775807-clause-limit :
    goal.returns-else-signed-eq9223372036854775807-clause-limit
returns-else-signed-eq9223372036854775807-clause-limit c =
    IfSome_then c.signed_from_to.result c.signed_from_to.ensures.right
    (λ r within is h. let b = within c.args.number h in omega (arith, ints, b.0))

pub returns-else-signed-clause-limit : goal.returns-else-signed-clause-limit
returns-else-signed-clause-limit c =
    IfSome_then c.signed_from_to-then-self-signed-2.result
    c.signed_from_to-then-self-signed-2.ensures.right
    (λ r within is h. let b = within c.args.number h in omega (arith, ints, b.1))
