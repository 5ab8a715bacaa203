use Rattle.ranges.proofs.Common.{ℕ, ◌≢◌, ◌<◌, ◌^◌, ◌%◌, sym, ap, ◌∙◌, arith, w32, cast_signed, cast_unsigned, ints, of_z-to_z, IfSome_then}
use Rattle.ranges.proofs.range.Range.low_without_signed.Goals as goal

-- numbers that differ do so read with a sign
cast_signed-apart : (x n : ℕ) → x < 2 ^ 32 → n < 2 ^ 32 → x ≢ n
    → cast_signed w32 x ≢ cast_signed w32 n
cast_signed-apart x n x_in n_in differs same =
    differs (sym (of_z-to_z w32 x x_in) ∙ ap (cast_unsigned w32) same ∙ of_z-to_z w32 n n_in)

pub returns-else-signed-eq2147483647-clause-common :
    goal.returns-else-signed-eq2147483647-clause-common
returns-else-signed-eq2147483647-clause-common c = λ x h differs.
    let apart = cast_signed-apart (x % 2 ^ 32) c.args.half h.1.below (omega arith) differs in
    c.low_signed_from_to.ensures.common x h (omega (arith, ints)) (omega (arith, ints))

pub returns-else-signed-clause-common : goal.returns-else-signed-clause-common
returns-else-signed-clause-common c = λ x h differs.
    let apart = cast_signed-apart (x % 2 ^ 32) c.args.half h.1.below (omega arith) differs in
    c.low_signed_from_to-then-self-signed-2.ensures.common x h (omega (arith, ints))
    (omega (arith, ints))

pub returns-else-signed-eq2147483647-clause-limit :
    goal.returns-else-signed-eq2147483647-clause-limit
returns-else-signed-eq2147483647-clause-limit c =
    IfSome_then c.low_signed_from_to.result c.low_signed_from_to.ensures.right
    (λ r within is x h equal. let b = within x h in let s = rw equal at b.0 in omega (arith, ints))

pub returns-else-signed-clause-limit : goal.returns-else-signed-clause-limit
returns-else-signed-clause-limit c =
    IfSome_then c.low_signed_from_to-then-self-signed-2.result
    c.low_signed_from_to-then-self-signed-2.ensures.right
    (λ r within is x h equal. let b = within x h in let s = rw equal at b.1 in omega (arith, ints))
