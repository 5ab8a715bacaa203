use Rattle.ranges.proofs.Common.{◌≡◌, w64, ap, sym, subst, ◌∙◌, rules, arith, FitsSigned, int_rem, cast_signed, cast_unsigned, to_z-of_z, Full64, SignedMod}
use Rattle.ranges.specs.Wides.{Has}
use Rattle.ranges.proofs.QuotientLaws.{remainder_is, result_below}
use Rattle.ranges.proofs.wide.Wide.full_remainder.Goals as goal

pub returns-then-other-clause-contains : goal.returns-then-other-clause-contains
returns-then-other-clause-contains c = λ x y hx hy.
    let from = hy.from in
    let to = hy.to in
    let one : y ≡ c.args.other.least = omega arith in
    let f : FitsSigned w64 c.cast_signed.result = search rules in
    let by : c.cast_signed.result ≡ cast_signed w64 y = c.cast_signed.ensures
    ∙ ap (cast_signed w64) (sym one) in
    subst (Has c.signed_remainder.result) (sym (remainder_is Full64 x y hx.below))
    (subst (λ z. Has c.signed_remainder.result (cast_unsigned w64 (int_rem (cast_signed w64 x) z)))
    by
    (simp to_z-of_z at (c.signed_remainder.ensures.contains x hx)))

pub returns-else-other-clause-contains : goal.returns-else-other-clause-contains
returns-else-other-clause-contains c =
    λ x y hx hy. (c.any.ensures.members _).1 (result_below SignedMod Full64 x y hx.below hy.below)
