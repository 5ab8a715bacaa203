use Rattle.ranges.proofs.Common.{◌≡◌, w64, ap, sym, subst, ◌∙◌, rules, arith, FitsSigned, int_div, w32, cast_signed, cast_unsigned, to_z-of_z, sfits_to_z, Low32, SignedDiv, alu, alu_below, low_same, KeepsSignedQuotient}
use Rattle.ranges.specs.Wides as W
use Rattle.ranges.specs.Lows.{Has}
use Rattle.ranges.proofs.LowResults.{widened}
use Rattle.ranges.proofs.LowQuotientLaws.{low_quotient, low_quotient_limits}
use Rattle.ranges.proofs.low.Low.signed_quotient.Goals as goal

pub returns-then-other-clause-contains : goal.returns-then-other-clause-contains
returns-then-other-clause-contains c =
    λ e f he hf. (c.any.ensures.members _).1 (alu_below SignedDiv Low32 e f)

pub returns-clause-contains : goal.returns-clause-contains
unfolding alu
returns-clause-contains c = λ e f he hf.
    let from = hf.from in
    let to = hf.to in
    let one : f ≡ c.args.other.least = omega arith in
    let fe : FitsSigned w32 (cast_signed w32 e) = sfits_to_z (record { fits = he.below }) in
    let wide = widened (cast_signed w32 e) fe in
    let fb : FitsSigned w32 c.cast_signed.result = search rules in
    let fw : FitsSigned w64 c.from-divisor.result = search rules in
    let by : c.from-divisor.result ≡ cast_signed w32 f = simp to_z-of_z at c.from-divisor.ensures
    ∙ c.cast_signed.ensures ∙ ap (cast_signed w32) (sym one) in
    let has = simp to_z-of_z at
    (c.signed_quotient.ensures.contains _ (c.sign_extended.ensures.contains e he)) in
    let is = subst (λ z.
    W.Has c.signed_quotient.result (cast_unsigned w64 (int_div (cast_signed w32 e) z))) by
    has in
    rw (low_same Low32 e he.below, low_same Low32 f hf.below)
    (subst (Has c.low_limits.result) (low_quotient e f fe) (c.low_limits.ensures.contains _ is))

pub returns-clause-signed : goal.returns-clause-signed
returns-clause-signed c = λ e f he hf one.
    let s = c.args.self in
    let x = c.sign_extended.ensures.limits in
    let f1 : FitsSigned w32 s.signed_least = search rules in
    let f2 : FitsSigned w32 s.signed_greatest = search rules in
    let fb : FitsSigned w32 c.cast_signed.result = search rules in
    let fw : FitsSigned w64 c.from-divisor.result = search rules in
    let by : c.from-divisor.result ≡ cast_signed w32 c.args.other.least =
    simp to_z-of_z at c.from-divisor.ensures ∙ c.cast_signed.ensures in
    let has = c.signed_quotient.ensures.contains _ (c.sign_extended.ensures.contains e he) in
    let limits = rw (x.0, x.1) at (simp to_z-of_z at c.signed_quotient.ensures.limits) in
    low_quotient_limits c.signed_quotient.result c.low_limits.result s.signed_least
    s.signed_greatest (cast_signed w32 c.args.other.least)
    s.signed_ordered f1 f2 (λ is. c.low_limits.ensures.signed _ has is)
    (subst (λ z.
    KeepsSignedQuotient w64 s.signed_least s.signed_greatest z
    (W.IsSignedBetween c.signed_quotient.result)) by limits)
