use Rattle.ranges.proofs.Common.{◌≡◌, ap, sym, ◌∙◌, rules, arith, FitsSigned, w32, int_shr, ints, Low32, Arsh, alu, shift, alu_below, low_same}
use Rattle.ranges.proofs.LowResults.{signed_kept}
use Rattle.ranges.proofs.Raised.{shifted_low, half_fits}
use Rattle.ranges.proofs.low.Low.shift_signed.Goals as goal

pub returns-then-other-clause-contains : goal.returns-then-other-clause-contains
returns-then-other-clause-contains c =
    λ e f he hf. (c.any.ensures.members _).1 (alu_below Arsh Low32 e f)

pub returns-clause-contains : goal.returns-clause-contains
unfolding alu
returns-clause-contains c = λ e f he hf.
    let k = c.distance-by.result in
    let from = hf.from in
    let to = hf.to in
    let one : f ≡ c.from.result = omega arith in
    let by : shift Low32 f ≡ k = ap (shift Low32) one ∙ sym c.distance-by.ensures.value in
    rw (low_same Low32 e he.below, low_same Low32 f hf.below, by, sym (shifted_low e k he.below))
    (c.low_limits.ensures.contains _
    (c.shift_signed.ensures.contains _ (c.sign_extended.ensures.contains e he)))

pub returns-clause-signed : goal.returns-clause-signed
returns-clause-signed c = λ e f he hf one.
    let s = c.args.self in
    let k = c.distance-by.result in
    let x = c.sign_extended.ensures.limits in
    let r = c.shift_signed.ensures.limits in
    let f1 : FitsSigned w32 s.signed_least = search rules in
    let f2 : FitsSigned w32 s.signed_greatest = search rules in
    let least = r.0 ∙ ap (λ z. int_shr z k) x.0 in
    let greatest = r.1 ∙ ap (λ z. int_shr z k) x.1 in
    let wide : c.args.other.least ≡ c.from.result = omega arith in
    let by : shift Low32 c.args.other.least ≡ k = ap (shift Low32) wide
    ∙ sym c.distance-by.ensures.value in
    rw by (signed_kept c.shift_signed.result c.low_limits.result (int_shr s.signed_least k)
    (int_shr s.signed_greatest k)
    (half_fits s.signed_least k f1) (half_fits s.signed_greatest k f2)
    (omega (arith, ints, least), omega (arith, ints, greatest))
    (λ is. c.low_limits.ensures.signed _
    (c.shift_signed.ensures.contains _ (c.sign_extended.ensures.contains e he)) is))
