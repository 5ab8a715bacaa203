use Rattle.ranges.proofs.Common.{◌≡◌, ℕ, zero, suc, ◌-◌, ◌<◌, ℤ, pos, negsuc, w64, rules, arith, refl, ◌-ℤ◌, FitsSigned, unsigned_abs, int_rem, cast_signed, cast_unsigned, int_min, int_max, ints, to_z-of_z, KeepsSignedRemainder, IsSignedBetween, Wide}
use Rattle.ranges.proofs.Limits.{cast_fits, signed_below_64}
use Rattle.ranges.proofs.QuotientLaws.{remainder_fits, remainder_within, remainder_near, negative_of}
use Rattle.ranges.proofs.wide.Wide.signed_remainder.Goals as goal

limits : (r : Wide) (al ag : ℤ) (by : ℕ) → 0 < by
    → IsSignedBetween r (pos 0 -ℤ pos (by - 1)) (pos (by - 1))
    → IsSignedBetween r (int_min al (pos 0)) (int_max ag (pos 0))
    → KeepsSignedRemainder al ag by (IsSignedBetween r)
limits r al ag zero some near within = absurd (omega arith)
limits r al ag (suc most) some near within =
    let same = negative_of most in
    ((omega (arith, ints, near.0), omega (arith, ints, near.1)), within)

some_by : (by : ℤ) → (cast_unsigned w64 by ≡ 0 → ⊥) → 0 < unsigned_abs by
some_by (pos zero) some = absurd (some refl)
some_by (pos (suc n)) some = omega arith
some_by (negsuc n) some = omega arith

pub returns-else-by-eq0-clause-contains : goal.returns-else-by-eq0-clause-contains
returns-else-by-eq0-clause-contains c = λ x hx.
    let a = c.args.self in
    let by = c.args.by in
    let z : ℤ = cast_signed w64 x in
    let some = some_by by (λ e. c.if-by-eq0.false e) in
    let f : FitsSigned w64 by = c.ranges.by in
    let value = simp to_z-of_z at c.unsigned_abs.ensures.value in
    let most = c.unsigned_abs.ensures.bound in
    let is : c.cast_signed.result ≡ pos (unsigned_abs by - 1) =
    omega (arith, ints, c.cast_signed.ensures) in
    let fm : FitsSigned w64 c.cast_signed.result = search rules in
    let fr = remainder_fits w64 z by (cast_fits x hx.below) in
    let near = remainder_near z by (unsigned_abs by - 1) (omega arith) in
    let same = negative_of (unsigned_abs by - 1) in
    let within =
    remainder_within z a.signed_least a.signed_greatest by hx.signed_from hx.signed_to in
    let members =
    simp to_z-of_z at (c.remainder_below.ensures.members (cast_unsigned w64 (int_rem z by))) in
    members (signed_below_64 (int_rem z by) fr) (omega (arith, ints, near.0))
    (omega (arith, ints, near.1)) within.0 within.1

pub returns-else-by-eq0-clause-limits : goal.returns-else-by-eq0-clause-limits
returns-else-by-eq0-clause-limits c =
    let a = c.args.self in
    let by = c.args.by in
    let some = some_by by (λ e. c.if-by-eq0.false e) in
    let f : FitsSigned w64 by = c.ranges.by in
    let value = simp to_z-of_z at c.unsigned_abs.ensures.value in
    let most = c.unsigned_abs.ensures.bound in
    let is : c.cast_signed.result ≡ pos (unsigned_abs by - 1) =
    omega (arith, ints, c.cast_signed.ensures) in
    let fm : FitsSigned w64 c.cast_signed.result = search rules in
    let h = simp to_z-of_z at c.remainder_below.ensures.near in
    limits c.remainder_below.result a.signed_least a.signed_greatest (unsigned_abs by) some
    (omega (arith, ints, h.0), omega (arith, ints, h.1)) c.remainder_below.ensures.within
