use Rattle.ranges.proofs.Common.{◌≡◌, false, ℤ, pos, negsuc, zero, suc, w64, arith, refl, ◌<ℤ◌, FitsSigned, int_div, int_lt, cast_signed, cast_unsigned, ints, to_z-of_z, div-zero, KeepsSignedQuotient, IsSignedBetween, Wide}
use Rattle.ranges.proofs.wide.Wide.signed_quotient.Goals as goal

by_zero : (a : ℤ) → int_div a (pos 0) ≡ pos 0
by_zero (pos a) = rw (div-zero a) refl
by_zero (negsuc a) = rw (div-zero (suc a)) refl

is_below : (by : ℤ) → (cast_unsigned w64 by ≡ 0 → ⊥) → int_lt (pos 0) by ≡ false → by <ℤ pos 0
is_below (pos zero) some above = absurd (some refl)
is_below (pos (suc n)) some above = absurd (grind (arith, ints))
is_below (negsuc n) some above = omega (arith, ints)

negative : (r : Wide) (al ag by : ℤ) → by <ℤ pos 0
    → (FitsSigned w64 (int_div al by) → IsSignedBetween r (int_div ag by) (int_div al by))
    → KeepsSignedQuotient w64 al ag by (IsSignedBetween r)
negative r al ag (pos by) some h = absurd (omega (arith, ints))
negative r al ag (negsuc by) some h = h

pub returns-then-by-eq0-clause-contains : goal.returns-then-by-eq0-clause-contains
returns-then-by-eq0-clause-contains c = λ x hx.
    let f : FitsSigned w64 c.args.by = c.ranges.by in
    let none : c.args.by ≡ pos 0 = omega (arith, ints, c.if-by-eq0.true) in
    rw (none, by_zero (cast_signed w64 x))
    ((c.between.ensures.members 0).1 (omega arith, omega arith))

pub returns-then-by-gt0-clause-contains : goal.returns-then-by-gt0-clause-contains
returns-then-by-gt0-clause-contains c = λ x hx.
    let f : FitsSigned w64 c.args.by = c.ranges.by in
    simp to_z-of_z at (c.quotient_by_positive.ensures.contains x hx)

pub returns-else-by-gt0-clause-contains : goal.returns-else-by-gt0-clause-contains
returns-else-by-gt0-clause-contains c = λ x hx.
    let f : FitsSigned w64 c.args.by = c.ranges.by in
    simp to_z-of_z at (c.quotient_by_negative.ensures.contains x hx)

pub returns-else-by-gt0-clause-limits : goal.returns-else-by-gt0-clause-limits
returns-else-by-gt0-clause-limits c =
    let f : FitsSigned w64 c.args.by = c.ranges.by in
    let below : c.args.by <ℤ pos 0 =
    is_below c.args.by (λ e. c.if-by-eq0.false e) (simp to_z-of_z at c.if-by-gt0.false) in
    negative c.quotient_by_negative.result c.args.self.signed_least c.args.self.signed_greatest
    c.args.by below (simp to_z-of_z at c.quotient_by_negative.ensures.limits)
