use Rattle.ranges.proofs.Common.{ℤ, pos, negsuc, ◌<◌, w64, rules, arith, ◌<ℤ◌, ◌≤ℤ◌, FitsSigned, int_div, cast_signed, cast_unsigned, ints, to_z-of_z}
use Rattle.ranges.proofs.Limits.{cast_fits, signed_below_64}
use Rattle.ranges.proofs.QuotientLaws.{quotient_down, quotient_fits_down, quotient_below}
use Rattle.ranges.proofs.wide.Wide.quotient_by_negative.Goals as goal

down : (a b by : ℤ) → by <ℤ pos 0 → a ≤ℤ b → int_div b by ≤ℤ int_div a by
down a b (pos by) some h = absurd (omega (arith, ints))
down a b (negsuc by) some h = quotient_down a b by h

not_zero : (by : ℤ) → by <ℤ pos 0 → FitsSigned w64 by → 0 < cast_unsigned w64 by
not_zero (pos by) below f = absurd (omega (arith, ints))
not_zero (negsuc by) below f = let s = f.sfits in omega arith

fits_down : (a b by : ℤ) → by <ℤ pos 0 → a ≤ℤ b → FitsSigned w64 b → FitsSigned w64 (int_div a by)
    → FitsSigned w64 (int_div b by)
fits_down a b (pos by) some h f fa = absurd (omega (arith, ints))
fits_down a b (negsuc by) some h f fa = quotient_fits_down w64 a b by h f fa

pub returns-in-None-clause-contains : goal.returns-in-None-clause-contains
returns-in-None-clause-contains c =
    λ x hx. (c.any.ensures.members _).1
    (quotient_below (cast_signed w64 x) c.args.by (cast_fits x hx.below))

-- by a negative number, which is not 0, `checked_div` returns nothing only where there is no
-- quotient
pub returns-in-None-clause-limits : goal.returns-in-None-clause-limits
returns-in-None-clause-limits c = λ fits.
    let least : FitsSigned w64 c.args.self.signed_least = search rules in
    let by : FitsSigned w64 c.args.by = c.ranges.by in
    let none = simp to_z-of_z at c.in-None.ensures in
    absurd (none (not_zero c.args.by c.requires by, fits))

pub signed_between-requires : goal.signed_between-requires
signed_between-requires c =
    let a = c.args.self in
    let by : FitsSigned w64 c.args.by = c.ranges.by in
    let f1 : FitsSigned w64 a.signed_least = search rules in
    let f2 : FitsSigned w64 a.signed_greatest = search rules in
    let some = simp to_z-of_z at c.in-Some.ensures in
    let g1 : FitsSigned w64 (int_div a.signed_least c.args.by) = some.0.1 in
    let g2 = fits_down a.signed_least a.signed_greatest c.args.by c.requires a.signed_ordered f2
    g1 in
    rw some.1 (simp to_z-of_z
    (down a.signed_least a.signed_greatest c.args.by c.requires a.signed_ordered))

pub returns-in-Some-clause-contains : goal.returns-in-Some-clause-contains
returns-in-Some-clause-contains c = λ x hx.
    let a = c.args.self in
    let by : FitsSigned w64 c.args.by = c.ranges.by in
    let f1 : FitsSigned w64 a.signed_least = search rules in
    let f2 : FitsSigned w64 a.signed_greatest = search rules in
    let some = simp to_z-of_z at c.in-Some.ensures in
    let g1 : FitsSigned w64 (int_div a.signed_least c.args.by) = some.0.1 in
    let g2 = fits_down a.signed_least a.signed_greatest c.args.by c.requires a.signed_ordered f2
    g1 in
    let g = fits_down a.signed_least (cast_signed w64 x) c.args.by c.requires hx.signed_from
    (cast_fits x hx.below) g1 in
    (c.signed_between.ensures.members
    (cast_unsigned w64 (int_div (cast_signed w64 x) c.args.by))).1 (
      signed_below_64 (int_div (cast_signed w64 x) c.args.by) g,
      simp to_z-of_z (down (cast_signed w64 x) a.signed_greatest c.args.by c.requires hx.signed_to),
      rw some.1 (simp to_z-of_z
          (down a.signed_least (cast_signed w64 x) c.args.by c.requires hx.signed_from)),
    )

pub returns-in-Some-clause-limits : goal.returns-in-Some-clause-limits
returns-in-Some-clause-limits c = λ fits.
    let a = c.args.self in
    let by : FitsSigned w64 c.args.by = c.ranges.by in
    let f1 : FitsSigned w64 a.signed_least = search rules in
    let f2 : FitsSigned w64 a.signed_greatest = search rules in
    let some = simp to_z-of_z at c.in-Some.ensures in
    let g1 : FitsSigned w64 (int_div a.signed_least c.args.by) = some.0.1 in
    let g2 = fits_down a.signed_least a.signed_greatest c.args.by c.requires a.signed_ordered f2
    g1 in
    let greatest : FitsSigned w64 c.in-Some.greatest = search rules in
    let limits = simp to_z-of_z at c.signed_between.ensures.limits in
    (omega (arith, ints, limits.0), omega (arith, ints, limits.1, some.1))
