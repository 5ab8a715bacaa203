-- Signed quotients and remainders of low halves, by way of halves extended by their sign.
use Rattle.ranges.proofs.Common.{◌≡◌, ℕ, ℤ, pos, negsuc, zero, suc, ◌/◌, ◌%◌, ◌^◌, ◌<◌, ◌≤◌, refl, sym, ◌∙◌, arith, w64, neg_ℤ, ◌≤ℤ◌, FitsSigned, int_div, int_rem, unsigned_abs, w32, cast_signed, cast_unsigned, int_min, int_max, ints, clamps, div-le_self, mod-le, Low32, SignedDiv, SignedMod, result_of, KeepsSignedQuotient, KeepsSignedRemainder, Wide, Low}
use Rattle.ranges.specs.Wides as W
use Rattle.ranges.specs.Lows as L
use Rattle.ranges.proofs.Limits.{fits_32}
use Rattle.ranges.proofs.LowResults.{signed_kept, widened}
use Rattle.ranges.proofs.QuotientLaws.{quotient_is, remainder_is, quotient_fits, quotient_fits_down, negative_of}

-- ---- results

abs_negative : (n : ℕ) → unsigned_abs (neg_ℤ (pos n)) ≡ n
abs_negative zero = refl
abs_negative (suc n) = refl

quotient_near : (a b : ℤ) → unsigned_abs (int_div a b) ≤ unsigned_abs a
quotient_near (pos a) (pos b) = div-le_self a b
quotient_near (pos a) (negsuc b) =
    let e = abs_negative (a / suc b) in let l = div-le_self a (suc b) in omega arith
quotient_near (negsuc a) (pos b) =
    let e = abs_negative (suc a / b) in let l = div-le_self (suc a) b in omega arith
quotient_near (negsuc a) (negsuc b) = div-le_self (suc a) (suc b)

remainder_nearer : (a b : ℤ) → unsigned_abs (int_rem a b) ≤ unsigned_abs a
remainder_nearer (pos a) b = mod-le a (unsigned_abs b)
remainder_nearer (negsuc a) b =
    let e = abs_negative (suc a % unsigned_abs b) in
    let l = mod-le (suc a) (unsigned_abs b) in omega arith

half_near : (z : ℤ) → FitsSigned w32 z → unsigned_abs z ≤ 2 ^ 31
half_near (pos n) f = let s = f.sfits in omega arith
half_near (negsuc n) f = let s = f.sfits in omega arith

-- the low half of a number of 64 bits that is near enough to 0
low_of_near : (z : ℤ) → unsigned_abs z ≤ 2 ^ 31 → cast_unsigned w64 z % 2 ^ 32 ≡ cast_unsigned w32 z
low_of_near (pos n) h = omega arith
low_of_near (negsuc n) h = omega arith

pub low_quotient : (e f : ℕ) → FitsSigned w32 (cast_signed w32 e)
    → cast_unsigned w64 (int_div (cast_signed w32 e) (cast_signed w32 f)) % 2 ^ 32
    ≡ result_of SignedDiv Low32 e f
low_quotient e f fits =
    let a = cast_signed w32 e in
    let b = cast_signed w32 f in
    let near = quotient_near a b in
    let within = half_near a fits in
    low_of_near (int_div a b) (omega arith) ∙ sym (quotient_is Low32 e f)

pub low_remainder : (e f : ℕ) → e < 2 ^ 32 → FitsSigned w32 (cast_signed w32 e)
    → cast_unsigned w64 (int_rem (cast_signed w32 e) (cast_signed w32 f)) % 2 ^ 32
    ≡ result_of SignedMod Low32 e f
low_remainder e f e_in fits =
    let a = cast_signed w32 e in
    let b = cast_signed w32 f in
    let near = remainder_nearer a b in
    let within = half_near a fits in
    low_of_near (int_rem a b) (omega arith) ∙ sym (remainder_is Low32 e f e_in)

-- ---- limits

-- what is kept of a number's signed limits, if 32 bits hold them
abbrev pub KeepsHalves : Wide → Low → Type 0
KeepsHalves wide halves =
    W.IsSignedOf w32 wide → L.IsSignedBetween halves wide.signed_least wide.signed_greatest

pub low_quotient_limits : (wide : Wide) (halves : Low) (al ag by : ℤ) → al ≤ℤ ag → FitsSigned w32 al
    → FitsSigned w32 ag
    → KeepsHalves wide halves → KeepsSignedQuotient w64 al ag by (W.IsSignedBetween wide)
    → KeepsSignedQuotient w32 al ag by (L.IsSignedBetween halves)
low_quotient_limits wide halves al ag (pos by) o fl fg keeps h =
    signed_kept wide halves (int_div al (pos by)) (int_div ag (pos by)) (quotient_fits w32 al by fl)
    (quotient_fits w32 ag by fg) h keeps
low_quotient_limits wide halves al ag (negsuc by) o fl fg keeps h = λ fits.
    signed_kept wide halves (int_div ag (negsuc by)) (int_div al (negsuc by))
    (quotient_fits_down w32 al ag by o fg fits) fits
    (h (widened (int_div al (negsuc by)) fits)) keeps

min_fits : (z : ℤ) → FitsSigned w32 z → FitsSigned w32 (int_min z (pos 0))
min_fits (pos n) f =
    fits_32 (int_min (pos n) (pos 0)) (omega (arith, ints, clamps)) (omega (arith, ints, clamps))
min_fits (negsuc n) f =
    let s = f.sfits in
    fits_32 (int_min (negsuc n) (pos 0)) (omega (arith, ints, clamps)) (omega (arith, ints, clamps))

max_fits : (z : ℤ) → FitsSigned w32 z → FitsSigned w32 (int_max z (pos 0))
max_fits (pos n) f =
    let s = f.sfits in
    fits_32 (int_max (pos n) (pos 0)) (omega (arith, ints, clamps)) (omega (arith, ints, clamps))
max_fits (negsuc n) f =
    fits_32 (int_max (negsuc n) (pos 0)) (omega (arith, ints, clamps)) (omega (arith, ints, clamps))

below_fits : (most : ℕ) → suc most ≤ 2 ^ 31 → FitsSigned w32 (neg_ℤ (pos most))
below_fits most h =
    let same = negative_of most in
    fits_32 (neg_ℤ (pos most)) (omega (arith, ints)) (omega (arith, ints))

above_fits : (most : ℕ) → suc most ≤ 2 ^ 31 → FitsSigned w32 (pos most)
above_fits most h = record { sfits = omega arith }

pub low_remainder_limits : (wide : Wide) (halves : Low) (al ag : ℤ) (by : ℕ) → by ≤ 2 ^ 31
    → FitsSigned w32 al → FitsSigned w32 ag
    → KeepsHalves wide halves → KeepsSignedRemainder al ag by (W.IsSignedBetween wide)
    → KeepsSignedRemainder al ag by (L.IsSignedBetween halves)
low_remainder_limits wide halves al ag zero small fl fg keeps h =
    signed_kept wide halves al ag fl fg h keeps
low_remainder_limits wide halves al ag (suc most) small fl fg keeps h = (
  signed_kept wide halves (neg_ℤ (pos most)) (pos most) (below_fits most small)
      (above_fits most small) h.0 keeps,
  signed_kept wide halves (int_min al (pos 0)) (int_max ag (pos 0)) (min_fits al fl)
      (max_fits ag fg) h.1 keeps,
)

pub half_divisor : (f : ℕ) → FitsSigned w32 (cast_signed w32 f)
    → unsigned_abs (cast_signed w32 f) ≤ 2 ^ 31
half_divisor f fits = half_near (cast_signed w32 f) fits
