-- Signed quotients and remainders: their limits, and that they are those of unsigned numbers where
-- no number has a sign.
use Rattle.ranges.proofs.Common.{◌≡◌, ℕ, ℤ, pos, negsuc, zero, suc, ◌+◌, ◌/◌, ◌%◌, ◌^◌, ◌<◌, ◌≤◌, w64, refl, sym, ap, ◌∙◌, arith, neg_ℤ, ◌-ℤ◌, ◌≤ℤ◌, FitsSigned, int_div, int_rem, unsigned_abs, ints, clamps, of_z-to_z, quot_fits, rem_below, ne_eqb, div-le_self, mod-le, div-zero, mod-zero, mag_rem, Width, Low32, Full64, AluOp, SignedDiv, SignedMod, width_bits, alu, result_of, quotient, remainder, signed, unsigned, alu_below, low_same}
use Rattle.std.specs.Int.{Width as IntWidth, w32, cast_unsigned, int_min, int_max}
use mir.Val.{hbits}
use Rattle.ranges.proofs.Limits.{div_le}

-- ---- quotients

neg_mono : (a b : ℕ) → a ≤ b → neg_ℤ (pos b) ≤ℤ neg_ℤ (pos a)
neg_mono zero zero h = omega (arith, ints)
neg_mono zero (suc b) h = omega (arith, ints)
neg_mono (suc a) zero h = absurd (omega arith)
neg_mono (suc a) (suc b) h = omega (arith, ints)

neg_below : (a b : ℕ) → neg_ℤ (pos a) ≤ℤ pos b
neg_below zero b = omega (arith, ints)
neg_below (suc a) b = omega (arith, ints)

-- by a number that is not negative a greater one has no smaller quotient
pub quotient_up : (a b : ℤ) (by : ℕ) → a ≤ℤ b → int_div a (pos by) ≤ℤ int_div b (pos by)
quotient_up (pos a) (pos b) by h =
    let l : a ≤ b = omega (arith, ints) in let d = div_le a b by l in omega (arith, ints)
quotient_up (pos a) (negsuc b) by h = absurd (omega (arith, ints))
quotient_up (negsuc a) (pos b) by h = neg_below (suc a / by) (b / by)
quotient_up (negsuc a) (negsuc b) by h =
    let l : suc b ≤ suc a = omega (arith, ints) in
    neg_mono (suc b / by) (suc a / by) (div_le (suc b) (suc a) by l)

-- by a negative number it has no greater one
pub quotient_down : (a b : ℤ) (by : ℕ) → a ≤ℤ b → int_div b (negsuc by) ≤ℤ int_div a (negsuc by)
quotient_down (pos a) (pos b) by h =
    let l : a ≤ b = omega (arith, ints) in
    neg_mono (a / suc by) (b / suc by) (div_le a b (suc by) l)
quotient_down (pos a) (negsuc b) by h = absurd (omega (arith, ints))
quotient_down (negsuc a) (pos b) by h = neg_below (b / suc by) (suc a / suc by)
quotient_down (negsuc a) (negsuc b) by h =
    let l : suc b ≤ suc a = omega (arith, ints) in
    let d = div_le (suc b) (suc a) (suc by) l in omega (arith, ints)

neg_fits : (w : IntWidth) (n m : ℕ) → n ≤ m → m < 2 ^ hbits w → FitsSigned w (neg_ℤ (pos n))
neg_fits w zero m h f = record { sfits = omega arith }
neg_fits w (suc n) m h f = record { sfits = omega arith }

-- the quotient by zero is zero
by_zero : (w : IntWidth) (a : ℤ) → FitsSigned w a → FitsSigned w (int_div a (pos zero))
by_zero w (pos a) f = let e = div-zero a in record { sfits = let s = f.sfits in omega arith }
by_zero w (negsuc a) f = rw (div-zero (suc a)) (record { sfits = let s = f.sfits in omega arith })

pub quotient_fits : (w : IntWidth) (a : ℤ) (by : ℕ) → FitsSigned w a
    → FitsSigned w (int_div a (pos by))
quotient_fits w a zero f = by_zero w a f
quotient_fits w a (suc by) f = quot_fits w a (pos (suc by)) f (omega (arith, ints))

-- where the quotient of a smaller number is a signed number, so is that of a greater one
pub quotient_fits_down : (w : IntWidth) (a b : ℤ) (by : ℕ) → a ≤ℤ b → FitsSigned w b
    → FitsSigned w (int_div a (negsuc by)) → FitsSigned w (int_div b (negsuc by))
quotient_fits_down w a (pos b) by h f fa =
    let s = f.sfits in let l = div-le_self b (suc by) in neg_fits w (b / suc by) b l s
quotient_fits_down w (pos a) (negsuc b) by h f fa = absurd (omega (arith, ints))
quotient_fits_down w (negsuc a) (negsuc b) by h f fa =
    let l : suc b ≤ suc a = omega (arith, ints) in
    let d = div_le (suc b) (suc a) (suc by) l in
    let s = fa.sfits in
    record { sfits = omega arith }

negated_below : (q : ℕ) → cast_unsigned w64 (neg_ℤ (pos q)) < 2 ^ 64
negated_below zero = omega arith
negated_below (suc q) = omega arith

-- also the quotient that is no signed number is one of 64 bits
pub quotient_below : (a by : ℤ) → FitsSigned w64 a → cast_unsigned w64 (int_div a by) < 2 ^ 64
quotient_below (pos a) (pos by) f = let s = f.sfits in let l = div-le_self a by in omega arith
quotient_below (pos a) (negsuc by) f = negated_below (a / suc by)
quotient_below (negsuc a) (pos by) f = negated_below (suc a / by)
quotient_below (negsuc a) (negsuc by) f =
    let s = f.sfits in let l = div-le_self (suc a) (suc by) in omega arith

-- ---- remainders

pub remainder_fits : (w : IntWidth) (a d : ℤ) → FitsSigned w a → FitsSigned w (int_rem a d)
remainder_fits w a d f = record { sfits = let l = mag_rem a d in let s = f.sfits in omega arith }

-- between the dividend and 0
pub remainder_within : (a l g d : ℤ) → l ≤ℤ a → a ≤ℤ g
    → (int_min l (pos 0) ≤ℤ int_rem a d) × (int_rem a d ≤ℤ int_max g (pos 0))
remainder_within (pos a) l g d from to =
    let m = mod-le a (unsigned_abs d) in
    (omega (arith, ints, clamps), omega (arith, ints, clamps))
remainder_within (negsuc a) l g d from to =
    let m = mod-le (suc a) (unsigned_abs d) in
    let low = neg_mono (suc a % unsigned_abs d) (suc a) m in
    let high = neg_below (suc a % unsigned_abs d) 0 in
    (omega (arith, ints, clamps), omega (arith, ints, clamps))

near : (z : ℤ) (most : ℕ) → unsigned_abs z ≤ most → (neg_ℤ (pos most) ≤ℤ z) × (z ≤ℤ pos most)
near (pos n) most h = (omega (arith, ints, neg_below most n), omega (arith, ints))
near (negsuc n) zero h = absurd (omega arith)
near (negsuc n) (suc most) h = (omega (arith, ints), omega (arith, ints))

-- nearer to 0 than the divisor
pub remainder_near : (a d : ℤ) (most : ℕ) → unsigned_abs d ≡ suc most
    → (neg_ℤ (pos most) ≤ℤ int_rem a d) × (int_rem a d ≤ℤ pos most)
remainder_near a d most is =
    let b = rem_below a d (omega arith) in near (int_rem a d) most (omega arith)

-- by zero it is the dividend
pub remainder_by_zero : (a d : ℤ) → unsigned_abs d ≡ 0 → int_rem a d ≡ a
remainder_by_zero (pos a) d is = ap (λ n. pos (a % n)) is ∙ ap pos (mod-zero a)
remainder_by_zero (negsuc a) d is =
    ap (λ n. neg_ℤ (pos (suc a % n))) is ∙ ap (λ n. neg_ℤ (pos n)) (mod-zero (suc a))

-- ---- the results of instructions

-- also by zero
pub quotient_is : (w : Width) (x y : ℕ)
    → result_of SignedDiv w x y ≡ unsigned w (int_div (signed w x) (signed w y))
quotient_is w x zero = of w (signed w x) where
  of : (w : Width) (a : ℤ) → 0 ≡ unsigned w (int_div a (signed w 0))
  of Low32 (pos a) = sym (div-zero a)
  of Full64 (pos a) = sym (div-zero a)
  of Low32 (negsuc a) = rw (div-zero (suc a)) refl
  of Full64 (negsuc a) = rw (div-zero (suc a)) refl
quotient_is w x (suc y) = rw (ne_eqb (suc y) 0 (λ e. omega arith)) refl

pub remainder_is : (w : Width) (x y : ℕ) → x < 2 ^ width_bits w
    → result_of SignedMod w x y ≡ unsigned w (int_rem (signed w x) (signed w y))
remainder_is Low32 x zero x_in =
    rw (remainder_by_zero (signed Low32 x) (pos 0) refl) (sym (of_z-to_z w32 x x_in))
remainder_is Full64 x zero x_in =
    rw (remainder_by_zero (signed Full64 x) (pos 0) refl) (sym (of_z-to_z w64 x x_in))
remainder_is w x (suc y) x_in = rw (ne_eqb (suc y) 0 (λ e. omega arith)) refl

-- a number without a sign bit is its own signed one
plain_signed : (w : Width) (x : ℕ) → x + x < 2 ^ width_bits w → signed w x ≡ pos x
plain_signed Low32 x h = omega (arith, ints)
plain_signed Full64 x h = omega (arith, ints)

plain_unsigned : (w : Width) (x : ℕ) → unsigned w (pos x) ≡ x
plain_unsigned Low32 x = refl
plain_unsigned Full64 x = refl

pub plain_quotient : (w : Width) (x y : ℕ) → x + x < 2 ^ width_bits w → y + y < 2 ^ width_bits w
    → result_of SignedDiv w x y ≡ quotient x y
plain_quotient w x y hx hy =
    rw (plain_signed w x hx, plain_signed w y hy, plain_unsigned w (x / y)) refl

pub plain_remainder : (w : Width) (x y : ℕ) → x + x < 2 ^ width_bits w → y + y < 2 ^ width_bits w
    → result_of SignedMod w x y ≡ remainder x y
plain_remainder w x y hx hy =
    rw (plain_signed w x hx, plain_signed w y hy, plain_unsigned w (x % y)) refl

pub negative_of : (n : ℕ) → neg_ℤ (pos n) ≡ pos 0 -ℤ pos n
negative_of zero = refl
negative_of (suc n) = omega (arith, ints)

-- the result of an operation on numbers of the width is one
pub result_below : (op : AluOp) (w : Width) (x y : ℕ) → x < 2 ^ width_bits w → y < 2 ^ width_bits w
    → result_of op w x y < 2 ^ width_bits w
unfolding alu
result_below op w x y x_in y_in = rw (low_same w x x_in, low_same w y y_in) at (alu_below op w x y)
