-- The limits that an operation's result keeps have the results on two numbers between them.
use Rattle.ranges.proofs.Common.{◌≡◌, ℕ, ℤ, ◌+◌, ◌-◌, ◌*◌, ◌%◌, ◌^◌, ◌<◌, ◌≤◌, pos, negsuc, zero, suc, refl, sym, ap, ◌∙◌, subst, arith, w64, ◌+ℤ◌, ◌-ℤ◌, ◌≤ℤ◌, FitsSigned, int_div, int_rem, unsigned_abs, w32, cast_signed, int_shr, ints, to_z-of_z, mul-le, and_le_l, and_le_r, mod-eq_of_lt, div-le_self, sfits_to_z, mag_shr, Width, Low32, Full64, AluOp, Add, Sub, Mul, Div, SignedDiv, Or, And, Lsh, Rsh, Mod, SignedMod, Xor, Mov, Arsh, width_bits, result_of, shift, signed, unsigned, KeepsUnsigned, KeepsSigned, KeepsSignedQuotient, KeepsSignedRemainder, signed_of, div_mono}
use Rattle.ranges.proofs.Limits.{sum_from, sum_to, difference_from, difference_to, difference_low, shl_mono, zero_or_div, self_or_mod, mod_not_by_zero, div_not_by_zero, shr_mono, shr_fits, cast_fits}
use Rattle.ranges.proofs.LowLaws.{low_signed_equation}
use Rattle.ranges.proofs.QuotientLaws.{quotient_up, quotient_down, quotient_fits, quotient_fits_down, remainder_fits, remainder_within, remainder_near, remainder_by_zero, quotient_is, remainder_is, plain_quotient, plain_remainder}

-- ---- results on two numbers within the limits

pub keeps_member : (op : AluOp) (w : Width) (al ag bl bg x y : ℕ) → al ≤ x → x ≤ ag → bl ≤ y
    → y ≤ bg → x < 2 ^ width_bits w → y < 2 ^ width_bits w
    → KeepsUnsigned op w al ag bl bg (λ l g. (l ≤ result_of op w x y) × (result_of op w x y ≤ g))
keeps_member Add w al ag bl bg x y h1 h2 h3 h4 x_in y_in = λ fits.
    let m = mod-eq_of_lt {n = x + y} {m = 2 ^ width_bits w} (omega arith) in
    (omega arith, omega arith)
keeps_member Sub w al ag bl bg x y h1 h2 h3 h4 x_in y_in = λ le.
    let m = difference_low x y (2 ^ width_bits w) (omega arith) x_in in
    (omega arith, omega arith)
keeps_member Mul w al ag bl bg x y h1 h2 h3 h4 x_in y_in = λ fits.
    let p = mul-le al bl x y h1 h3 in
    let q = mul-le x y ag bg h2 h4 in
    let m = mod-eq_of_lt {n = x * y} {m = 2 ^ width_bits w} (omega arith) in
    (omega arith, omega arith)
keeps_member Div w al ag bl bg x y h1 h2 h3 h4 x_in y_in =
    let z = zero_or_div x y in
    ((omega arith, omega arith), λ some. div_not_by_zero x y al ag bl bg some h1 h2 h3 h4)
keeps_member Mod w al ag bl bg x y h1 h2 h3 h4 x_in y_in =
    let z = self_or_mod x y in (
      (omega arith, omega arith),
      λ some. let d = mod_not_by_zero x y (omega arith) in
          (omega arith, omega arith),
    )
keeps_member SignedDiv w al ag bl bg x y h1 h2 h3 h4 x_in y_in = λ plain.
    let z = zero_or_div x y in
    rw (plain_quotient w x y (omega (arith, plain.0)) (omega (arith, plain.1)))
    ((omega arith, omega arith), λ some. div_not_by_zero x y al ag bl bg some h1 h2 h3 h4)
keeps_member SignedMod w al ag bl bg x y h1 h2 h3 h4 x_in y_in = λ plain.
    let z = self_or_mod x y in
    rw (plain_remainder w x y (omega (arith, plain.0)) (omega (arith, plain.1))) (
      (omega arith, omega arith),
      λ some. let d = mod_not_by_zero x y (omega arith) in
          (omega arith, omega arith),
    )
keeps_member And w al ag bl bg x y h1 h2 h3 h4 x_in y_in =
    let l = and_le_l x y in
    let r = and_le_r x y in
    ((omega arith, omega arith), (omega arith, omega arith))
keeps_member Lsh w al ag bl bg x y h1 h2 h3 h4 x_in y_in = λ one fits.
    let e : y ≡ bl = omega arith in
    let p = shl_mono al x (shift w bl) h1 in
    let q = shl_mono x ag (shift w bl) h2 in
    let m = mod-eq_of_lt {n = x * 2 ^ shift w bl} {m = 2 ^ width_bits w} (omega arith) in
    rw (e, m) (p, q)
keeps_member Rsh w al ag bl bg x y h1 h2 h3 h4 x_in y_in =
    let l = div-le_self x (2 ^ shift w y) in (
      (omega arith, omega arith),
      λ one. let e : y ≡ bl = omega arith in
          rw e (div_mono al x (shift w bl) h1, div_mono x ag (shift w bl) h2),
    )
keeps_member Mov w al ag bl bg x y h1 h2 h3 h4 x_in y_in = (h3, h4)
keeps_member Or w al ag bl bg x y h1 h2 h3 h4 x_in y_in = tt
keeps_member Xor w al ag bl bg x y h1 h2 h3 h4 x_in y_in = tt
keeps_member Arsh w al ag bl bg x y h1 h2 h3 h4 x_in y_in = tt

sum_within : (w : Width) (x y : ℕ) (a b c d : ℤ) → x < 2 ^ width_bits w → y < 2 ^ width_bits w
    → a ≤ℤ signed w x → signed w x ≤ℤ c → b ≤ℤ signed w y → signed w y ≤ℤ d
    → FitsSigned (signed_of w) (a +ℤ b) → FitsSigned (signed_of w) (c +ℤ d)
    → ((a +ℤ b) ≤ℤ signed w ((x + y) % 2 ^ width_bits w))
    × (signed w ((x + y) % 2 ^ width_bits w) ≤ℤ (c +ℤ d))
sum_within Full64 x y a b c d x_in y_in h1 h2 h3 h4 f g =
    (sum_from x y a b c d x_in y_in h1 h2 h3 h4 f g, sum_to x y a b c d x_in y_in h1 h2 h3 h4 f g)
sum_within Low32 x y a b c d x_in y_in h1 h2 h3 h4 f g =
    let p = low_signed_equation x x_in in
    let q = low_signed_equation y y_in in
    let r = low_signed_equation ((x + y) % 2 ^ 32) (omega arith) in
    (omega (arith, ints), omega (arith, ints))

difference_within : (w : Width) (x y : ℕ) (a b c d : ℤ) → x < 2 ^ width_bits w
    → y < 2 ^ width_bits w → a ≤ℤ signed w x → signed w x ≤ℤ c → b ≤ℤ signed w y → signed w y ≤ℤ d
    → FitsSigned (signed_of w) (a -ℤ d) → FitsSigned (signed_of w) (c -ℤ b)
    → ((a -ℤ d) ≤ℤ signed w ((x + (2 ^ width_bits w - y)) % 2 ^ width_bits w))
    × (signed w ((x + (2 ^ width_bits w - y)) % 2 ^ width_bits w) ≤ℤ (c -ℤ b))
difference_within Full64 x y a b c d x_in y_in h1 h2 h3 h4 f g = (
  difference_from x y a b c d x_in y_in h1 h2 h3 h4 f g,
  difference_to x y a b c d x_in y_in h1 h2 h3 h4 f g,
)
difference_within Low32 x y a b c d x_in y_in h1 h2 h3 h4 f g =
    let p = low_signed_equation x x_in in
    let q = low_signed_equation y y_in in
    let r = low_signed_equation ((x + (2 ^ 32 - y)) % 2 ^ 32) (omega arith) in
    (omega (arith, ints), omega (arith, ints))

shifted_back : (w : Width) (x k : ℕ) → x < 2 ^ width_bits w
    → signed w (unsigned w (int_shr (signed w x) k)) ≡ int_shr (signed w x) k
shifted_back Full64 x k h =
    to_z-of_z w64 (int_shr (cast_signed w64 x) k) (shr_fits (cast_signed w64 x) k (cast_fits x h))
shifted_back Low32 x k h =
    let f : FitsSigned w32 (cast_signed w32 x) = sfits_to_z (record { fits = h }) in
    to_z-of_z w32 (int_shr (cast_signed w32 x) k)
    (record {
      sfits = let l = mag_shr (cast_signed w32 x) (2 ^ k) in
          let s = f.sfits in omega arith;
    })

abbrev signed_at : Width → ℕ → ℤ
signed_at w b = cast_signed (signed_of w) b

signed_is : (w : Width) (b : ℕ) → signed w b ≡ signed_at w b
signed_is Low32 b = refl
signed_is Full64 b = refl

signed_fits : (w : Width) (x : ℕ) → x < 2 ^ width_bits w → FitsSigned (signed_of w) (signed w x)
signed_fits Low32 x h = sfits_to_z (record { fits = h })
signed_fits Full64 x h = cast_fits x h

-- a signed number that fits is the reading of its own bits
signed_back : (w : Width) (z : ℤ) → FitsSigned (signed_of w) z → signed w (unsigned w z) ≡ z
signed_back Low32 z f = to_z-of_z w32 z f
signed_back Full64 z f = to_z-of_z w64 z f

quotient_between : (w : Width) (al ag a by : ℤ) → al ≤ℤ a → a ≤ℤ ag → FitsSigned (signed_of w) a
    → KeepsSignedQuotient (signed_of w) al ag by
    (λ l g. (l ≤ℤ signed w (unsigned w (int_div a by)))
    × (signed w (unsigned w (int_div a by)) ≤ℤ g))
quotient_between w al ag a (pos by) h1 h2 f =
    rw (signed_back w (int_div a (pos by)) (quotient_fits (signed_of w) a by f))
    (quotient_up al a by h1, quotient_up a ag by h2)
quotient_between w al ag a (negsuc by) h1 h2 f = λ fits.
    rw (signed_back w (int_div a (negsuc by)) (quotient_fits_down (signed_of w) al a by h1 f fits))
    (quotient_down a ag by h2, quotient_down al a by h1)

quotient_within : (w : Width) (al ag : ℤ) (x y : ℕ) → x < 2 ^ width_bits w → y < 2 ^ width_bits w
    → al ≤ℤ signed w x → signed w x ≤ℤ ag → KeepsSignedQuotient (signed_of w) al ag (signed_at w y)
    (λ l g. (l ≤ℤ signed w (result_of SignedDiv w x y))
    × (signed w (result_of SignedDiv w x y) ≤ℤ g))
quotient_within w al ag x y x_in y_in h1 h2 =
    subst (λ r. KeepsSignedQuotient (signed_of w) al ag (signed_at w y)
    (λ l g. (l ≤ℤ signed w r) × (signed w r ≤ℤ g))) (sym (quotient_is w x y))
    (rw (signed_is w y)
    (quotient_between w al ag (signed w x) (signed_at w y) h1 h2 (signed_fits w x x_in)))

remainder_between : (al ag a d : ℤ) (by : ℕ) → unsigned_abs d ≡ by → al ≤ℤ a → a ≤ℤ ag
    → KeepsSignedRemainder al ag by (λ l g. (l ≤ℤ int_rem a d) × (int_rem a d ≤ℤ g))
remainder_between al ag a d zero is h1 h2 = rw (remainder_by_zero a d is) (h1, h2)
remainder_between al ag a d (suc most) is h1 h2 =
    (remainder_near a d most is, remainder_within a al ag d h1 h2)

remainder_kept : (w : Width) (al ag : ℤ) (x y : ℕ) → x < 2 ^ width_bits w → al ≤ℤ signed w x
    → signed w x ≤ℤ ag → KeepsSignedRemainder al ag (unsigned_abs (signed_at w y))
    (λ l g. (l ≤ℤ signed w (result_of SignedMod w x y))
    × (signed w (result_of SignedMod w x y) ≤ℤ g))
remainder_kept w al ag x y x_in h1 h2 =
    let same : signed w (result_of SignedMod w x y) ≡ int_rem (signed w x) (signed_at w y) =
    ap (signed w) (remainder_is w x y x_in)
    ∙ signed_back w (int_rem (signed w x) (signed w y))
    (remainder_fits (signed_of w) (signed w x) (signed w y) (signed_fits w x x_in))
    ∙ ap (int_rem (signed w x)) (signed_is w y) in
    subst (λ r. KeepsSignedRemainder al ag (unsigned_abs (signed_at w y))
    (λ l g. (l ≤ℤ r) × (r ≤ℤ g))) (sym same)
    (remainder_between al ag (signed w x) (signed_at w y) (unsigned_abs (signed_at w y)) refl h1 h2)

pub keeps_signed_member : (op : AluOp) (w : Width) (al ag bl bg : ℤ) (d e x y : ℕ)
    → x < 2 ^ width_bits w → y < 2 ^ width_bits w
    → al ≤ℤ signed w x → signed w x ≤ℤ ag → bl ≤ℤ signed w y → signed w y ≤ℤ bg → d ≤ y → y ≤ e
    → KeepsSigned op w al ag bl bg d e
    (λ l g. (l ≤ℤ signed w (result_of op w x y)) × (signed w (result_of op w x y) ≤ℤ g))
keeps_signed_member Add w al ag bl bg d e x y x_in y_in h1 h2 h3 h4 h5 h6 =
    λ fl fg. sum_within w x y al bl ag bg x_in y_in h1 h2 h3 h4 fl fg
keeps_signed_member Sub w al ag bl bg d e x y x_in y_in h1 h2 h3 h4 h5 h6 =
    λ fl fg. difference_within w x y al bl ag bg x_in y_in h1 h2 h3 h4 fl fg
keeps_signed_member Arsh w al ag bl bg d e x y x_in y_in h1 h2 h3 h4 h5 h6 = λ one.
    let is : y ≡ d = omega arith in
    rw (is, shifted_back w x (shift w d) x_in) (
      shr_mono al (signed w x) (2 ^ shift w d) h1,
      shr_mono (signed w x) ag (2 ^ shift w d) h2,
    )
keeps_signed_member SignedDiv w al ag bl bg d e x y x_in y_in h1 h2 h3 h4 h5 h6 = λ one.
    let is : y ≡ d = omega arith in
    subst (λ b. KeepsSignedQuotient (signed_of w) al ag (signed_at w b)
    (λ l g. (l ≤ℤ signed w (result_of SignedDiv w x y))
    × (signed w (result_of SignedDiv w x y) ≤ℤ g)))
    is (quotient_within w al ag x y x_in y_in h1 h2)
keeps_signed_member SignedMod w al ag bl bg d e x y x_in y_in h1 h2 h3 h4 h5 h6 = λ one.
    let is : y ≡ d = omega arith in
    subst (λ b. KeepsSignedRemainder al ag (unsigned_abs (signed_at w b))
    (λ l g. (l ≤ℤ signed w (result_of SignedMod w x y))
    × (signed w (result_of SignedMod w x y) ≤ℤ g)))
    is (remainder_kept w al ag x y x_in h1 h2)
keeps_signed_member Mov w al ag bl bg d e x y x_in y_in h1 h2 h3 h4 h5 h6 = (h3, h4)
keeps_signed_member Mul w al ag bl bg d e x y x_in y_in h1 h2 h3 h4 h5 h6 = tt
keeps_signed_member Div w al ag bl bg d e x y x_in y_in h1 h2 h3 h4 h5 h6 = tt
keeps_signed_member Mod w al ag bl bg d e x y x_in y_in h1 h2 h3 h4 h5 h6 = tt
keeps_signed_member And w al ag bl bg d e x y x_in y_in h1 h2 h3 h4 h5 h6 = tt
keeps_signed_member Lsh w al ag bl bg d e x y x_in y_in h1 h2 h3 h4 h5 h6 = tt
keeps_signed_member Rsh w al ag bl bg d e x y x_in y_in h1 h2 h3 h4 h5 h6 = tt
keeps_signed_member Or w al ag bl bg d e x y x_in y_in h1 h2 h3 h4 h5 h6 = tt
keeps_signed_member Xor w al ag bl bg d e x y x_in y_in h1 h2 h3 h4 h5 h6 = tt
