-- Limits of sums, differences, products, quotients, remainders, shifts and sign extensions.
use Rattle.ranges.proofs.Common.{◌≡◌, ℕ, ℤ, pos, negsuc, zero, suc, ◌+◌, ◌-◌, ◌*◌, ◌/◌, ◌%◌, ◌^◌, ◌<◌, ◌≤◌, w64, refl, inl, inr, ap, ◌∙◌, arith, Bool, true, false, cond, ◌+ℤ◌, ◌-ℤ◌, ◌≤ℤ◌, FitsSigned, nat_eq, shr_z, mag_shr, le_z, sfits_to_z, ints, Low32, Full64, Extension, Low8, Low16, Full8, Full16, Full32, Arsh, width_bits, extension_bits, extension_width, result_of, sign_extended, signed_equation, sign_extended_cases, sign_extended_fits, sign_extended-small, cases_lt, lt-ltb, ne_eqb, le-div, pow_pos, mul-le, mod_below, div-mul-le_self, mod-eq_of_lt, div-le_self, mod-le, div-zero, add-mod_right, extension_signed}
use mir.Val.{hbits}
use Rattle.std.specs.Int.{Width as IntWidth, w8, w16, w32, cast_signed, cast_unsigned, int_shr}

-- ---- sums and differences that fit

pub sum_from : (x y : ℕ) (a b c d : ℤ) → x < 2 ^ 64 → y < 2 ^ 64 → a ≤ℤ cast_signed w64 x
    → cast_signed w64 x ≤ℤ c → b ≤ℤ cast_signed w64 y → cast_signed w64 y ≤ℤ d
    → FitsSigned w64 (a +ℤ b) → FitsSigned w64 (c +ℤ d)
    → (a +ℤ b) ≤ℤ cast_signed w64 ((x + y) % 2 ^ 64)
sum_from x y a b c d x_in y_in h1 h2 h3 h4 f g =
    omega (
      arith,
      ints,
      signed_equation x x_in,
      signed_equation y y_in,
      signed_equation ((x + y) % 2 ^ 64) (omega arith),
    )

pub sum_to : (x y : ℕ) (a b c d : ℤ) → x < 2 ^ 64 → y < 2 ^ 64 → a ≤ℤ cast_signed w64 x
    → cast_signed w64 x ≤ℤ c → b ≤ℤ cast_signed w64 y → cast_signed w64 y ≤ℤ d
    → FitsSigned w64 (a +ℤ b) → FitsSigned w64 (c +ℤ d)
    → cast_signed w64 ((x + y) % 2 ^ 64) ≤ℤ (c +ℤ d)
sum_to x y a b c d x_in y_in h1 h2 h3 h4 f g =
    omega (
      arith,
      ints,
      signed_equation x x_in,
      signed_equation y y_in,
      signed_equation ((x + y) % 2 ^ 64) (omega arith),
    )

pub difference_from : (x y : ℕ) (a b c d : ℤ) → x < 2 ^ 64 → y < 2 ^ 64 → a ≤ℤ cast_signed w64 x
    → cast_signed w64 x ≤ℤ c → b ≤ℤ cast_signed w64 y → cast_signed w64 y ≤ℤ d
    → FitsSigned w64 (a -ℤ d) → FitsSigned w64 (c -ℤ b)
    → (a -ℤ d) ≤ℤ cast_signed w64 ((x + (2 ^ 64 - y)) % 2 ^ 64)
difference_from x y a b c d x_in y_in h1 h2 h3 h4 f g =
    omega (
      arith,
      ints,
      signed_equation x x_in,
      signed_equation y y_in,
      signed_equation ((x + (2 ^ 64 - y)) % 2 ^ 64) (omega arith),
    )

pub difference_to : (x y : ℕ) (a b c d : ℤ) → x < 2 ^ 64 → y < 2 ^ 64 → a ≤ℤ cast_signed w64 x
    → cast_signed w64 x ≤ℤ c → b ≤ℤ cast_signed w64 y → cast_signed w64 y ≤ℤ d
    → FitsSigned w64 (a -ℤ d) → FitsSigned w64 (c -ℤ b)
    → cast_signed w64 ((x + (2 ^ 64 - y)) % 2 ^ 64) ≤ℤ (c -ℤ b)
difference_to x y a b c d x_in y_in h1 h2 h3 h4 f g =
    omega (
      arith,
      ints,
      signed_equation x x_in,
      signed_equation y y_in,
      signed_equation ((x + (2 ^ 64 - y)) % 2 ^ 64) (omega arith),
    )

-- a shift that loses no bit
pub shl_whole_at : (x g k : ℕ) → x ≤ g → g ≤ (2 ^ 64 - 1) / 2 ^ k → (x * 2 ^ k) % 2 ^ 64 ≡ x * 2 ^ k
shl_whole_at x g k h e =
    let p = mul-le x (2 ^ k) ((2 ^ 64 - 1) / 2 ^ k) (2 ^ k) (omega arith) (omega arith) in
    let l = div-mul-le_self (2 ^ 64 - 1) (2 ^ k) in
    mod-eq_of_lt {n = x * 2 ^ k} {m = 2 ^ 64} (omega arith)

pub shl_mono : (x g k : ℕ) → x ≤ g → x * 2 ^ k ≤ g * 2 ^ k
shl_mono x g k h = mul-le x (2 ^ k) g (2 ^ k) h (omega arith)

cond_le : (b : Bool) (p q n : ℕ) → p ≤ n → q ≤ n → cond b p q ≤ n
cond_le true p q n h k = h
cond_le false p q n h k = k

pub zero_or_div : (x y : ℕ) → cond (nat_eq y 0) 0 (x / y) ≤ x
zero_or_div x y = cond_le (nat_eq y 0) 0 (x / y) x (omega arith) (div-le_self x y)

pub self_or_mod : (x y : ℕ) → cond (nat_eq y 0) x (x % y) ≤ x
self_or_mod x y = cond_le (nat_eq y 0) x (x % y) x (omega arith) (mod-le x y)

pub mod_not_by_zero : (x y : ℕ) → 0 < y
    → (cond (nat_eq y 0) x (x % y) ≤ x) × (cond (nat_eq y 0) x (x % y) < y)
mod_not_by_zero x y h = rw (ne_eqb y 0 (λ e. omega arith)) (mod-le x y, mod_below x y h)

pub div_not_by_zero : (x y a b c d : ℕ) → 0 < c → a ≤ x → x ≤ b → c ≤ y → y ≤ d
    → (a / d ≤ cond (nat_eq y 0) 0 (x / y)) × (cond (nat_eq y 0) 0 (x / y) ≤ b / c)
div_not_by_zero x y a b c d p h1 h2 h3 h4 =
    rw (ne_eqb y 0 (λ e. omega arith)) (
      le-div (a / d) x y (omega arith)
          (let l = div-mul-le_self a d in
          let m = mul-le (a / d) y (a / d) d (omega arith) h4 in omega arith),
      le-div (x / y) b c p
          (let l = div-mul-le_self x y in
          let m = mul-le (x / y) c (x / y) y (omega arith) h3 in omega arith),
    )

pub div_le : (a b m : ℕ) → a ≤ b → a / m ≤ b / m
div_le a b m h = elim (cases_lt 0 m) [
  | inl p ↦ le-div (a / m) b m p (let l = div-mul-le_self a m in omega arith)
  | inr z ↦ let e : m ≡ 0 = omega arith in rw e (rw (div-zero a, div-zero b) (omega arith))
]

-- ---- the shift that keeps the sign

pub shr_mono : (a b : ℤ) (m : ℕ) → a ≤ℤ b → shr_z a m ≤ℤ shr_z b m
shr_mono (pos a) (pos b) m h =
    let l : a ≤ b = omega (arith, ints) in let d = div_le a b m l in omega (arith, ints)
shr_mono (pos a) (negsuc b) m h = absurd (omega (arith, ints))
shr_mono (negsuc a) (pos b) m h = omega (arith, ints)
shr_mono (negsuc a) (negsuc b) m h =
    let l : b ≤ a = omega (arith, ints) in let d = div_le b a m l in omega (arith, ints)

pub shr_fits : (a : ℤ) (k : ℕ) → FitsSigned w64 a → FitsSigned w64 (int_shr a k)
shr_fits a k f = record { sfits = let l = mag_shr a (2 ^ k) in let s = f.sfits in omega arith }

pub cast_fits : (x : ℕ) → x < 2 ^ 64 → FitsSigned w64 (cast_signed w64 x)
cast_fits x h = sfits_to_z (record { fits = h })

pub signed_below_64 : (z : ℤ) → FitsSigned w64 z → cast_unsigned w64 z < 2 ^ 64
signed_below_64 (pos n) f = let s = f.sfits in omega arith
signed_below_64 (negsuc n) f = omega arith

-- at 32 bits a number without the sign bit has no sign to keep
pub shift_low_small : (x k : ℕ) → x < 2 ^ 31 → k < 32 → result_of Arsh Low32 x k ≡ x / 2 ^ k
shift_low_small x k h k_in =
    rw (lt-ltb x (2 ^ 31) h) (ap (λ n. x / 2 ^ n) (mod-eq_of_lt {n = k} {m = 32} k_in))

-- ---- sign extensions to 64 bits

-- the result is a signed number of the bits that are read: it lies on either side of 0, nearer than
-- their sign bit
extended_between : (e : Extension) (x h : ℕ) → h + h ≡ 2 ^ extension_bits e
    → extension_width e ≡ Full64 → 0 < h → h ≤ 2 ^ 63
    → (negsuc (h - 1) ≤ℤ cast_signed w64 (sign_extended e x))
    × (cast_signed w64 (sign_extended e x) ≤ℤ pos (h - 1))
extended_between e x h twice full some most =
    let z = signed_equation (sign_extended e x) (sign_extended_fits e x) in
    let width : 2 ^ width_bits (extension_width e) ≡ 2 ^ 64 = ap (λ w. 2 ^ width_bits w) full in
    let read = mod_below x (2 ^ extension_bits e) (omega arith) in
    elim (sign_extended_cases e x h twice) [
      | inl p ↦ (omega (arith, ints, p.0, p.1), omega (arith, ints, p.0, p.1))
      | inr p ↦ (omega (arith, ints, p.0, p.1), omega (arith, ints, p.0, p.1))
    ]

pub extended_8 : (x : ℕ) → (negsuc 127 ≤ℤ cast_signed w64 (sign_extended Full8 x))
    × (cast_signed w64 (sign_extended Full8 x) ≤ℤ pos 127)
extended_8 x = extended_between Full8 x (2 ^ 7) refl refl (omega arith) (omega arith)

pub extended_16 : (x : ℕ) → (negsuc 32767 ≤ℤ cast_signed w64 (sign_extended Full16 x))
    × (cast_signed w64 (sign_extended Full16 x) ≤ℤ pos 32767)
extended_16 x = extended_between Full16 x (2 ^ 15) refl refl (omega arith) (omega arith)

pub extended_32 : (x : ℕ) → (negsuc 2147483647 ≤ℤ cast_signed w64 (sign_extended Full32 x))
    × (cast_signed w64 (sign_extended Full32 x) ≤ℤ pos 2147483647)
extended_32 x = extended_between Full32 x (2 ^ 31) refl refl (omega arith) (omega arith)

pub test_le : (a b : ℤ) → le_z a b ≡ true → a ≤ℤ b
test_le a b h = grind (arith, ints)

pub difference_low : (x y n : ℕ) → y ≤ x → x < n → (x + (n - y)) % n ≡ x - y
difference_low x y n le h =
    ap (λ t. t % n) (let e : x + (n - y) ≡ (x - y) + n = omega arith in e) ∙ add-mod_right (x - y) n
    ∙ mod-eq_of_lt {n = x - y} {m = n} (omega arith)

-- a product of limits that fits: the shift to the left is by a factor
pub shl_within : (g k : ℕ) → g * 2 ^ k < 2 ^ 64 → g ≤ (2 ^ 64 - 1) / 2 ^ k
shl_within g k h = le-div g (2 ^ 64 - 1) (2 ^ k) (pow_pos k) (omega arith)

-- a number without the sign bit of the bits that are read is extended to itself
pub extended_small : (e : Extension) (x : ℕ) → x + x < 2 ^ extension_bits e → sign_extended e x ≡ x
extended_small Low8 x h = sign_extended-small Low8 x (2 ^ 7) refl (omega arith)
extended_small Low16 x h = sign_extended-small Low16 x (2 ^ 15) refl (omega arith)
extended_small Full8 x h = sign_extended-small Full8 x (2 ^ 7) refl (omega arith)
extended_small Full16 x h = sign_extended-small Full16 x (2 ^ 15) refl (omega arith)
extended_small Full32 x h = sign_extended-small Full32 x (2 ^ 31) refl (omega arith)

-- and so is one that is a signed number of these bits
pub extended_same : (e : Extension) (x : ℕ) (l g : ℤ) → extension_width e ≡ Full64 → x < 2 ^ 64
    → FitsSigned (extension_signed e) l → FitsSigned (extension_signed e) g → l ≤ℤ cast_signed w64 x
    → cast_signed w64 x ≤ℤ g → sign_extended e x ≡ x
extended_same Low8 x l g full x_in fl fg from to = cc
extended_same Low16 x l g full x_in fl fg from to = cc
extended_same Full8 x l g full x_in fl fg from to =
    let ex = signed_equation x x_in in
    elim (sign_extended_cases Full8 x (2 ^ 7) refl) [
      | inl p ↦ omega (arith, ints, p.0, p.1, fl.sfits, fg.sfits)
      | inr p ↦ omega (arith, ints, p.0, p.1, fl.sfits, fg.sfits)
    ]
extended_same Full16 x l g full x_in fl fg from to =
    let ex = signed_equation x x_in in
    elim (sign_extended_cases Full16 x (2 ^ 15) refl) [
      | inl p ↦ omega (arith, ints, p.0, p.1, fl.sfits, fg.sfits)
      | inr p ↦ omega (arith, ints, p.0, p.1, fl.sfits, fg.sfits)
    ]
extended_same Full32 x l g full x_in fl fg from to =
    let ex = signed_equation x x_in in
    elim (sign_extended_cases Full32 x (2 ^ 31) refl) [
      | inl p ↦ omega (arith, ints, p.0, p.1, fl.sfits, fg.sfits)
      | inr p ↦ omega (arith, ints, p.0, p.1, fl.sfits, fg.sfits)
    ]

-- the sign bit of the bits that are read fits the width of the result
pub sign_bit_fits : (e : Extension) (h : ℕ) → h + h ≡ 2 ^ extension_bits e
    → h ≤ 2 ^ width_bits (extension_width e)
sign_bit_fits Low8 h twice = omega arith
sign_bit_fits Low16 h twice = omega arith
sign_bit_fits Full8 h twice = omega arith
sign_bit_fits Full16 h twice = omega arith
sign_bit_fits Full32 h twice = omega arith

pub fits_8 : (z : ℤ) → negsuc 127 ≤ℤ z → z ≤ℤ pos 127 → FitsSigned w8 z
fits_8 (pos n) l g = record { sfits = omega (arith, ints) }
fits_8 (negsuc n) l g = record { sfits = omega (arith, ints) }

pub fits_16 : (z : ℤ) → negsuc 32767 ≤ℤ z → z ≤ℤ pos 32767 → FitsSigned w16 z
fits_16 (pos n) l g = record { sfits = omega (arith, ints) }
fits_16 (negsuc n) l g = record { sfits = omega (arith, ints) }

pub fits_32 : (z : ℤ) → negsuc 2147483647 ≤ℤ z → z ≤ℤ pos 2147483647 → FitsSigned w32 z
fits_32 (pos n) l g = record { sfits = omega (arith, ints) }
fits_32 (negsuc n) l g = record { sfits = omega (arith, ints) }

-- the result is a signed number of the bits that are read
pub extended_signed : (e : Extension) (x : ℕ) → extension_width e ≡ Full64
    → FitsSigned (extension_signed e) (cast_signed w64 (sign_extended e x))
extended_signed Low8 x full = cc
extended_signed Low16 x full = cc
extended_signed Full8 x full = let l = extended_8 x in fits_8 _ l.0 l.1
extended_signed Full16 x full = let l = extended_16 x in fits_16 _ l.0 l.1
extended_signed Full32 x full = let l = extended_32 x in fits_32 _ l.0 l.1

-- a greater number's negative fits where that of a smaller one does
pub negative_fits : (w : IntWidth) (l g : ℤ) → l ≤ℤ g → FitsSigned w g → FitsSigned w (pos 0 -ℤ l)
    → FitsSigned w (pos 0 -ℤ g)
negative_fits w l (pos zero) h f fl = record { sfits = let p = pow_pos (hbits w) in omega arith }
negative_fits w l (pos (suc n)) h f fl =
    let e : (pos 0 -ℤ pos (suc n)) ≡ negsuc n = omega (arith, ints) in
    let s = f.sfits in
    rw e (record { sfits = omega arith })
negative_fits w (pos m) (negsuc n) h f fl = absurd (omega (arith, ints))
negative_fits w (negsuc m) (negsuc n) h f fl =
    record { sfits = let s = fl.sfits in let le : n ≤ m = omega (arith, ints) in omega arith }
