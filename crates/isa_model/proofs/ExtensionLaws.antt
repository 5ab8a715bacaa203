-- Laws of sign extension: it fits its width; by cases, and as a sum.
use Rattle.std.proofs.Common.{inl, inr, ◌≡◌, ◌⊎◌, ℕ, ◌+◌, ◌-◌, ◌%◌, ◌^◌, ◌<◌, ◌≤◌, refl, ◌∙◌, arith, Bool, true, false, cond, w32, w64, nat_lt}
use Rattle.std.specs.Int.{Width as IntWidth, w8, w16, cast_signed, cast_unsigned}
use mir.Val.{bits, hbits}
use Rattle.isa_model.proofs.Common.{mod-eq_of_lt, mod_below, cases_lt, lt-ltb, le-ltb, width_bits, extension_bits, extension_width, sign_extended}
use Rattle.isa_model.specs.declared.sizes.Extension.{Extension}
use Rattle.isa_model.specs.declared.sizes.Extension.TheVariants.{Low8, Low16, Full8, Full16, Full32}
use Rattle.isa_model.proofs.NumberLaws.{width_fits}

-- a number without the sign bit, H, is extended to itself, and one with it has ones put before it
abbrev extended : ℕ → ℕ → ℕ → ℕ → ℕ
extended N K H y = cond (nat_lt y H) y (y + (N - K))

extended_below : (N K H y : ℕ) → y < K → K ≤ N → extended N K H y < N
extended_below N K H y y_in fits =
    elim (cases_lt y H) [
      | inl lt ↦ rw (lt-ltb y H lt) (omega arith)
      | inr ge ↦ rw (le-ltb y H ge) (omega arith)
    ]

extended_small : (N K H y : ℕ) → y < H → extended N K H y ≡ y
extended_small N K H y lt = rw (lt-ltb y H lt)

extended_large : (N K H y : ℕ) → H ≤ y → extended N K H y ≡ y + (N - K)
extended_large N K H y ge = rw (le-ltb y H ge)

extended_32 : (y K H : ℕ) → K ≤ 2 ^ 32 → y < K
    → extended (2 ^ 64) K H y % 2 ^ 32 ≡ extended (2 ^ 32) K H y
extended_32 y K H fits y_in = cut (nat_lt y H) y K fits y_in
  where
    cut : (b : Bool) (y K : ℕ) → K ≤ 2 ^ 32 → y < K
        → cond b y (y + (2 ^ 64 - K)) % 2 ^ 32 ≡ cond b y (y + (2 ^ 32 - K))
    cut true y K h k = omega arith
    cut false y K h k = omega arith

-- a signed number of k bits, written with n bits
read_extended : (n k : IntWidth) (y : ℕ) → y < 2 ^ bits k → 2 ^ bits k ≤ 2 ^ bits n
    → cast_unsigned n (cast_signed k y) ≡ extended (2 ^ bits n) (2 ^ bits k) (2 ^ hbits k) y
read_extended n k y y_in fits =
    elim (cases_lt y (2 ^ hbits k)) [
      | inl lt ↦ rw (lt-ltb y (2 ^ hbits k) lt)
      | inr ge ↦ rw (le-ltb y (2 ^ hbits k) ge) (omega arith)
    ]

extension_is : (e : Extension) (x H : ℕ) → H + H ≡ 2 ^ extension_bits e
    → sign_extended e x
    ≡ extended (2 ^ width_bits (extension_width e)) (2 ^ extension_bits e) H
    (x % 2 ^ extension_bits e)
unfolding sign_extended
extension_is Low8 x H e =
    let f : H ≡ 2 ^ 7 = omega arith in
    rw f (read_extended w32 w8 (x % 2 ^ 8) (omega arith) (omega arith))
extension_is Low16 x H e =
    let f : H ≡ 2 ^ 15 = omega arith in
    rw f (read_extended w32 w16 (x % 2 ^ 16) (omega arith) (omega arith))
extension_is Full8 x H e =
    let f : H ≡ 2 ^ 7 = omega arith in
    rw f (read_extended w64 w8 (x % 2 ^ 8) (omega arith) (omega arith))
extension_is Full16 x H e =
    let f : H ≡ 2 ^ 15 = omega arith in
    rw f (read_extended w64 w16 (x % 2 ^ 16) (omega arith) (omega arith))
extension_is Full32 x H e =
    let f : H ≡ 2 ^ 31 = omega arith in
    rw f (read_extended w64 w32 (x % 2 ^ 32) (omega arith) (omega arith))

extension_wider : (e : Extension) → 2 ^ extension_bits e ≤ 2 ^ width_bits (extension_width e)
extension_wider Low8 = omega arith
extension_wider Low16 = omega arith
extension_wider Full8 = omega arith
extension_wider Full16 = omega arith
extension_wider Full32 = omega arith

extension_sign : (e : Extension) → (h : ℕ) × (h + h ≡ 2 ^ extension_bits e) × (0 < h)
extension_sign Low8 = (2 ^ 7, refl, omega arith)
extension_sign Low16 = (2 ^ 15, refl, omega arith)
extension_sign Full8 = (2 ^ 7, refl, omega arith)
extension_sign Full16 = (2 ^ 15, refl, omega arith)
extension_sign Full32 = (2 ^ 31, refl, omega arith)

-- a sign extension is a number of its width
pub sign_extended_below : (e : Extension) (x : ℕ)
    → sign_extended e x < 2 ^ width_bits (extension_width e)
sign_extended_below e x =
    let h = extension_sign e in
    rw (extension_is e x h.0 h.1)
    (extended_below _ _ h.0 _ (mod_below x (2 ^ extension_bits e) (omega (arith, h.1, h.2)))
    (extension_wider e))

-- so it fits a register
pub sign_extended_fits : (e : Extension) (x : ℕ) → sign_extended e x < 2 ^ 64
sign_extended_fits e x =
    let b = sign_extended_below e x in let f = width_fits (extension_width e) in omega arith

-- a number without the sign bit is extended by zeros
pub sign_extended-small : (e : Extension) (x h : ℕ) → h + h ≡ 2 ^ extension_bits e → x < h
    → sign_extended e x ≡ x
sign_extended-small e x h twice x_in =
    let same : x % 2 ^ extension_bits e ≡ x =
    mod-eq_of_lt {n = x} {m = 2 ^ extension_bits e} (omega arith) in
    extension_is e x h twice ∙ rw same (extended_small _ _ h x x_in)

-- without the sign bit, h, it is the low bits, and with it the low bits with ones before them
pub sign_extended_cases : (e : Extension) (x h : ℕ) → h + h ≡ 2 ^ extension_bits e
    → ((x % 2 ^ extension_bits e < h) × (sign_extended e x ≡ x % 2 ^ extension_bits e))
    ⊎ ((h ≤ x % 2 ^ extension_bits e)
    × (sign_extended e x
    ≡ x % 2 ^ extension_bits e + (2 ^ width_bits (extension_width e) - 2 ^ extension_bits e)))
sign_extended_cases e x h twice =
    let y = x % 2 ^ extension_bits e in
    elim (cases_lt y h) [
      | inl lt ↦ inl (lt, extension_is e x h twice ∙ extended_small _ _ h y lt)
      | inr ge ↦ inr (ge, extension_is e x h twice ∙ extended_large _ _ h y ge)
    ]
