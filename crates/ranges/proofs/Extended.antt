-- Low halves of sign extensions.
use Rattle.ranges.proofs.Common.{◌≡◌, ℕ, ℤ, pos, negsuc, ◌+◌, ◌-◌, ◌%◌, ◌^◌, ◌<◌, ◌≤◌, inl, inr, refl, ap, ◌∙◌, arith, ◌≤ℤ◌, FitsSigned, w8, w16, w32, cast_signed, ints, mod_below, Low32, Extension, Low8, Low16, Full8, Full16, Full32, sign_extended, width_bits, extension_bits, extension_width, sign_extended_cases, sfits_to_z, extension_signed}
use Rattle.ranges.proofs.Limits.{fits_8, fits_16}
use Rattle.ranges.proofs.LowLaws.{low_signed_equation}

-- ---- the two extensions of as many bits have one low half

same_half_8 : (x : ℕ) → sign_extended Full8 x % 2 ^ 32 ≡ sign_extended Low8 x % 2 ^ 32
same_half_8 x =
    elim (sign_extended_cases Full8 x (2 ^ 7) refl) [
      | inl p ↦ elim (sign_extended_cases Low8 x (2 ^ 7) refl) [
        | inl q ↦ omega (arith, p.1, q.1)
        | inr q ↦ absurd (omega (arith, p.0, q.0))
      ]
      | inr p ↦ elim (sign_extended_cases Low8 x (2 ^ 7) refl) [
        | inl q ↦ absurd (omega (arith, p.0, q.0))
        | inr q ↦ omega (arith, p.1, q.1)
      ]
    ]

same_half_16 : (x : ℕ) → sign_extended Full16 x % 2 ^ 32 ≡ sign_extended Low16 x % 2 ^ 32
same_half_16 x =
    elim (sign_extended_cases Full16 x (2 ^ 15) refl) [
      | inl p ↦ elim (sign_extended_cases Low16 x (2 ^ 15) refl) [
        | inl q ↦ omega (arith, p.1, q.1)
        | inr q ↦ absurd (omega (arith, p.0, q.0))
      ]
      | inr p ↦ elim (sign_extended_cases Low16 x (2 ^ 15) refl) [
        | inl q ↦ absurd (omega (arith, p.0, q.0))
        | inr q ↦ omega (arith, p.1, q.1)
      ]
    ]

-- ---- the extension changes no low half that is a signed number of the bits that are read

kept_8 : (x : ℕ) (l g : ℤ) → FitsSigned w8 l → FitsSigned w8 g → l ≤ℤ cast_signed w32 (x % 2 ^ 32)
    → cast_signed w32 (x % 2 ^ 32) ≤ℤ g → sign_extended Low8 x % 2 ^ 32 ≡ x % 2 ^ 32
kept_8 x l g fl fg from to =
    let q = low_signed_equation (x % 2 ^ 32) (omega arith) in
    elim (sign_extended_cases Low8 x (2 ^ 7) refl) [
      | inl p ↦ omega (arith, ints, p.0, p.1, fl.sfits, fg.sfits)
      | inr p ↦ omega (arith, ints, p.0, p.1, fl.sfits, fg.sfits)
    ]

kept_16 : (x : ℕ) (l g : ℤ) → FitsSigned w16 l → FitsSigned w16 g
    → l ≤ℤ cast_signed w32 (x % 2 ^ 32) → cast_signed w32 (x % 2 ^ 32) ≤ℤ g
    → sign_extended Low16 x % 2 ^ 32 ≡ x % 2 ^ 32
kept_16 x l g fl fg from to =
    let q = low_signed_equation (x % 2 ^ 32) (omega arith) in
    elim (sign_extended_cases Low16 x (2 ^ 15) refl) [
      | inl p ↦ omega (arith, ints, p.0, p.1, fl.sfits, fg.sfits)
      | inr p ↦ omega (arith, ints, p.0, p.1, fl.sfits, fg.sfits)
    ]

pub extended_half : (e : Extension) (x : ℕ) (l g : ℤ) → FitsSigned (extension_signed e) l
    → FitsSigned (extension_signed e) g → l ≤ℤ cast_signed w32 (x % 2 ^ 32)
    → cast_signed w32 (x % 2 ^ 32) ≤ℤ g → sign_extended e x % 2 ^ 32 ≡ x % 2 ^ 32
extended_half Low8 x l g fl fg from to = kept_8 x l g fl fg from to
extended_half Low16 x l g fl fg from to = kept_16 x l g fl fg from to
extended_half Full8 x l g fl fg from to = same_half_8 x ∙ kept_8 x l g fl fg from to
extended_half Full16 x l g fl fg from to = same_half_16 x ∙ kept_16 x l g fl fg from to
extended_half Full32 x l g fl fg from to =
    elim (sign_extended_cases Full32 x (2 ^ 31) refl)
    [ inl p ↦ omega (arith, p.0, p.1) | inr p ↦ omega (arith, p.0, p.1) ]

-- ---- its signed reading

-- the low half of an extension to 32 bits, read with a sign
half_between : (e : Extension) (x h : ℕ) → h + h ≡ 2 ^ extension_bits e
    → extension_width e ≡ Low32 → 0 < h → h ≤ 2 ^ 31
    → (negsuc (h - 1) ≤ℤ cast_signed w32 (sign_extended e x % 2 ^ 32))
    × (cast_signed w32 (sign_extended e x % 2 ^ 32) ≤ℤ pos (h - 1))
half_between e x h twice is_low some most =
    let z = low_signed_equation (sign_extended e x % 2 ^ 32) (omega arith) in
    let width : 2 ^ width_bits (extension_width e) ≡ 2 ^ 32 = ap (λ w. 2 ^ width_bits w) is_low in
    let read = mod_below x (2 ^ extension_bits e) (omega arith) in
    elim (sign_extended_cases e x h twice) [
      | inl p ↦ (omega (arith, ints, p.0, p.1), omega (arith, ints, p.0, p.1))
      | inr p ↦ (omega (arith, ints, p.0, p.1), omega (arith, ints, p.0, p.1))
    ]

-- the low half of an extension of 8 bits, read with a sign
pub half_of_8 : (e : Extension) (x : ℕ) → extension_bits e ≡ 8
    → (negsuc 127 ≤ℤ cast_signed w32 (sign_extended e x % 2 ^ 32))
    × (cast_signed w32 (sign_extended e x % 2 ^ 32) ≤ℤ pos 127)
half_of_8 Low8 x is = half_between Low8 x (2 ^ 7) refl refl (omega arith) (omega arith)
half_of_8 Full8 x is =
    rw (same_half_8 x) (half_between Low8 x (2 ^ 7) refl refl (omega arith) (omega arith))
half_of_8 Low16 x is = absurd (omega arith)
half_of_8 Full16 x is = absurd (omega arith)
half_of_8 Full32 x is = absurd (omega arith)

-- and one of 16 bits
pub half_of_16 : (e : Extension) (x : ℕ) → extension_bits e ≡ 16
    → (negsuc 32767 ≤ℤ cast_signed w32 (sign_extended e x % 2 ^ 32))
    × (cast_signed w32 (sign_extended e x % 2 ^ 32) ≤ℤ pos 32767)
half_of_16 Low16 x is = half_between Low16 x (2 ^ 15) refl refl (omega arith) (omega arith)
half_of_16 Full16 x is =
    rw (same_half_16 x) (half_between Low16 x (2 ^ 15) refl refl (omega arith) (omega arith))
half_of_16 Low8 x is = absurd (omega arith)
half_of_16 Full8 x is = absurd (omega arith)
half_of_16 Full32 x is = absurd (omega arith)

-- the low half of the result is a signed number of the bits that are read
pub half_extended_signed : (e : Extension) (x : ℕ)
    → FitsSigned (extension_signed e) (cast_signed w32 (sign_extended e x % 2 ^ 32))
half_extended_signed Low8 x = let l = half_of_8 Low8 x refl in fits_8 _ l.0 l.1
half_extended_signed Low16 x = let l = half_of_16 Low16 x refl in fits_16 _ l.0 l.1
half_extended_signed Full8 x = let l = half_of_8 Full8 x refl in fits_8 _ l.0 l.1
half_extended_signed Full16 x = let l = half_of_16 Full16 x refl in fits_16 _ l.0 l.1
half_extended_signed Full32 x =
    sfits_to_z
    (record { fits = let b : sign_extended Full32 x % 2 ^ 32 < 2 ^ 32 = omega arith in b })
