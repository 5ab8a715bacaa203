-- The greatest number of each size of bytes.
use native.Mathlib.Nat.{zero-div, div-eq_of_lt}
use Rattle.std.proofs.Common.{◌≡◌, ◌≢◌, ℕ, ◌+◌, ◌*◌, ◌/◌, ◌^◌, ◌<◌, ◌≤◌, pos, w64, inl, inr, sym, ◌∙◌, refl, arith, ◌≤ℤ◌}
use Rattle.transfer.proofs.Common.{cast_signed, cases_lt, ints, to_z_pos, Size, U8, U16, U32, U64, size_bytes}
use Rattle.std.proofs.Math.Pow.{pow_mono}

-- a small number has no bit from a position on
no_bits : (most n i : ℕ) → most + 1 ≡ 2 ^ n → n ≤ i → 0 / 2 ^ i ≡ most / 2 ^ i
no_bits most n i is above =
    let more : 2 ^ n ≤ 2 ^ i = pow_mono above in
    let small : most < 2 ^ i = omega arith in
    zero-div (2 ^ i) ∙ sym (div-eq_of_lt small)

pub of_size_unknown : (size : Size) (most i : ℕ) → most + 1 ≡ 2 ^ (8 * size_bytes size)
    → 0 / 2 ^ i ≢ most / 2 ^ i → i < 8 * size_bytes size
of_size_unknown size most i is differ = elim (cases_lt i (8 * size_bytes size)) [
  | inl below ↦ below
  | inr above ↦ absurd (differ (no_bits most (8 * size_bytes size) i is (omega arith)))
]

-- where it is below 2^63 it is the same with a sign
small_signed : (most : ℕ) → most < 2 ^ 63
    → (cast_signed w64 0 ≤ℤ cast_signed w64 most) × (cast_signed w64 most ≡ pos most)
    × (cast_signed w64 0 ≡ pos 0)
small_signed most small = (omega (arith, ints), to_z_pos w64 most small, refl)

pub greatest_signed : (size : Size) (most : ℕ) → most + 1 ≡ 2 ^ (8 * size_bytes size)
    → size_bytes size < 8
    → (cast_signed w64 0 ≤ℤ cast_signed w64 most) × (cast_signed w64 most ≡ pos most)
    × (cast_signed w64 0 ≡ pos 0)
greatest_signed U8 most is short = small_signed most (omega arith)
greatest_signed U16 most is short = small_signed most (omega arith)
greatest_signed U32 most is short = small_signed most (omega arith)
greatest_signed U64 most is short = absurd (omega arith)
