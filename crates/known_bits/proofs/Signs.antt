-- The least and the greatest member as signed numbers: an unknown sign bit is set in the one and
-- clear in the other.
use Rattle.known_bits.proofs.Common.{◌≡◌, ℕ, ◌+◌, ◌-◌, ◌/◌, ◌%◌, ◌^◌, ◌<◌, ◌≤◌, w64, sym, ap, ◌∙◌, inl, inr, arith, bit_or, ◌≤ℤ◌, bit_at, cast_signed, le_or_r, or_lt, cases_lt, ints, IsMember}
use Rattle.isa_model.specs.Code.NumberLaws.{signed_equation}
use Rattle.known_bits.proofs.Members.{Apart, bits_between, bits_apart, member_from_bits}
use Rattle.known_bits.proofs.Carry.{low_bit, low_least, low_most}
use Rattle.known_bits.proofs.Order.{member_least, member_most}
use Rattle.known_bits.proofs.Sharp.{most_member}

-- a mask from 2 ^ 63 on has the sign bit, and then the value does not have it
pub sign_unknown : {v m : ℕ} → Apart v m → 2 ^ 63 ≤ m → v < 2 ^ 63
sign_unknown {v} {m} k h =
    let a = bits_apart k 63 in let b = k.value_in in let c = k.mask_in in omega arith

-- with an unknown sign bit, a number that differs from a member in that bit only is a member
pub other_sign : {v m x : ℕ} (y : ℕ) → Apart v m → 2 ^ 63 ≤ m → IsMember v m x → y < 2 ^ 64
    → y % 2 ^ 63 ≡ x % 2 ^ 63 → IsMember v m y
other_sign {v} {m} {x} y k large h y_in same =
    let v_in = sign_unknown k large in
    let m_in = k.mask_in in
    member_from_bits k.value_in k.mask_in y_in
    (λ i i_in. elim (cases_lt i 63) [
      | inl lt ↦
          let e : bit_at y i ≡ bit_at x i = sym (low_bit y 63 i lt) ∙ ap (λ n. bit_at n i) same
          ∙ low_bit x 63 i lt in
          let b = bits_between k h i i_in in
          record { apart = b.apart; least = omega arith; most = omega arith }
      | inr ge ↦
          let top : i ≡ 63 = omega arith in
          rw top (record { apart = bits_apart k 63; least = omega arith; most = omega arith })
    ])

pub signed_least_unknown : {v m x : ℕ} → Apart v m → 2 ^ 63 ≤ m → IsMember v m x
    → cast_signed w64 (v + 2 ^ 63) ≤ℤ cast_signed w64 x
signed_least_unknown {v} {m} {x} k large h =
    let v_in = sign_unknown k large in
    let x_in = h.below in
    let l = low_least h 63 in
    omega (arith, ints, signed_equation x x_in, signed_equation (v + 2 ^ 63) (omega arith))

pub signed_greatest_unknown : {v m x : ℕ} → Apart v m → 2 ^ 63 ≤ m → IsMember v m x
    → cast_signed w64 x ≤ℤ cast_signed w64 (bit_or v m - 2 ^ 63)
signed_greatest_unknown {v} {m} {x} k large h =
    let x_in = h.below in
    let top = le_or_r v m in
    let top_in = or_lt 64 v m k.value_in k.mask_in in
    let l = low_most k h 63 in
    omega (arith, ints, signed_equation x x_in, signed_equation (bit_or v m - 2 ^ 63) (omega arith))

-- with a known sign bit all members have it
sign_known : {v m x : ℕ} → Apart v m → m < 2 ^ 63 → IsMember v m x → v / 2 ^ 63 ≡ x / 2 ^ 63
sign_known {v} {m} {x} k small h =
    let b = bits_between k h 63 (omega arith) in
    let x_in = h.below in
    let v_in = k.value_in in
    omega arith

-- among numbers of one sign the two orders are the same
signed_mono : (x y : ℕ) → y < 2 ^ 64 → x / 2 ^ 63 ≡ y / 2 ^ 63 → x ≤ y
    → cast_signed w64 x ≤ℤ cast_signed w64 y
signed_mono x y y_in sign h =
    omega (arith, ints, signed_equation x (omega arith), signed_equation y y_in)

pub signed_least_known : {v m x : ℕ} → Apart v m → m < 2 ^ 63 → IsMember v m x
    → cast_signed w64 v ≤ℤ cast_signed w64 x
signed_least_known {v} {m} {x} k small h =
    signed_mono v x h.below (sign_known k small h) (member_least h)

pub signed_greatest_known : {v m x : ℕ} → Apart v m → m < 2 ^ 63 → IsMember v m x
    → cast_signed w64 x ≤ℤ cast_signed w64 (bit_or v m)
signed_greatest_known {v} {m} {x} k small h =
    signed_mono x (bit_or v m) (or_lt 64 v m k.value_in k.mask_in)
    (sym (sign_known k small h) ∙ sign_known k small (most_member k)) (member_most k h)
