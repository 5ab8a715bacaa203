-- Members by their bits: each bit of a member lies between that of the value and that plus the
-- mask's.
use Rattle.known_bits.proofs.Common.{◌≡◌, ℕ, ◌+◌, ◌-◌, ◌^◌, ◌<◌, ◌≤◌, min, w64, sym, ap, ◌∙◌, arith, bit_and, bit_or, bit_at, bit_not, and_le_l, bit_at_and, bit_at_or, bit_at_not, bit_at-lt, bit_at-zero, same_from_bits_below, Bits, IsMember}

-- a value and a mask that share no bit
pub record Apart (v m : ℕ) : Type 0 where
  pub value_in : v < 2 ^ 64
  pub mask_in : m < 2 ^ 64
  pub apart : bit_and v m ≡ 0

pub is_apart : (b : Bits) → b.value < 2 ^ 64 → b.mask < 2 ^ 64 → Apart b.value b.mask
is_apart b value_in mask_in = record { value_in = value_in; mask_in = mask_in; apart = b.apart }

-- one bit of the value, the mask and a member
pub record Between (v m x : ℕ) : Type 0 where
  pub apart : v + m ≤ 1
  pub least : v ≤ x
  pub most : x ≤ v + m

pub bits_apart : {v m : ℕ} → Apart v m → (i : ℕ) → bit_at v i + bit_at m i ≤ 1
bits_apart {v} {m} h i =
    let e : min (bit_at v i) (bit_at m i) ≡ 0 = sym (bit_at_and v m i)
    ∙ ap (λ n. bit_at n i) h.apart ∙ bit_at-zero i in
    let v_small : bit_at v i < 2 = bit_at-lt v i in
    let m_small : bit_at m i < 2 = bit_at-lt m i in
    omega arith

pub bits_between : {v m x : ℕ} → Apart v m → IsMember v m x → (i : ℕ) → i < 64
    → Between (bit_at v i) (bit_at m i) (bit_at x i)
bits_between {v} {m} {x} k h i i_in =
    let e : bit_at v i ≡ min (bit_at x i) (1 - bit_at m i) = ap (λ n. bit_at n i) (sym h.known)
    ∙ bit_at_and x (bit_not w64 m) i
    ∙ ap (min (bit_at x i)) (bit_at_not w64 m i k.mask_in i_in) in
    let x_small : bit_at x i < 2 = bit_at-lt x i in
    let m_small : bit_at m i < 2 = bit_at-lt m i in
    record { apart = bits_apart k i; least = omega arith; most = omega arith }

pub apart_from_bits : {v m : ℕ} → v < 2 ^ 64 → m < 2 ^ 64
    → ((i : ℕ) → i < 64 → bit_at v i + bit_at m i ≤ 1) → Apart v m
apart_from_bits {v} {m} v_in m_in h = record {
  value_in = v_in;
  mask_in = m_in;
  apart = same_from_bits_below 64 _ _ (let le = and_le_l v m in omega arith) (omega arith)
      (λ i i_in. bit_at_and v m i ∙ (let k = h i i_in in let z = bit_at-zero i in omega arith));
}

pub member_from_bits : {v m x : ℕ} → v < 2 ^ 64 → m < 2 ^ 64 → x < 2 ^ 64
    → ((i : ℕ) → i < 64 → Between (bit_at v i) (bit_at m i) (bit_at x i)) → IsMember v m x
member_from_bits {v} {m} {x} v_in m_in x_in h = record {
  below = x_in;
  known = same_from_bits_below 64 _ _ (let le = and_le_l x (bit_not w64 m) in omega arith) v_in
      (λ i i_in. bit_at_and x (bit_not w64 m) i
      ∙ ap (min (bit_at x i)) (bit_at_not w64 m i m_in i_in)
      ∙ (let k = h i i_in in
      let b : bit_at x i < 2 = bit_at-lt x i in
      let bm : bit_at m i < 2 = bit_at-lt m i in omega arith));
}

-- a member has no bit outside the value and the mask
pub member_and_most : {v m x : ℕ} → Apart v m → IsMember v m x → bit_and x (bit_or v m) ≡ x
member_and_most {v} {m} {x} k h =
    let x_in = h.below in
    same_from_bits_below 64 _ _ (let le = and_le_l x (bit_or v m) in omega arith) x_in
    (λ i i_in. let b = bits_between k h i i_in in simp (bit_at_and, bit_at_or) (omega arith))
