-- The low part of a number, and a product by its terms.
use Rattle.known_bits.proofs.Common.{◌≡◌, ℕ, ◌+◌, ◌*◌, ◌%◌, ◌^◌, ◌≤◌, sym, ap, ◌∙◌, inl, inr, arith, bit_at, add-mod, mod-le, pow_pos, mod-pow-add, mod_below, bit_at_above, cases_lt, IsMember}
use Rattle.known_bits.proofs.Members.{Apart, bits_between, bits_apart, apart_from_bits, member_from_bits}
use Rattle.known_bits.proofs.Carry.{low_bit}

-- ---- the low part

pub high_bit : (n w i : ℕ) → w ≤ i → bit_at (n % 2 ^ w) i ≡ 0
high_bit n w i h = bit_at_above (n % 2 ^ w) w i (mod_below n (2 ^ w) (pow_pos w)) h

pub low_apart : {v m : ℕ} → Apart v m → (w : ℕ) → Apart (v % 2 ^ w) (m % 2 ^ w)
low_apart {v} {m} k w =
    let a = k.value_in in let b = k.mask_in in let c = mod-le v (2 ^ w) in let d = mod-le m (2 ^ w) in
    apart_from_bits (omega arith) (omega arith)
    (λ i i_in. elim (cases_lt i w) [
      | inl lt ↦
          let ev = low_bit v w i lt in
          let em = low_bit m w i lt in let a = bits_apart k i in omega arith
      | inr ge ↦ let ev = high_bit v w i ge in let em = high_bit m w i ge in omega arith
    ])

pub low_contains : {v m : ℕ} → Apart v m → (w x : ℕ) → IsMember v m x
    → IsMember (v % 2 ^ w) (m % 2 ^ w) (x % 2 ^ w)
low_contains {v} {m} k w x h =
    let kn = low_apart k w in
    let b = h.below in let c = mod-le x (2 ^ w) in
    member_from_bits kn.value_in kn.mask_in (omega arith)
    (λ i i_in. elim (cases_lt i w) [
      | inl lt ↦
          let ev = low_bit v w i lt in
          let em = low_bit m w i lt in
          let ex = low_bit x w i lt in
          let b = bits_between k h i i_in in
          record { apart = omega arith; least = omega arith; most = omega arith }
      | inr ge ↦
          let ev = high_bit v w i ge in
          let em = high_bit m w i ge in
          let ex = high_bit x w i ge in
          record { apart = omega arith; least = omega arith; most = omega arith }
    ])

-- ---- a product, one bit of the first factor after another

pub low_more : (x i : ℕ) → x % 2 ^ (i + 1) ≡ bit_at x i * 2 ^ i + x % 2 ^ i
low_more x i = ap (λ n. x % 2 ^ n) (let s : i + 1 ≡ 1 + i = omega arith in s) ∙ mod-pow-add x 1 i

pub product_more : (x y i : ℕ)
    → ((x % 2 ^ i * y) % 2 ^ 64 + (bit_at x i * y * 2 ^ i) % 2 ^ 64) % 2 ^ 64
    ≡ (x % 2 ^ (i + 1) * y) % 2 ^ 64
product_more x y i =
    sym (add-mod (x % 2 ^ i * y) (bit_at x i * y * 2 ^ i) (2 ^ 64))
    ∙ ap (λ n. n % 2 ^ 64)
    (let e = ap (λ n. n * y) (low_more x i) in
    distribute (x % 2 ^ i) y (bit_at x i) (2 ^ i) (x % 2 ^ (i + 1)) (low_more x i))
  where
    distribute : (l y b p m : ℕ) → m ≡ b * p + l → l * y + b * y * p ≡ m * y
    distribute l y b p m e = let f : m * y ≡ (b * p + l) * y = ap (λ n. n * y) e in omega arith
