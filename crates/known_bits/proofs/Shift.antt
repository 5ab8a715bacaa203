-- Shifts, and the complement, bit by bit.
use Rattle.known_bits.proofs.Common.{add-zero, ◌≡◌, ℕ, ◌+◌, ◌-◌, ◌*◌, ◌/◌, ◌%◌, ◌^◌, ◌<◌, ◌≤◌, w64, sym, ap, ◌∙◌, inl, inr, arith, bit_or, bit_at, bit_not, div-div-eq-div-mul, div-le_self, or_lt, pow-add, pow_pos, and_mask, bit_at_or, bit_at_not, bit_at-lt, bit_at-zero, bit_at_above, bit_at_cat_low, bit_at_cat_high, cases_lt, IsMember}
use Rattle.known_bits.proofs.Members.{Apart, Between, bits_between, bits_apart, apart_from_bits, member_from_bits}
use Rattle.known_bits.proofs.Carry.{low_bit}

-- ---- one number

pub constant_has : (x : ℕ) → x < 2 ^ 64 → IsMember x 0 x
constant_has x h = record { below = h; known = and_mask x 64 ∙ omega arith }

pub constant_only : (x y : ℕ) → IsMember x 0 y → y ≡ x
constant_only x y h = let b = h.below in let k = h.known in let m = and_mask y 64 in omega arith

-- ---- the complement

pub complement_apart : {v m : ℕ} → Apart v m → Apart (bit_not w64 (bit_or v m)) m
complement_apart {v} {m} k =
    let o = or_lt 64 v m k.value_in k.mask_in in
    apart_from_bits (omega arith) k.mask_in
    (λ i i_in. let n = bit_at_not w64 (bit_or v m) i o i_in in
    let e = bit_at_or v m i in
    let a = bits_apart k i in let b = bit_at-lt v i in let c = bit_at-lt m i in omega arith)

pub not_contains : {v m : ℕ} → Apart v m → (x : ℕ) → IsMember v m x
    → IsMember (bit_not w64 (bit_or v m)) m (2 ^ 64 - 1 - x)
not_contains {v} {m} k x h =
    let o = or_lt 64 v m k.value_in k.mask_in in
    let kn = complement_apart k in
    member_from_bits kn.value_in kn.mask_in (omega arith)
    (λ i i_in. let n = bit_at_not w64 (bit_or v m) i o i_in in
    let nx = bit_at_not w64 x i h.below i_in in let e = bit_at_or v m i in
    let b = bits_between k h i i_in in let bx = bit_at-lt x i in
    record { apart = bits_apart kn i; least = omega arith; most = omega arith })

pub not_back : {v m : ℕ} → Apart v m → (x : ℕ) → IsMember (bit_not w64 (bit_or v m)) m x
    → IsMember v m (2 ^ 64 - 1 - x)
not_back {v} {m} k x h =
    let o = or_lt 64 v m k.value_in k.mask_in in
    member_from_bits k.value_in k.mask_in (omega arith)
    (λ i i_in. let n = bit_at_not w64 (bit_or v m) i o i_in in
    let nx = bit_at_not w64 x i h.below i_in in let e = bit_at_or v m i in
    let b = bits_between (complement_apart k) h i i_in in
    let bx = bit_at-lt x i in let a = bits_apart k i in
    record { apart = a; least = omega arith; most = omega arith })

-- ---- to the left

pub shifted_low : (n k i : ℕ) → i < 64 → i < k → bit_at ((n * 2 ^ k) % 2 ^ 64) i ≡ 0
shifted_low n k i i_in h =
    low_bit (n * 2 ^ k) 64 i i_in ∙ ap (λ m. bit_at m i) (sym (add-zero (n * 2 ^ k)))
    ∙ bit_at_cat_low n k 0 i h ∙ bit_at-zero i

pub shifted_high : (n k i : ℕ) → i < 64 → k ≤ i → bit_at ((n * 2 ^ k) % 2 ^ 64) i ≡ bit_at n (i - k)
shifted_high n k i i_in h =
    low_bit (n * 2 ^ k) 64 i i_in ∙ ap (λ m. bit_at m i) (sym (add-zero (n * 2 ^ k)))
    ∙ bit_at_cat_high n k 0 i (pow_pos k) h

pub left_between : {v m x : ℕ} → Apart v m → IsMember v m x → (k i : ℕ) → i < 64
    → Between (bit_at ((v * 2 ^ k) % 2 ^ 64) i) (bit_at ((m * 2 ^ k) % 2 ^ 64) i)
    (bit_at ((x * 2 ^ k) % 2 ^ 64) i)
left_between {v} {m} {x} kn h k i i_in =
    elim (cases_lt i k) [
      | inl lt ↦
          let ev = shifted_low v k i i_in lt in
          let em = shifted_low m k i i_in lt in let ex = shifted_low x k i i_in lt in
          record { apart = omega arith; least = omega arith; most = omega arith }
      | inr ge ↦
          let ev = shifted_high v k i i_in ge in
          let em = shifted_high m k i i_in ge in let ex = shifted_high x k i i_in ge in
          let b = bits_between kn h (i - k) (omega arith) in
          record { apart = omega arith; least = omega arith; most = omega arith }
    ]

pub left_apart : {v m : ℕ} → Apart v m → (k : ℕ)
    → Apart ((v * 2 ^ k) % 2 ^ 64) ((m * 2 ^ k) % 2 ^ 64)
left_apart {v} {m} kn k =
    apart_from_bits (omega arith) (omega arith)
    (λ i i_in. elim (cases_lt i k) [
      | inl lt ↦
          let ev = shifted_low v k i i_in lt in let em = shifted_low m k i i_in lt in omega arith
      | inr ge ↦
          let ev = shifted_high v k i i_in ge in
          let em = shifted_high m k i i_in ge in let a = bits_apart kn (i - k) in omega arith
    ])

pub left_contains : {v m : ℕ} → Apart v m → (k x : ℕ) → IsMember v m x
    → IsMember ((v * 2 ^ k) % 2 ^ 64) ((m * 2 ^ k) % 2 ^ 64) ((x * 2 ^ k) % 2 ^ 64)
left_contains kn k x h =
    let l = left_apart kn k in
    member_from_bits l.value_in l.mask_in (omega arith) (left_between kn h k)

-- ---- to the right

pub right_bit : (n k i : ℕ) → bit_at (n / 2 ^ k) i ≡ bit_at n (k + i)
right_bit n k i =
    ap (λ q. q % 2) (div-div-eq-div-mul n (2 ^ k) (2 ^ i))
    ∙ ap (λ p. n / p % 2) (sym (pow-add 2 k i))

pub right_between : {v m x : ℕ} → Apart v m → IsMember v m x → (k i : ℕ)
    → Between (bit_at (v / 2 ^ k) i) (bit_at (m / 2 ^ k) i) (bit_at (x / 2 ^ k) i)
right_between {v} {m} {x} kn h k i =
    let ev = right_bit v k i in let em = right_bit m k i in let ex = right_bit x k i in
    elim (cases_lt (k + i) 64) [
      | inl lt ↦
          let b = bits_between kn h (k + i) lt in
          record { apart = omega arith; least = omega arith; most = omega arith }
      | inr ge ↦
          let zv = bit_at_above v 64 (k + i) kn.value_in ge in
          let zm = bit_at_above m 64 (k + i) kn.mask_in ge in
          let zx = bit_at_above x 64 (k + i) h.below ge in
          record { apart = omega arith; least = omega arith; most = omega arith }
    ]

pub right_apart : {v m : ℕ} → Apart v m → (k : ℕ) → Apart (v / 2 ^ k) (m / 2 ^ k)
right_apart {v} {m} kn k =
    apart_from_bits (let h = kn.value_in in let l = div-le_self v (2 ^ k) in omega arith)
    (let h = kn.mask_in in let l = div-le_self m (2 ^ k) in omega arith)
    (λ i i_in. let ev = right_bit v k i in
    let em = right_bit m k i in let a = bits_apart kn (k + i) in omega arith)

pub right_contains : {v m : ℕ} → Apart v m → (k x : ℕ) → IsMember v m x
    → IsMember (v / 2 ^ k) (m / 2 ^ k) (x / 2 ^ k)
right_contains kn k x h =
    let l = right_apart kn k in
    member_from_bits l.value_in l.mask_in
    (let b = h.below in let le = div-le_self x (2 ^ k) in omega arith)
    (λ i i_in. right_between kn h k i)
