-- Members that overlap, with bits in common, and sets of all numbers below a power of two.
use Rattle.known_bits.proofs.Common.{◌≡◌, ◌≢◌, ℕ, ◌+◌, ◌-◌, ◌*◌, ◌/◌, ◌%◌, ◌^◌, ◌<◌, ◌≤◌, min, w64, sym, ap, ◌∙◌, inl, inr, arith, bit_and, bit_or, bit_at, bit_not, trailing_zeros, and_le_l, and_le_r, one_shl, pow_pos, bit_at_and, bit_at_or, bit_at-lt, bit_at-zero, bit_at-pow_same, bit_at-pow_other, bit_at-trailing_zeros, and_pow, and_high_mask, same_from_bits_below, div-eq_of_lt, pow-lt, cases_lt, IsMember}
use Rattle.known_bits.proofs.Members.{Apart, bits_between}
use Rattle.known_bits.proofs.Order.{without_self}

-- what has no bit in common with a member has none in common with its known ones
pub and_value_zero : {v m y : ℕ} (x : ℕ) → Apart v m → IsMember v m y → bit_and x y ≡ 0
    → bit_and x v ≡ 0
and_value_zero {v} {m} {y} x k h none =
    same_from_bits_below 64 _ _ (let le = and_le_r x v in let b = k.value_in in omega arith)
    (omega arith)
    (λ i i_in.
    let e : min (bit_at x i) (bit_at y i) ≡ 0 = sym (bit_at_and x y i) ∙ ap (λ n. bit_at n i) none
    ∙ bit_at-zero i in
    let b = bits_between k h i i_in in
    let z = bit_at-zero i in
    bit_at_and x v i ∙ omega arith)

-- two members share only bits that both may have
pub and_shared : {v m w n x y : ℕ} → Apart v m → Apart w n → IsMember v m x → IsMember w n y
    → bit_and (bit_and x y) (bit_and (bit_or v m) (bit_or w n)) ≡ bit_and x y
and_shared {v} {m} {w} {n} {x} {y} k l hx hy =
    let x_in = hx.below in
    let le = and_le_l x y in
    same_from_bits_below 64 _ _
    (let less = and_le_l (bit_and x y) (bit_and (bit_or v m) (bit_or w n)) in omega arith)
    (omega arith)
    (λ i i_in.
    let a = bits_between k hx i i_in in
    let b = bits_between l hy i i_in in
    simp (bit_at_and, bit_at_or) (omega arith))

-- where only one bit may be shared, both members have it
pub shared_bit : (x y j : ℕ) → bit_and x y ≢ 0 → bit_and (bit_and x y) (2 ^ j) ≡ bit_and x y
    → (bit_at x j ≡ 1) × (bit_at y j ≡ 1)
shared_bit x y j some e =
    let p = and_pow (bit_and x y) j in
    let both = bit_at_and x y j in
    let lx = bit_at-lt x j in
    let ly = bit_at-lt y j in
    elim (cases_lt 0 (bit_at (bit_and x y) j)) [
      | inl one ↦ (omega arith, omega arith)
      | inr none ↦
          absurd (some
          (sym e ∙ p ∙ ap (λ b. b * 2 ^ j) (let z : bit_at (bit_and x y) j ≡ 0 = omega arith in z)
          ∙ omega arith))
    ]

not_not : (n : ℕ) → n < 2 ^ 64 → bit_not w64 (bit_not w64 n) ≡ n
not_not n h = omega arith

pub having_apart : (n : ℕ) → n < 2 ^ 64 → bit_and n (bit_not w64 n) ≡ 0
having_apart n h = without_self n h

-- the set of all numbers that have bit j
pub having_member : (x j : ℕ) → j < 64 → x < 2 ^ 64 → bit_at x j ≡ 1
    → IsMember (1 * 2 ^ j % 2 ^ 64) (bit_not w64 (1 * 2 ^ j % 2 ^ 64)) x
having_member x j j_in x_in one =
    let e = one_shl j 64 j_in in
    record {
      below = x_in;
      known =
          ap (bit_and x) (not_not _ (omega arith)) ∙ ap (bit_and x) e ∙ and_pow x j
          ∙ ap (λ b. b * 2 ^ j) one ∙ omega arith;
    }

-- the numbers without these bits
pub outside_member : (x bits : ℕ) → bits < 2 ^ 64 → x < 2 ^ 64 → bit_and x bits ≡ 0
    → IsMember 0 (bit_not w64 bits) x
outside_member x bits bits_in x_in none =
    record { below = x_in; known = ap (bit_and x) (not_not bits bits_in) ∙ none }

pub member_having : (x j : ℕ) → j < 64
    → IsMember (1 * 2 ^ j % 2 ^ 64) (bit_not w64 (1 * 2 ^ j % 2 ^ 64)) x → bit_at x j ≡ 1
member_having x j j_in h =
    let e = one_shl j 64 j_in in
    let known : bit_and x (2 ^ j) ≡ 2 ^ j = ap (bit_and x) (sym e ∙ sym (not_not _ (omega arith)))
    ∙ h.known ∙ e in
    sym (bit_at-pow_and x j) ∙ ap (λ n. bit_at n j) known ∙ bit_at-pow_same j
  where
    bit_at-pow_and : (x j : ℕ) → bit_at (bit_and x (2 ^ j)) j ≡ bit_at x j
    bit_at-pow_and x j =
        bit_at_and x (2 ^ j) j ∙ (let p = bit_at-pow_same j in let l = bit_at-lt x j in omega arith)

pub member_outside : (x bits : ℕ) → bits < 2 ^ 64 → IsMember 0 (bit_not w64 bits) x
    → bit_and x bits ≡ 0
member_outside x bits bits_in h = ap (bit_and x) (sym (not_not bits bits_in)) ∙ h.known

-- a power of two has one bit
pub same_position : (i j : ℕ) → 2 ^ i ≡ 2 ^ j → i ≡ j
same_position i j e =
    elim (cases_lt i j) [
      | inl lt ↦ absurd (let p : 2 ^ i < 2 ^ j = pow-lt lt in omega arith)
      | inr ge ↦
          elim (cases_lt j i) [
            | inl lt ↦ absurd (let p : 2 ^ j < 2 ^ i = pow-lt lt in omega arith)
            | inr le ↦ omega arith
          ]
    ]

-- a power of two is 1, shifted to the left by its trailing zeros
pub one_position : (n i : ℕ) → n < 2 ^ 64 → n ≡ 2 ^ i → n ≡ 1 * 2 ^ trailing_zeros w64 n % 2 ^ 64
one_position n i n_in e =
    let p = pow_pos i in
    let t = bit_at-trailing_zeros w64 n (omega arith) n_in in
    let j = trailing_zeros w64 n in
    let set : bit_at (2 ^ i) j ≡ 1 = ap (λ m. bit_at m j) (sym e) ∙ t.1 in
    let same : i ≡ j = elim (cases_lt i j) [
      | inl lt ↦ absurd (let z = bit_at-pow_other i j (λ is. omega arith) in omega arith)
      | inr ge ↦
          elim (cases_lt j i) [
            | inl lt ↦ absurd (let z = bit_at-pow_other i j (λ is. omega arith) in omega arith)
            | inr le ↦ omega arith
          ]
    ] in
    e ∙ ap (λ k. 2 ^ k) same ∙ sym (one_shl j 64 t.0)

-- the numbers of that many bits
pub low_member : (k x : ℕ) → k ≤ 64 → x < 2 ^ 64 → x < 2 ^ k → IsMember 0 (2 ^ k - 1) x
low_member k x k_in x_in h =
    let p = pow_pos k in
    record {
      below = x_in;
      known = ap (bit_and x) (let s : 2 ^ 64 - 1 - (2 ^ k - 1) ≡ 2 ^ 64 - 2 ^ k = omega arith in
          s) ∙ and_high_mask 64 k k_in x x_in ∙ ap (λ n. n * 2 ^ k) (div-eq_of_lt h) ∙ omega arith;
    }

pub member_low : (k x : ℕ) → k ≤ 64 → IsMember 0 (2 ^ k - 1) x → x < 2 ^ k
member_low k x k_in h =
    let p = pow_pos k in
    let e = sym (and_high_mask 64 k k_in x h.below)
    ∙ ap (bit_and x) (let s : 2 ^ 64 - 2 ^ k ≡ 2 ^ 64 - 1 - (2 ^ k - 1) = omega arith in s)
    ∙ h.known in
    elim (cases_lt 0 (x / 2 ^ k)) [
      | inl some ↦ absurd (product_positive (x / 2 ^ k) (2 ^ k) some p e)
      | inr none ↦ let z : x / 2 ^ k ≡ 0 = omega arith in omega arith
    ]
  where
    product_positive : (a b : ℕ) → 0 < a → 0 < b → a * b ≡ 0 → ⊥
    product_positive a b h k e =
        let c : (a - 1 + 1) * (b - 1 + 1) ≡ 0 =
        ap (λ t. t * (b - 1 + 1)) (let s : a - 1 + 1 ≡ a = omega arith in s)
        ∙ ap (λ t. a * t) (let s : b - 1 + 1 ≡ b = omega arith in s) ∙ e in omega arith
