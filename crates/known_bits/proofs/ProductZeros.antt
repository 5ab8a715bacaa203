-- What two factors show of their product: its trailing zeros, and how many bits it has at most.
use Rattle.known_bits.proofs.Common.{◌≡◌, ℕ, ◌+◌, ◌-◌, ◌*◌, ◌/◌, ◌%◌, ◌^◌, ◌<◌, ◌≤◌, w64, sym, ap, ◌∙◌, inl, inr, arith, bit_and, bit_or, bit_at, trailing_zeros, and_le_r, and_mod, or_mod, pow_pos, pow-add, mod-pow-add, mod-mul-add, mod_below, bit_at-lt, bit_at-zero, bit_at_above, bit_at-trailing_zeros, same_from_bits, div-eq_of_lt, mod-eq_of_lt, mod-le, pow_mono, cases_lt, IsMember}
use Rattle.std.specs.Int.Count.{trailing_of_zero}
use Rattle.known_bits.proofs.MemberLaws.{bit_at-differing}
use Rattle.known_bits.proofs.Members.{Apart, member_and_most}
use Rattle.known_bits.proofs.Carry.{low_bit}
use Rattle.known_bits.proofs.Parts.{high_bit, low_apart}
use Rattle.known_bits.proofs.Order.{member_most}

-- ---- multiples of powers of two

-- a multiple of a power is one of each smaller power
pub mod-pow_smaller : (n j k : ℕ) → n % 2 ^ k ≡ 0 → j ≤ k → n % 2 ^ j ≡ 0
mod-pow_smaller n j k h le =
    let e = mod-pow-add n (k - j) j in
    let s : k - j + j ≡ k = omega arith in
    let whole : n % 2 ^ (k - j + j) ≡ 0 = ap (λ t. n % 2 ^ t) s ∙ h in
    omega arith

-- the low part of a multiple is a multiple, too
pub mod-mod_pow : (n j w : ℕ) → n % 2 ^ j ≡ 0 → (n % 2 ^ w) % 2 ^ j ≡ 0
mod-mod_pow n j w h =
    elim (cases_lt w j) [
      | inl lt ↦
          let z = mod-pow_smaller n w j h (omega arith) in
          ap (λ t. t % 2 ^ j) z ∙ mod-eq_of_lt {n = 0} {m = 2 ^ j} (pow_pos j)
      | inr ge ↦
          let e = mod-pow-add n (w - j) j in
          let s : w - j + j ≡ w = omega arith in
          let low : n % 2 ^ w ≡ (n / 2 ^ j % 2 ^ (w - j)) * 2 ^ j + n % 2 ^ j =
          ap (λ t. n % 2 ^ t) (sym s) ∙ e in
          ap (λ t. t % 2 ^ j) low
          ∙ mod-mul-add (n / 2 ^ j % 2 ^ (w - j)) (2 ^ j) (n % 2 ^ j)
          (mod_below n (2 ^ j) (pow_pos j)) ∙ h
    ]

-- a product of multiples of two powers is a multiple of the powers' product
pub mod-pow-mul : (x y j k : ℕ) → x % 2 ^ j ≡ 0 → y % 2 ^ k ≡ 0 → (x * y) % 2 ^ (j + k) ≡ 0
mod-pow-mul x y j k hx hy =
    let p = pow-add 2 j k in
    let q = pow_pos (j + k) in
    let ex : x ≡ x / 2 ^ j * 2 ^ j = quotient x (2 ^ j) (pow_pos j) hx in
    let ey : y ≡ y / 2 ^ k * 2 ^ k = quotient y (2 ^ k) (pow_pos k) hy in
    let e : x * y ≡ x / 2 ^ j * (y / 2 ^ k) * 2 ^ (j + k) + 0 =
    regroup x y (x / 2 ^ j) (y / 2 ^ k) (2 ^ j) (2 ^ k) (2 ^ (j + k)) ex ey p in
    ap (λ t. t % 2 ^ (j + k)) e ∙ mod-mul-add (x / 2 ^ j * (y / 2 ^ k)) (2 ^ (j + k)) 0 q
  where
    quotient : (n d : ℕ) → 0 < d → n % d ≡ 0 → n ≡ n / d * d
    quotient n d h z = omega arith

    regroup : (x y a b p q r : ℕ) → x ≡ a * p → y ≡ b * q → r ≡ p * q → x * y ≡ a * b * r + 0
    regroup x y a b p q r ex ey er = rw (ex, ey, er) (omega arith)

-- a number is a multiple of 2 to the number of its trailing zeros
pub mod-trailing_zeros : (n : ℕ) → n < 2 ^ 64 → n % 2 ^ trailing_zeros w64 n ≡ 0
mod-trailing_zeros n n_in =
    elim (cases_lt 0 n) [
      | inl some ↦
          let t = bit_at-trailing_zeros w64 n some n_in in
          same_from_bits (n % 2 ^ trailing_zeros w64 n) 0
          (λ i. elim (cases_lt i (trailing_zeros w64 n)) [
            | inl lt ↦ low_bit n (trailing_zeros w64 n) i lt ∙ t.2 i lt ∙ sym (bit_at-zero i)
            | inr ge ↦ high_bit n (trailing_zeros w64 n) i ge ∙ sym (bit_at-zero i)
          ])
      | inr none ↦ let l = mod-le n (2 ^ (trailing_zeros w64 n)) in omega arith
    ]

-- a number has at least j trailing zeros if 2 to the power j divides it
pub trailing_zeros-multiple : (n j : ℕ) → n < 2 ^ 64 → j ≤ 64 → n % 2 ^ j ≡ 0
    → j ≤ trailing_zeros w64 n
trailing_zeros-multiple n j n_in j_in h =
    elim (cases_lt 0 n) [
      | inl some ↦
          let t = bit_at-trailing_zeros w64 n some n_in in
          elim (cases_lt (trailing_zeros w64 n) j) [
            | inl lt ↦ absurd
                (let low : bit_at n (trailing_zeros w64 n) ≡ 0 =
                sym (low_bit n j (trailing_zeros w64 n) lt)
                ∙ ap (λ m. bit_at m (trailing_zeros w64 n)) h
                ∙ bit_at-zero (trailing_zeros w64 n) in
                omega (arith, t.1))
            | inr ge ↦ ge
          ]
      | inr none ↦
          let z : n ≡ 0 = omega arith in
          let e : trailing_zeros w64 n ≡ 64 = ap (trailing_zeros w64) z ∙ trailing_of_zero 64 in
          omega arith
    ]

-- ---- members

-- a member is a multiple of each power of 2 that divides the greatest member
pub member-multiple : {v m x : ℕ} → Apart v m → IsMember v m x → (j : ℕ) → bit_or v m % 2 ^ j ≡ 0
    → x % 2 ^ j ≡ 0
member-multiple {v} {m} {x} k h j z =
    let e : x % 2 ^ j ≡ bit_and (x % 2 ^ j) (bit_or v m % 2 ^ j) =
    ap (λ t. t % 2 ^ j) (sym (member_and_most k h)) ∙ and_mod x (bit_or v m) j in
    let le = and_le_r (x % 2 ^ j) (bit_or v m % 2 ^ j) in
    omega arith

-- a number that has no bits from position l on is below 2 ^ l
pub lt-pow_from_bits : (x l : ℕ) → ((i : ℕ) → l ≤ i → bit_at x i ≡ 0) → x < 2 ^ l
lt-pow_from_bits x l h =
    let same : x ≡ x % 2 ^ l = same_from_bits x (x % 2 ^ l)
    (λ i. elim (cases_lt i l)
    [ inl lt ↦ sym (low_bit x l i lt) | inr ge ↦ h i ge ∙ sym (high_bit x l i ge) ]) in
    let below = mod_below x (2 ^ l) (pow_pos l) in
    omega arith

-- if 0 is a member, and the bits from position l on are known to be the same in all members,
-- members are below 2 ^ l
pub member-below : (v m g x l : ℕ) → m < 2 ^ 64 → IsMember v m 0
    → ((i : ℕ) → bit_at m i ≡ 1 → 0 / 2 ^ i ≡ g / 2 ^ i → ⊥)
    → g < 2 ^ l → IsMember v m x → x < 2 ^ l
member-below v m g x l m_in zero sharp small h =
    lt-pow_from_bits x l
    (λ i from. elim (cases_lt i 64) [
      | inl inside ↦ elim (cases_lt 0 (bit_at x i)) [
        | inl one ↦ absurd
            (let top : 2 ^ l ≤ 2 ^ i = pow_mono from in
            let b = bit_at-lt x i in
            sharp i (bit_at-differing v m 0 x i m_in zero h inside (bit_at-zero i) (omega arith))
            (div-eq_of_lt (pow_pos i) ∙ sym (div-eq_of_lt {n = g} {m = 2 ^ i} (omega arith))))
        | inr none ↦ omega arith
      ]
      | inr above ↦ bit_at_above x 64 i h.below above
    ])

-- ---- low parts

-- members of the low part are multiples of each power of 2 that divides the greatest member, and
-- below each power that it is below
pub low-multiple : {v m x : ℕ} → Apart v m → (w j : ℕ) → bit_or v m % 2 ^ j ≡ 0
    → IsMember (v % 2 ^ w) (m % 2 ^ w) x → x % 2 ^ j ≡ 0
low-multiple {v} {m} k w j z h =
    member-multiple (low_apart k w) h j
    (ap (λ t. t % 2 ^ j) (sym (or_mod v m w)) ∙ mod-mod_pow (bit_or v m) j w z)

pub low-limit : {v m x : ℕ} → Apart v m → (w l : ℕ) → bit_or v m < 2 ^ l
    → IsMember (v % 2 ^ w) (m % 2 ^ w) x → x < 2 ^ l
low-limit {v} {m} k w l small h =
    let most = member_most (low_apart k w) h in
    let e = or_mod v m w in
    let le = mod-le (bit_or v m) (2 ^ w) in
    omega arith
