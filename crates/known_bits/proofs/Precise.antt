-- Precise operations: each unknown bit of sums, differences and shifts is 0 in some result and 1 in
-- another.
use Rattle.known_bits.proofs.Common.{inl, inr, ◌≡◌, ℕ, ◌+◌, ◌-◌, ◌*◌, ◌/◌, ◌%◌, ◌^◌, ◌<◌, ◌≤◌, w64, sym, ap, ◌∙◌, arith, bit_or, bit_xor, bit_at, bit_not, add-mul-div_right, pow-lt, or_lt, or_disjoint, pow_pos, pow-add, div_below, mod-mul-add, mul-le, bit_at_or, bit_at_xor, bit_at_not, bit_at-lt, bit_at-pow_other, and_pow, bit_at_cat_low, bit_at_cat_high, cases_lt, IsMember, Occurs}
use Rattle.known_bits.proofs.Members.{Apart, bits_apart, bits_between, member_from_bits}
use Rattle.known_bits.proofs.Carry.{sum_least, sum_mask, sum_known, low_bit}
use Rattle.known_bits.proofs.Order.{low_fits}
use Rattle.known_bits.proofs.Parts.{low_apart}
use Rattle.known_bits.proofs.Sharp.{both_occur, least_member, most_member, set_below}
use Rattle.known_bits.proofs.Shift.{right_bit, shifted_low, shifted_high}

-- ---- one unknown bit set

flips : (n i : ℕ) → bit_at (n + 2 ^ i) i ≡ 1 - bit_at n i
flips n i =
    let e : (n + 2 ^ i) / 2 ^ i ≡ n / 2 ^ i + 1 =
    ap (λ t. t / 2 ^ i) (let s : n + 2 ^ i ≡ n + 1 * 2 ^ i = omega arith in s)
    ∙ add-mul-div_right n 1 (pow_pos i) in
    ap (λ q. q % 2) e ∙ omega arith

raised : {v m : ℕ} → Apart v m → (i : ℕ) → bit_at m i ≡ 1 → bit_or v (2 ^ i) ≡ v + 2 ^ i
raised {v} {m} k i h =
    or_disjoint v (2 ^ i)
    (and_pow v i
    ∙ ap (λ b. b * 2 ^ i)
    (let a = bits_apart k i in let z : bit_at v i ≡ 0 = omega arith in z) ∙ omega arith)

raised_member : {v m : ℕ} → Apart v m → (i : ℕ) → i < 64 → bit_at m i ≡ 1
    → IsMember v m (bit_or v (2 ^ i))
raised_member {v} {m} k i i_in h =
    member_from_bits k.value_in k.mask_in (or_lt 64 v (2 ^ i) k.value_in (pow-lt i_in))
    (λ j j_in.
    let e = bit_at_or v (2 ^ i) j in
    let a = bits_apart k j in
    elim (cases_lt j i) [
      | inl lt ↦
          let z = bit_at-pow_other i j (λ same. omega arith) in
          record { apart = a; least = omega arith; most = omega arith }
      | inr ge ↦
          elim (cases_lt i j) [
            | inl lt ↦
                let z = bit_at-pow_other i j (λ same. omega arith) in
                record { apart = a; least = omega arith; most = omega arith }
            | inr le ↦
                let top : j ≡ i = omega arith in
                let set : bit_at m j ≡ 1 = ap (bit_at m) top ∙ h in
                let b = bit_at-lt (bit_or v (2 ^ i)) j in
                record { apart = a; least = omega arith; most = omega arith }
          ]
    ])

-- ---- sums

sum_flips : (n p i : ℕ) → i < 64 → p ≡ n + 2 ^ i → bit_at (p % 2 ^ 64) i ≡ 1 - bit_at (n % 2 ^ 64) i
sum_flips n p i i_in e =
    low_bit p 64 i i_in ∙ ap (λ t. bit_at t i) e ∙ flips n i
    ∙ ap (λ b. 1 - b) (sym (low_bit n 64 i i_in))

module _ {av am bv bm : ℕ} (ka : Apart av am) (kb : Apart bv bm) where
  pub sum_sharp : (i : ℕ) → bit_at (sum_mask av am bv bm) i ≡ 1
      → Occurs av am bv bm (λ x y. (x + y) % 2 ^ 64) i 0
      × Occurs av am bv bm (λ x y. (x + y) % 2 ^ 64) i 1
  sum_sharp i h =
      let i_in = set_below _ i (sum_known ka kb).mask_in h in
      let top = (bit_or av am + bit_or bv bm) % 2 ^ 64 in
      let m1 = bit_at_or (bit_or (bit_xor top (sum_least av bv)) am) bm i in
      let m2 = bit_at_or (bit_xor top (sum_least av bv)) am i in
      let m3 = bit_at_xor top (sum_least av bv) i in
      let least = bit_at-lt (sum_least av bv) i in
      let most = bit_at-lt top i in
      let la = least_member ka in
      let lb = least_member kb in
      elim (cases_lt 0 (bit_at am i)) [
        | inl in_a ↦
            let one : bit_at am i ≡ 1 = (let b = bit_at-lt am i in omega arith) in
            let e = raised ka i one in
            let f = sum_flips (av + bv) (bit_or av (2 ^ i) + bv) i i_in (omega arith) in
            both_occur (λ x y. (x + y) % 2 ^ 64) i av bv (bit_or av (2 ^ i)) bv la lb
            (raised_member ka i i_in one) lb (λ same. omega arith)
        | inr not_a ↦
            elim (cases_lt 0 (bit_at bm i)) [
              | inl in_b ↦
                  let one : bit_at bm i ≡ 1 = (let b = bit_at-lt bm i in omega arith) in
                  let e = raised kb i one in
                  let f = sum_flips (av + bv) (av + bit_or bv (2 ^ i)) i i_in (omega arith) in
                  both_occur (λ x y. (x + y) % 2 ^ 64) i av bv av (bit_or bv (2 ^ i)) la lb la
                  (raised_member kb i i_in one) (λ same. omega arith)
              | inr not_b ↦
                  both_occur (λ x y. (x + y) % 2 ^ 64) i av bv (bit_or av am) (bit_or bv bm) la lb
                  (most_member ka) (most_member kb) (λ same. omega arith)
            ]
      ]

-- ---- differences, by the complement

difference_not : (x y : ℕ) → x < 2 ^ 64 → y < 2 ^ 64
    → (2 ^ 64 - 1 - x + (2 ^ 64 - y)) % 2 ^ 64 ≡ bit_not w64 ((x + y) % 2 ^ 64)
difference_not x y x_in y_in = omega arith

pub occurs_not : {fv fm av am bv bm : ℕ}
    → ((x : ℕ) → IsMember fv fm x → IsMember av am (2 ^ 64 - 1 - x)) → (i b : ℕ) → i < 64
    → Occurs fv fm bv bm (λ x y. (x + y) % 2 ^ 64) i b
    → Occurs av am bv bm (λ x y. (x + (2 ^ 64 - y)) % 2 ^ 64) i (1 - b)
occurs_not back i b i_in o = record {
  x = 2 ^ 64 - 1 - o.x;
  y = o.y;
  first = back o.x o.first;
  second = o.second;
  is = ap (λ n. bit_at n i) (difference_not o.x o.y o.first.below o.second.below)
      ∙ bit_at_not w64 ((o.x + o.y) % 2 ^ 64) i (omega arith) i_in ∙ ap (λ t. 1 - t) o.is;
}

-- ---- shifts

module _ {av am bv bm : ℕ} (ka : Apart av am) (kb : Apart bv bm) where
  pub left_sharp : (k i : ℕ) → bit_at ((am * 2 ^ k) % 2 ^ 64) i ≡ 1
      → Occurs av am bv bm (λ x y. (x * 2 ^ k) % 2 ^ 64) i 0
      × Occurs av am bv bm (λ x y. (x * 2 ^ k) % 2 ^ 64) i 1
  left_sharp k i h =
      let i_in = set_below _ i (let n : (am * 2 ^ k) % 2 ^ 64 < 2 ^ 64 = omega arith in n) h in
      elim (cases_lt i k) [
        | inl lt ↦ absurd (let z = shifted_low am k i i_in lt in omega arith)
        | inr ge ↦
            let em = shifted_high am k i i_in ge in
            let ev = shifted_high av k i i_in ge in
            let eo = shifted_high (bit_or av am) k i i_in ge in
            let o = bit_at_or av am (i - k) in
            let a = bits_apart ka (i - k) in
            both_occur (λ x y. (x * 2 ^ k) % 2 ^ 64) i av bv (bit_or av am) bv (least_member ka)
            (least_member kb) (most_member ka) (least_member kb)
            (λ same. omega arith)
      ]

  pub right_sharp : (k i : ℕ) → bit_at (am / 2 ^ k) i ≡ 1
      → Occurs av am bv bm (λ x y. x / 2 ^ k) i 0 × Occurs av am bv bm (λ x y. x / 2 ^ k) i 1
  right_sharp k i h =
      let em = right_bit am k i in
      let ev = right_bit av k i in
      let eo = right_bit (bit_or av am) k i in
      let o = bit_at_or av am (k + i) in
      let a = bits_apart ka (k + i) in
      both_occur (λ x y. x / 2 ^ k) i av bv (bit_or av am) bv (least_member ka) (least_member kb)
      (most_member ka) (least_member kb) (λ same. omega arith)

  pub second_sharp : (i : ℕ) → bit_at bm i ≡ 1
      → Occurs av am bv bm (λ x y. y) i 0 × Occurs av am bv bm (λ x y. y) i 1
  second_sharp i h =
      let o = bit_at_or bv bm i in
      let a = bits_apart kb i in
      both_occur (λ x y. y) i av bv av (bit_or bv bm) (least_member ka) (least_member kb)
      (least_member ka) (most_member kb) (λ same. omega arith)

-- ---- a member of the low parts is the low part of a member

-- with the least member's upper part
abbrev pub lifted : ℕ → ℕ → ℕ → ℕ
lifted v n z = v / 2 ^ n * 2 ^ n + z

lifted_below : (v n z : ℕ) → n ≤ 64 → v < 2 ^ 64 → z < 2 ^ n → lifted v n z < 2 ^ 64
lifted_below v n z n_in v_in z_in =
    let q = v / 2 ^ n in
    let whole : 2 ^ (64 - n) * 2 ^ n ≡ 2 ^ 64 = sym (pow-add 2 (64 - n) n)
    ∙ ap (λ e. 2 ^ e) (let s : 64 - n + n ≡ 64 = omega arith in s) in
    let q_in = div_below v (2 ^ n) (2 ^ (64 - n)) (pow_pos n) (omega arith) in
    let most = mul-le (q + 1) (2 ^ n) (2 ^ (64 - n)) (2 ^ n) (omega arith) (omega arith) in
    let split : (q + 1) * 2 ^ n ≡ q * 2 ^ n + 2 ^ n = omega arith in
    omega arith

lifted_member : {v m : ℕ} → Apart v m → (n z : ℕ) → n ≤ 64 → IsMember (v % 2 ^ n) (m % 2 ^ n) z
    → IsMember v m (lifted v n z)
lifted_member {v} {m} k n z n_in h =
    let z_in = low_fits k n h in
    member_from_bits k.value_in k.mask_in (lifted_below v n z n_in k.value_in z_in)
    (λ i i_in. elim (cases_lt i n) [
      | inl lt ↦
          let e = bit_at_cat_low (v / 2 ^ n) n z i lt in
          let b = bits_between (low_apart k n) h i i_in in
          let ev = low_bit v n i lt in
          let em = low_bit m n i lt in
          record { apart = bits_apart k i; least = omega arith; most = omega arith }
      | inr ge ↦
          let e = bit_at_cat_high (v / 2 ^ n) n z i z_in ge ∙ right_bit v n (i - n)
          ∙ ap (bit_at v) (let s : n + (i - n) ≡ i = omega arith in s) in
          let a = bits_apart k i in
          record { apart = a; least = omega arith; most = omega arith }
    ])

pub occurs_lifted : {av am bv bm : ℕ} → Apart av am → Apart bv bm → (f : ℕ → ℕ → ℕ) (n i b : ℕ)
    → n ≤ 64 → Occurs (av % 2 ^ n) (am % 2 ^ n) (bv % 2 ^ n) (bm % 2 ^ n) f i b
    → Occurs av am bv bm (λ x y. f (x % 2 ^ n) (y % 2 ^ n)) i b
occurs_lifted {av} {am} {bv} {bm} ka kb f n i b n_in o =
    let x_is = mod-mul-add (av / 2 ^ n) (2 ^ n) o.x (low_fits ka n o.first) in
    let y_is = mod-mul-add (bv / 2 ^ n) (2 ^ n) o.y (low_fits kb n o.second) in
    record {
      x = lifted av n o.x;
      y = lifted bv n o.y;
      first = lifted_member ka n o.x n_in o.first;
      second = lifted_member kb n o.y n_in o.second;
      is =
          ap (λ x. bit_at (f x (lifted bv n o.y % 2 ^ n)) i) x_is
          ∙ ap (λ y. bit_at (f o.x y) i) y_is ∙ o.is;
    }
