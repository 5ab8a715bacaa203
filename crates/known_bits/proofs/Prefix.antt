-- Numbers between two share a prefix of bits, those above the highest in which the two differ.
use Rattle.known_bits.proofs.Common.{◌≡◌, ℕ, ◌+◌, ◌-◌, ◌*◌, ◌/◌, ◌^◌, ◌<◌, ◌≤◌, w64, inl, inr, sym, ap, ◌∙◌, arith, bit_and, bit_xor, bit_at, bit_not, leading_zeros, div-eq_of_lt, div-lt_iff_lt-mul, pow_mono, xor_shr, xor_lt, leading_length, pow_pos, pow-add, bit_at_xor, bit_at-lt, bit_at-zero, same_from_bits, and_high_mask, bit_at_above, cases_lt, div_mono, IsMember}

same_from_xor : (a b : ℕ) → bit_xor a b ≡ 0 → a ≡ b
same_from_xor a b e =
    same_from_bits a b
    (λ i. let f = sym (bit_at_xor a b i) ∙ ap (λ n. bit_at n i) e ∙ bit_at-zero i in
    let x = bit_at-lt a i in let y = bit_at-lt b i in omega arith)

pub between_member : (l g x mask : ℕ) → l < 2 ^ 64 → g < 2 ^ 64 → l ≤ x → x ≤ g
    → mask + 1 ≡ 2 ^ (64 - leading_zeros w64 (bit_xor l g))
    → IsMember (bit_and l (bit_not w64 mask)) mask x
between_member l g x mask l_in g_in h1 h2 e =
    let k = 64 - leading_zeros w64 (bit_xor l g) in
    let n = leading_length 64 (bit_xor l g) (xor_lt 64 l g l_in g_in) in
    let same : n.0 ≡ k = omega (arith, n.1) in
    let small : bit_xor l g < 2 ^ k = rw same at n.2 in
    let zero_top : bit_xor (l / 2 ^ k) (g / 2 ^ k) ≡ 0 = sym (xor_shr l g k) ∙ div-eq_of_lt small in
    let tops = same_from_xor (l / 2 ^ k) (g / 2 ^ k) zero_top in
    let m1 = div_mono l x k h1 in
    let m2 = div_mono x g k h2 in
    let top : x / 2 ^ k ≡ l / 2 ^ k = omega arith in
    let flip : bit_not w64 mask ≡ 2 ^ 64 - 2 ^ k = omega arith in
    let ex = and_high_mask 64 k (omega arith) x (omega arith) in
    let el = and_high_mask 64 k (omega arith) l l_in in
    record {
      below = omega arith;
      known = ap (bit_and x) flip ∙ ex ∙ ap (λ t. t * 2 ^ k) top
          ∙ sym (ap (bit_and l) flip ∙ el);
    }

-- a bit is unknown only where the two differ there or above
pub between_sharp : (l g mask i : ℕ) → l < 2 ^ 64 → g < 2 ^ 64
    → mask + 1 ≡ 2 ^ (64 - leading_zeros w64 (bit_xor l g))
    → bit_at mask i ≡ 1 → l / 2 ^ i ≡ g / 2 ^ i → ⊥
between_sharp l g mask i l_in g_in e unknown same =
    let k = 64 - leading_zeros w64 (bit_xor l g) in
    let n = leading_length 64 (bit_xor l g) (xor_lt 64 l g l_in g_in) in
    let same_count : n.0 ≡ k = omega (arith, n.1) in
    let large : 2 ^ k ≤ 2 * bit_xor l g + 1 = rw same_count at n.3 in
    elim (cases_lt i k) [
      | inl lt ↦
          let shifted : bit_xor l g / 2 ^ i ≡ 0 = xor_shr l g i
          ∙ ap (λ t. bit_xor t (g / 2 ^ i)) same ∙ xor_same (g / 2 ^ i) in
          let small = below_of_no_quotient (bit_xor l g) (2 ^ i) (pow_pos i) shifted in
          let twice = double_pow i k lt in
          omega arith
      | inr ge ↦ let zero = bit_at_above mask k i (omega arith) ge in omega arith
    ]
  where
    xor_same : (a : ℕ) → bit_xor a a ≡ 0
    xor_same a =
        same_from_bits (bit_xor a a) 0
        (λ j. let f = bit_at_xor a a j in
        let x = bit_at-lt a j in let z = bit_at-zero j in omega arith)

    below_of_no_quotient : (a d : ℕ) → 0 < d → a / d ≡ 0 → a < d
    below_of_no_quotient a d h z =
        let f = (div-lt_iff_lt-mul {k = d} {x = a} {y = 1} h).0 (omega arith) in omega arith

    double_pow : (i k : ℕ) → i < k → 2 * 2 ^ i ≤ 2 ^ k
    double_pow i k h =
        let p = pow-add 2 1 i in let m : 2 ^ (1 + i) ≤ 2 ^ k = pow_mono (omega arith) in omega arith
