-- A sum, bit by bit: the carry into each bit lies between the carries of the least and of the
-- greatest members.
use Rattle.known_bits.proofs.Common.{◌≡◌, ℕ, ◌+◌, ◌-◌, ◌*◌, ◌/◌, ◌%◌, ◌^◌, ◌<◌, ◌≤◌, min, max, w64, sym, ap, ◌∙◌, inl, inr, arith, bit_and, bit_or, bit_xor, bit_at, bit_not, div-mul-le_self, mod-lt, and_le_l, and_le_r, and_mod, or_lt, xor_lt, pow_pos, shr_split, div-mul-add, le-div, div_below, and_mask, bit_at_and, bit_at_or, bit_at_xor, bit_at-lt, bit_at_ones, cases_lt, IsMember}
use Rattle.known_bits.proofs.Members.{Apart, Between, bits_between, member_from_bits, member_and_most}
use Rattle.known_bits.proofs.Logic.{without, without_bit, apart_without}

-- the carry into bit i
abbrev pub carry : ℕ → ℕ → ℕ → ℕ
carry p q i = (p % 2 ^ i + q % 2 ^ i) / 2 ^ i

pub carry_small : (p q i : ℕ) → carry p q i < 2
carry_small p q i =
    let e = pow_pos i in
    div_below _ (2 ^ i) 2 e (let a = mod-lt p e in let b = mod-lt q e in omega arith)

pub carry_mono : (p q r s i : ℕ) → p % 2 ^ i ≤ r % 2 ^ i → q % 2 ^ i ≤ s % 2 ^ i
    → carry p q i ≤ carry r s i
carry_mono p q r s i h k =
    let n = p % 2 ^ i + q % 2 ^ i in
    le-div _ _ (2 ^ i) (pow_pos i) (let l = div-mul-le_self n (2 ^ i) in omega arith)

pub sum_bit : (p q i : ℕ) → bit_at (p + q) i ≡ (bit_at p i + bit_at q i + carry p q i) % 2
sum_bit p q i =
    let b = 2 ^ i in
    let r = p % b + q % b in
    let ep = shr_split p i in
    let eq = shr_split q i in
    let er = shr_split r i in
    let e : p + q ≡ (p / b + q / b + r / b) * b + r % b = omega arith in
    ap (λ n. n / b % 2) e
    ∙ ap (λ n. n % 2) (div-mul-add (p / b + q / b + r / b) b (r % b) (mod-lt r (pow_pos i)))
    ∙ omega arith

-- the bits of the low part are those of the number
pub low_bit : (n w i : ℕ) → i < w → bit_at (n % 2 ^ w) i ≡ bit_at n i
low_bit n w i h =
    let o = bit_at_ones w i h in
    let l = bit_at-lt n i in
    ap (λ m. bit_at m i) (sym (and_mask n w)) ∙ bit_at_and n (2 ^ w - 1) i ∙ omega arith

-- the low bits of a member lie between those of the least and of the greatest
pub low_least : {v m x : ℕ} → IsMember v m x → (i : ℕ) → v % 2 ^ i ≤ x % 2 ^ i
low_least {v} {m} {x} h i =
    let e : v % 2 ^ i ≡ bit_and (x % 2 ^ i) (bit_not w64 m % 2 ^ i) =
    ap (λ n. n % 2 ^ i) (sym h.known) ∙ and_mod x (bit_not w64 m) i in
    let le = and_le_l (x % 2 ^ i) (bit_not w64 m % 2 ^ i) in
    omega arith

pub low_most : {v m x : ℕ} → Apart v m → IsMember v m x → (i : ℕ) → x % 2 ^ i ≤ bit_or v m % 2 ^ i
low_most {v} {m} {x} k h i =
    let e : x % 2 ^ i ≡ bit_and (x % 2 ^ i) (bit_or v m % 2 ^ i) =
    ap (λ n. n % 2 ^ i) (sym (member_and_most k h)) ∙ and_mod x (bit_or v m) i in
    let le = and_le_r (x % 2 ^ i) (bit_or v m % 2 ^ i) in
    omega arith

-- one bit of the sum: where the mask has none, the least and the greatest carry are the same
same_carry : (n p q : ℕ) → p < 2 → q < 2 → ((n + q) % 2 + (n + p) % 2) % 2 ≡ 0 → p ≡ q
same_carry n p q p_in q_in h = omega arith

-- what the mask of the sum has at a bit, where the least and the greatest carry into it are p and q
abbrev mask_at : ℕ → ℕ → ℕ → ℕ → ℕ → ℕ → ℕ
mask_at a am b bm p q =
    max (max (((max a am + max b bm + q) % 2 + (a + b + p) % 2) % 2) am) bm

sum_at_bit : {a am b bm x y : ℕ} (p c q : ℕ) → Between a am x → Between b bm y → p ≤ c → c ≤ q
    → q < 2
    → Between (min ((a + b + p) % 2) (1 - mask_at a am b bm p q)) (mask_at a am b bm p q)
    ((x + y + c) % 2)
sum_at_bit {a} {am} {b} {bm} {x} {y} p c q ha hb pc cq q_in =
    elim (cases_lt 0 (mask_at a am b bm p q)) [
      | inl h ↦ record { apart = omega arith; least = omega arith; most = omega arith }
      | inr h ↦
          let zero_a : am ≡ 0 = omega arith in
          let zero_b : bm ≡ 0 = omega arith in
          let eq : p ≡ q = same_carry (a + b) p q (omega arith) q_in (omega arith) in
          let same : (x + y + c) % 2 ≡ (a + b + p) % 2 = omega arith in
          record { apart = omega arith; least = omega arith; most = omega arith }
    ]

-- what `add` computes
abbrev pub sum_least : ℕ → ℕ → ℕ
sum_least av bv = (av + bv) % 2 ^ 64

abbrev pub sum_mask : ℕ → ℕ → ℕ → ℕ → ℕ
sum_mask av am bv bm =
    bit_or (bit_or (bit_xor ((bit_or av am + bit_or bv bm) % 2 ^ 64) (sum_least av bv)) am) bm

module _ {av am bv bm : ℕ} (ka : Apart av am) (kb : Apart bv bm) where
  mask_in : sum_mask av am bv bm < 2 ^ 64
  mask_in =
      let top = (bit_or av am + bit_or bv bm) % 2 ^ 64 in
      let x = xor_lt 64 top (sum_least av bv) (omega arith) (omega arith) in
      or_lt 64 _ bm (or_lt 64 _ am x ka.mask_in) kb.mask_in

  pub sum_known : Apart (without (sum_least av bv) (sum_mask av am bv bm)) (sum_mask av am bv bm)
  sum_known = apart_without (omega arith) mask_in

  pub sum_contains : (x y : ℕ) → IsMember av am x → IsMember bv bm y
      → IsMember (without (sum_least av bv) (sum_mask av am bv bm)) (sum_mask av am bv bm)
      ((x + y) % 2 ^ 64)
  sum_contains x y hx hy =
      let k = sum_known in
      member_from_bits k.value_in k.mask_in (omega arith)
      (λ i i_in.
      let top = bit_or av am + bit_or bv bm in
      rw (
        without_bit (sum_least av bv) (sum_mask av am bv bm) k.mask_in i i_in,
        bit_at_or (bit_or (bit_xor (top % 2 ^ 64) (sum_least av bv)) am) bm i,
        bit_at_or (bit_xor (top % 2 ^ 64) (sum_least av bv)) am i,
        bit_at_xor (top % 2 ^ 64) (sum_least av bv) i,
        low_bit top 64 i i_in ∙ sum_bit (bit_or av am) (bit_or bv bm) i,
        low_bit (av + bv) 64 i i_in ∙ sum_bit av bv i,
        low_bit (x + y) 64 i i_in ∙ sum_bit x y i,
        bit_at_or av am i,
        bit_at_or bv bm i,
      )
      (sum_at_bit _ _ _ (bits_between ka hx i i_in) (bits_between kb hy i i_in)
      (carry_mono av bv x y i (low_least hx i) (low_least hy i))
      (carry_mono x y (bit_or av am) (bit_or bv bm) i (low_most ka hx i) (low_most kb hy i))
      (carry_small (bit_or av am) (bit_or bv bm) i)))
