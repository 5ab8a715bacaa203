-- The logical operations, bit by bit.
use Rattle.known_bits.proofs.Common.{◌≡◌, ℕ, ◌-◌, ◌^◌, ◌<◌, min, max, w64, ap, ◌∙◌, arith, bit_and, bit_or, bit_xor, bit_at, bit_not, and_le_l, or_lt, xor_lt, bit_at_and, bit_at_or, bit_at_xor, bit_at_not, bit_at-lt, IsMember}
use Rattle.known_bits.proofs.Members.{Apart, bits_between, bits_apart, apart_from_bits, member_from_bits}

-- what the code computes for each
abbrev pub and_mask_of : ℕ → ℕ → ℕ → ℕ → ℕ
and_mask_of av am bv bm =
    bit_and (bit_and (bit_or av am) (bit_or bv bm)) (bit_not w64 (bit_and av bv))

abbrev pub or_mask_of : ℕ → ℕ → ℕ → ℕ → ℕ
or_mask_of av am bv bm = bit_and (bit_or am bm) (bit_not w64 (bit_or av bv))

-- v without the bits of m
abbrev pub without : ℕ → ℕ → ℕ
without v m = bit_and v (bit_not w64 m)

pub without_bit : (v m : ℕ) → m < 2 ^ 64 → (i : ℕ) → i < 64
    → bit_at (without v m) i ≡ min (bit_at v i) (1 - bit_at m i)
without_bit v m m_in i i_in =
    bit_at_and v (bit_not w64 m) i ∙ ap (min (bit_at v i)) (bit_at_not w64 m i m_in i_in)

pub without_in : {v : ℕ} (m : ℕ) → v < 2 ^ 64 → without v m < 2 ^ 64
without_in {v} m h = let le = and_le_l v (bit_not w64 m) in omega arith

-- clearing the mask's bits makes the two parts apart
pub apart_without : {v m : ℕ} → v < 2 ^ 64 → m < 2 ^ 64 → Apart (without v m) m
apart_without {v} {m} v_in m_in = apart_from_bits (without_in m v_in) m_in
    (λ i i_in. let e = without_bit v m m_in i i_in in
    let b = bit_at-lt v i in let c = bit_at-lt m i in omega arith)

module _ {av am bv bm : ℕ} (ka : Apart av am) (kb : Apart bv bm) where
  and_in : bit_and av bv < 2 ^ 64
  and_in = let h = ka.value_in in let le = and_le_l av bv in omega arith

  pub and_bit : (i : ℕ) → i < 64 → bit_at (and_mask_of av am bv bm) i
      ≡ min (min (max (bit_at av i) (bit_at am i)) (max (bit_at bv i) (bit_at bm i)))
      (1 - min (bit_at av i) (bit_at bv i))
  and_bit i i_in =
      let v_in = and_in in
      let n = bit_at_not w64 (bit_and av bv) i v_in i_in in
      simp (bit_at_and, n, bit_at_or)

  pub and_known : Apart (bit_and av bv) (and_mask_of av am bv bm)
  and_known =
      apart_from_bits and_in
      (without_in (bit_and av bv)
      (let h = ka.value_in in
      let hm = ka.mask_in in
      let o = or_lt 64 av am h hm in
      let le = and_le_l (bit_or av am) (bit_or bv bm) in omega arith))
      (λ i i_in. let e = and_bit i i_in in
      let f = bit_at_and av bv i in
      let b1 = bit_at-lt av i in let b2 = bit_at-lt bv i in omega arith)

  pub and_contains : (x y : ℕ) → IsMember av am x → IsMember bv bm y
      → IsMember (bit_and av bv) (and_mask_of av am bv bm) (bit_and x y)
  and_contains x y hx hy =
      let k = and_known in
      member_from_bits k.value_in k.mask_in
      (let le = and_le_l x y in let l = hx.below in omega arith)
      (λ i i_in. let e = and_bit i i_in in
      let f = bit_at_and av bv i in
      let g = bit_at_and x y i in let b1 = bit_at-lt av i in let b2 = bit_at-lt bv i in
      let hx = bits_between ka hx i i_in in let hy = bits_between kb hy i i_in in
      record { apart = bits_apart k i; least = omega arith; most = omega arith })

  or_in : bit_or av bv < 2 ^ 64
  or_in = or_lt 64 av bv ka.value_in kb.value_in

  pub or_known : Apart (bit_or av bv) (or_mask_of av am bv bm)
  or_known =
      apart_from_bits or_in (without_in (bit_or av bv) (or_lt 64 am bm ka.mask_in kb.mask_in))
      (λ i i_in. let e = without_bit (bit_or am bm) (bit_or av bv) or_in i i_in in
      let f = bit_at_or av bv i in
      let b1 = bit_at-lt av i in let b2 = bit_at-lt bv i in omega arith)

  pub or_contains : (x y : ℕ) → IsMember av am x → IsMember bv bm y
      → IsMember (bit_or av bv) (or_mask_of av am bv bm) (bit_or x y)
  or_contains x y hx hy =
      let k = or_known in
      member_from_bits k.value_in k.mask_in (or_lt 64 x y hx.below hy.below)
      (λ i i_in. let e = without_bit (bit_or am bm) (bit_or av bv) or_in i i_in in
      let m = bit_at_or am bm i in
      let f = bit_at_or av bv i in
      let g = bit_at_or x y i in let b1 = bit_at-lt av i in let b2 = bit_at-lt bv i in
      let hx = bits_between ka hx i i_in in let hy = bits_between kb hy i i_in in
      record { apart = bits_apart k i; least = omega arith; most = omega arith })

  pub xor_known : Apart (without (bit_xor av bv) (bit_or am bm)) (bit_or am bm)
  xor_known =
      apart_without (xor_lt 64 av bv ka.value_in kb.value_in) (or_lt 64 am bm ka.mask_in kb.mask_in)

  pub xor_contains : (x y : ℕ) → IsMember av am x → IsMember bv bm y
      → IsMember (without (bit_xor av bv) (bit_or am bm)) (bit_or am bm) (bit_xor x y)
  xor_contains x y hx hy =
      let k = xor_known in
      member_from_bits k.value_in k.mask_in (xor_lt 64 x y hx.below hy.below)
      (λ i i_in. let e = without_bit (bit_xor av bv) (bit_or am bm) k.mask_in i i_in in
      let m = bit_at_or am bm i in let f = bit_at_xor av bv i in let g = bit_at_xor x y i in
      let b1 = bit_at-lt x i in let b2 = bit_at-lt y i in
      let hx = bits_between ka hx i i_in in let hy = bits_between kb hy i i_in in
      record { apart = bits_apart k i; least = omega arith; most = omega arith })
