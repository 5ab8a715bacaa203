-- Sharp results: each unknown bit is 0 in some result and 1 in another.
use Rattle.known_bits.proofs.Common.{inl, inr, ◌≡◌, ◌≢◌, ℕ, ◌%◌, ◌^◌, ◌<◌, sym, ap, ◌∙◌, arith, bit_and, bit_or, bit_xor, bit_at, or_lt, bit_at_and, bit_at_or, bit_at_xor, bit_at-lt, bit_at_above, cases_lt, IsMember, Occurs}
use Rattle.known_bits.proofs.Members.{Apart, bits_apart, member_from_bits}
use Rattle.known_bits.proofs.Logic.{without_bit, and_mask_of, or_mask_of, and_bit, and_known, or_known}
use Rattle.known_bits.proofs.Carry.{low_bit}
use Rattle.known_bits.proofs.Parts.{high_bit}

pub least_member : {v m : ℕ} → Apart v m → IsMember v m v
least_member {v} {m} k = member_from_bits k.value_in k.mask_in k.value_in
    (λ i i_in. let a = bits_apart k i in
    record { apart = a; least = omega arith; most = omega arith })

pub most_member : {v m : ℕ} → Apart v m → IsMember v m (bit_or v m)
most_member {v} {m} k = member_from_bits k.value_in k.mask_in (or_lt 64 v m k.value_in k.mask_in)
    (λ i i_in. let a = bits_apart k i in
    let e = bit_at_or v m i in record { apart = a; least = omega arith; most = omega arith })

-- a bit that is set is at a position below 64
pub set_below : (n i : ℕ) → n < 2 ^ 64 → bit_at n i ≡ 1 → i < 64
set_below n i h e =
    elim (cases_lt i 64)
    [ inl lt ↦ lt | inr ge ↦ absurd (let z = bit_at_above n 64 i h ge in omega arith) ]

-- of two results that differ in a bit, one has 0 there and the other 1
pub both_occur : {av am bv bm : ℕ} (f : ℕ → ℕ → ℕ) (i x y x' y' : ℕ) → IsMember av am x
    → IsMember bv bm y → IsMember av am x' → IsMember bv bm y'
    → bit_at (f x y) i ≢ bit_at (f x' y') i → Occurs av am bv bm f i 0 × Occurs av am bv bm f i 1
both_occur f i x y x' y' hx hy hx' hy' differ =
    let l = bit_at-lt (f x y) i in
    let l' = bit_at-lt (f x' y') i in
    elim (cases_lt 0 (bit_at (f x y) i)) [
      | inl one ↦ (
        record { x = x'; y = y'; first = hx'; second = hy'; is = omega arith },
        record { x = x; y = y; first = hx; second = hy; is = omega arith },
      )
      | inr none ↦ (
        record { x = x; y = y; first = hx; second = hy; is = omega arith },
        record { x = x'; y = y'; first = hx'; second = hy'; is = omega arith },
      )
    ]

module _ {av am bv bm : ℕ} (ka : Apart av am) (kb : Apart bv bm) where
  pub and_sharp : (i : ℕ) → bit_at (and_mask_of av am bv bm) i ≡ 1
      → Occurs av am bv bm bit_and i 0 × Occurs av am bv bm bit_and i 1
  and_sharp i h =
      let e = and_bit ka kb i (set_below _ i (and_known ka kb).mask_in h) in
      let l1 = bit_at-lt av i in let l2 = bit_at-lt bv i in
      let ea = bit_at_or av am i in let eb = bit_at_or bv bm i in (
        record {
          x = av;
          y = bv;
          first = least_member ka;
          second = least_member kb;
          is = bit_at_and av bv i ∙ omega arith;
        },
        record {
          x = bit_or av am;
          y = bit_or bv bm;
          first = most_member ka;
          second = most_member kb;
          is = bit_at_and (bit_or av am) (bit_or bv bm) i
              ∙ (let m1 = bit_at-lt am i in let m2 = bit_at-lt bm i in omega arith);
        },
      )

  pub or_sharp : (i : ℕ) → bit_at (or_mask_of av am bv bm) i ≡ 1
      → Occurs av am bv bm bit_or i 0 × Occurs av am bv bm bit_or i 1
  or_sharp i h =
      let e = without_bit (bit_or am bm) (bit_or av bv) (or_known ka kb).value_in i
      (set_below _ i (or_known ka kb).mask_in h) in
      let em = bit_at_or am bm i in let ev = bit_at_or av bv i in
      let l1 = bit_at-lt av i in let l2 = bit_at-lt bv i in
      let m1 = bit_at-lt am i in let m2 = bit_at-lt bm i in
      let ea = bit_at_or av am i in let eb = bit_at_or bv bm i in (
        record {
          x = av;
          y = bv;
          first = least_member ka;
          second = least_member kb;
          is = ev ∙ omega arith;
        },
        record {
          x = bit_or av am;
          y = bit_or bv bm;
          first = most_member ka;
          second = most_member kb;
          is = bit_at_or (bit_or av am) (bit_or bv bm) i ∙ omega arith;
        },
      )

  pub xor_sharp : (i : ℕ) → bit_at (bit_or am bm) i ≡ 1
      → Occurs av am bv bm bit_xor i 0 × Occurs av am bv bm bit_xor i 1
  xor_sharp i h =
      let em = bit_at_or am bm i in
      let aa = bits_apart ka i in let ab = bits_apart kb i in
      let ea = bit_at_or av am i in let eb = bit_at_or bv bm i in
      let least = bit_at_xor av bv i in
      elim (cases_lt 0 (bit_at am i)) [
        | inl in_a ↦
            let other = bit_at_xor (bit_or av am) bv i in
            both_occur bit_xor i av bv (bit_or av am) bv (least_member ka) (least_member kb)
            (most_member ka) (least_member kb) (λ same. omega arith)
        | inr not_a ↦
            let other = bit_at_xor av (bit_or bv bm) i in
            both_occur bit_xor i av bv av (bit_or bv bm) (least_member ka) (least_member kb)
            (least_member ka) (most_member kb) (λ same. omega arith)
      ]

-- a truncated mask's bits are those of the mask
pub low_set : (m n i : ℕ) → bit_at (m % 2 ^ n) i ≡ 1 → (i < n) × (bit_at m i ≡ 1)
low_set m n i h =
    elim (cases_lt i n) [
      | inl lt ↦ (lt, sym (low_bit m n i lt) ∙ h)
      | inr ge ↦ absurd (let z = high_bit m n i ge in omega arith)
    ]

pub occurs_low : {av am bv bm : ℕ} (f g : ℕ → ℕ → ℕ) (n i b : ℕ) → i < n
    → ((x y : ℕ) → IsMember av am x → IsMember bv bm y → f x y % 2 ^ n ≡ g x y)
    → Occurs av am bv bm f i b → Occurs av am bv bm g i b
occurs_low f g n i b i_in e o = record {
  x = o.x;
  y = o.y;
  first = o.first;
  second = o.second;
  is = ap (λ r. bit_at r i) (sym (e o.x o.y o.first o.second)) ∙ low_bit (f o.x o.y) n i i_in
      ∙ o.is;
}
