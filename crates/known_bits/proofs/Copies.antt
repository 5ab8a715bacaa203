-- Numbers whose bits are bits of another: sign extensions, and the shift that keeps the sign.
use Rattle.known_bits.proofs.Common.{◌≡◌, ◌⊎◌, ℕ, zero, suc, ◌+◌, ◌-◌, ◌*◌, ◌/◌, ◌%◌, ◌^◌, ◌<◌, ◌≤◌, min, w32, w64, refl, sym, ap, ◌∙◌, inl, inr, arith, bit_or, bit_at, bit_not, int_shr, div-le_self, mod-eq_of_lt, pow-add, pow_pos, mod_below, bit_at_or, bit_at_not, bit_at_above, bit_at_ones, bit_at_cat_low, bit_at_cat_high, cases_lt, lt-ltb, le-ltb, Arsh, width_bits, extension_bits, extension_width, alu, low, shift, signed, unsigned, sign_extended, alu_below, low_below, shift_below, width_fits, width_most, IsMember, Occurs}
use Rattle.isa_model.specs.declared.sizes.Width.{Width}
use Rattle.isa_model.specs.declared.sizes.Width.TheVariants.{Low32, Full64}
use Rattle.isa_model.specs.declared.sizes.Extension.{Extension}
use Rattle.isa_model.specs.declared.sizes.Extension.TheVariants.{Low8, Low16, Full8, Full16, Full32}
use Rattle.isa_model.proofs.ExtensionLaws.{sign_extended_below, sign_extended_cases, sign_extended-small}
use Rattle.known_bits.proofs.Members.{Apart, bits_between, bits_apart, apart_from_bits, member_from_bits}
use Rattle.known_bits.proofs.Carry.{low_bit}
use Rattle.known_bits.proofs.Order.{low_fits}
use Rattle.known_bits.proofs.Sharp.{both_occur, least_member, most_member}
use Rattle.known_bits.proofs.Shift.{right_bit}

-- f returns n bits, each a copy of its argument's bit at a position
pub record Copies (n : ℕ) (position : ℕ → ℕ) (f : ℕ → ℕ) : Type 0 where
  pub fits : 2 ^ n ≤ 2 ^ 64
  pub below : (x : ℕ) → f x < 2 ^ n
  pub inside : (i : ℕ) → i < n → position i < 64
  pub bit : (x i : ℕ) → i < n → bit_at (f x) i ≡ bit_at x (position i)

module _ {n : ℕ} {position : ℕ → ℕ} {f : ℕ → ℕ} (c : Copies n position f) where
  copy_fits : (x : ℕ) → f x < 2 ^ 64
  copy_fits x = let b = c.below x in let s = c.fits in omega arith

  pub copied_known : {v m : ℕ} → Apart v m → Apart (f v) (f m)
  copied_known {v} {m} k =
      apart_from_bits (copy_fits v) (copy_fits m)
      (λ i i_in. elim (cases_lt i n) [
        | inl lt ↦
            let ev = c.bit v i lt in
            let em = c.bit m i lt in let a = bits_apart k (position i) in omega arith
        | inr ge ↦
            let zv = bit_at_above (f v) n i (c.below v) ge in
            let zm = bit_at_above (f m) n i (c.below m) ge in omega arith
      ])

  pub copied_contains : {v m : ℕ} → Apart v m → (x : ℕ) → IsMember v m x
      → IsMember (f v) (f m) (f x)
  copied_contains {v} {m} k x h =
      member_from_bits (copy_fits v) (copy_fits m) (copy_fits x)
      (λ i i_in. elim (cases_lt i n) [
        | inl lt ↦
            let ev = c.bit v i lt in let em = c.bit m i lt in let ex = c.bit x i lt in
            let b = bits_between k h (position i) (c.inside i lt) in
            record { apart = omega arith; least = omega arith; most = omega arith }
        | inr ge ↦
            let zv = bit_at_above (f v) n i (c.below v) ge in
            let zm = bit_at_above (f m) n i (c.below m) ge in
            let zx = bit_at_above (f x) n i (c.below x) ge in
            record { apart = omega arith; least = omega arith; most = omega arith }
      ])

  pub copied_fits : {v m x : ℕ} → Apart v m → IsMember (f v) (f m) x → x < 2 ^ n
  copied_fits {v} {m} {x} k h =
      let ev = mod-eq_of_lt {n = f v} {m = 2 ^ n} (c.below v) in
      let em = mod-eq_of_lt {n = f m} {m = 2 ^ n} (c.below m) in
      low_fits (copied_known k) n (rw (ev, em) h)

  -- an unknown bit is 0 in some result and 1 in another, as the bit that it copies is
  pub copied_sharp : {av am bv bm : ℕ} → Apart av am → Apart bv bm → (i : ℕ) → bit_at (f am) i ≡ 1
      → Occurs av am bv bm (λ x y. f x) i 0 × Occurs av am bv bm (λ x y. f x) i 1
  copied_sharp {av} {am} {bv} {bm} ka kb i h =
      elim (cases_lt i n) [
        | inl lt ↦
            let em = c.bit am i lt in
            let ev = c.bit av i lt in
            let eo = c.bit (bit_or av am) i lt in
            let o = bit_at_or av am (position i) in
            let a = bits_apart ka (position i) in
            both_occur (λ x y. f x) i av bv (bit_or av am) bv (least_member ka) (least_member kb)
            (most_member ka) (least_member kb)
            (λ same. omega arith)
        | inr ge ↦ absurd (let z = bit_at_above (f am) n i (c.below am) ge in omega arith)
      ]

-- what occurs by one function occurs by another that returns the same on the members of the second
-- set
pub occurs_same : {av am bv bm : ℕ} {f g : ℕ → ℕ → ℕ} {i b : ℕ}
    → ((x y : ℕ) → IsMember bv bm y → f x y ≡ g x y)
    → Occurs av am bv bm f i b → Occurs av am bv bm g i b
occurs_same {i = i} same o = record {
  x = o.x;
  y = o.y;
  first = o.first;
  second = o.second;
  is = ap (λ n. bit_at n i) (sym (same o.x o.y o.second)) ∙ o.is;
}

-- ---- the shift that keeps the sign

-- a number without the sign bit, shifted: its bits, and zeros, as its sign
plain_bit : (n a k i : ℕ) → a < 2 ^ n → bit_at (a / 2 ^ k) i ≡ bit_at a (min (k + i) n)
plain_bit n a k i small =
    right_bit a k i ∙ elim (cases_lt (k + i) n) [
      | inl l ↦ ap (bit_at a) (let e : k + i ≡ min (k + i) n = omega arith in e)
      | inr g ↦ bit_at_above a n (k + i) small g
          ∙ sym (bit_at_above a n (min (k + i) n) small (omega arith))
    ]

-- one with it: the complement is shifted
signed_bit : (n : ℕ)
    → ((x i : ℕ) → x < 2 ^ suc n → i < suc n → bit_at (2 ^ suc n - suc x) i ≡ 1 - bit_at x i)
    → (a k i : ℕ) → 2 ^ n ≤ a → a < 2 ^ suc n → i < suc n
    → bit_at (2 ^ suc n - suc ((2 ^ suc n - suc a) / 2 ^ k)) i ≡ bit_at a (min (k + i) n)
signed_bit n flipped a k i from to inside =
    let m = 2 ^ suc n - suc a in
    let m_in : m < 2 ^ n = omega (arith, pow-add 2 n 1) in
    let q_in = div-le_self m (2 ^ k) in
    let back : 2 ^ suc n - suc m ≡ a = omega arith in
    let bit : (j : ℕ) → j < suc n → bit_at a j ≡ 1 - bit_at m j =
    λ j below. ap (λ t. bit_at t j) (sym back) ∙ flipped m j (omega arith) below in
    let position = min (k + i) n in
    flipped (m / 2 ^ k) i (omega arith) inside ∙ ap (λ b. 1 - b) (plain_bit n m k i m_in)
    ∙ sym (bit position (omega arith))

-- the bits of what is shifted are those from further up, from the sign at most
shifted_bit : (w : Width) (a k i : ℕ) → a < 2 ^ width_bits w → i < width_bits w
    → bit_at (unsigned w (int_shr (signed w a) k)) i ≡ bit_at a (min (k + i) (width_bits w - 1))
shifted_bit Low32 a k i a_in i_in =
    elim (cases_lt a (2 ^ 31)) [
      | inl lt ↦ rw (lt-ltb a (2 ^ 31) lt) (plain_bit 31 a k i lt)
      | inr ge ↦ rw (le-ltb a (2 ^ 31) ge) (signed_bit 31 flipped a k i ge a_in i_in)
    ]
  where
    flipped : (x i : ℕ) → x < 2 ^ 32 → i < 32 → bit_at (2 ^ 32 - suc x) i ≡ 1 - bit_at x i
    flipped x i x_in i_in =
        ap (λ t. bit_at t i) (let e : 2 ^ 32 - suc x ≡ bit_not w32 x = omega arith in e)
        ∙ bit_at_not w32 x i x_in i_in
shifted_bit Full64 a k i a_in i_in =
    elim (cases_lt a (2 ^ 63)) [
      | inl lt ↦ rw (lt-ltb a (2 ^ 63) lt) (plain_bit 63 a k i lt)
      | inr ge ↦ rw (le-ltb a (2 ^ 63) ge) (signed_bit 63 flipped a k i ge a_in i_in)
    ]
  where
    flipped : (x i : ℕ) → x < 2 ^ 64 → i < 64 → bit_at (2 ^ 64 - suc x) i ≡ 1 - bit_at x i
    flipped x i x_in i_in =
        ap (λ t. bit_at t i) (let e : 2 ^ 64 - suc x ≡ bit_not w64 x = omega arith in e)
        ∙ bit_at_not w64 x i x_in i_in

-- the bit at a position comes from further up, from the sign at most
pub shift_copies : (w : Width) (y : ℕ)
    → Copies (width_bits w) (λ i. min (shift w (low w y) + i) (width_bits w - 1))
    (λ x. alu Arsh w x y)
unfolding alu
shift_copies w y = record {
  fits = width_fits w;
  below = λ x. alu_below Arsh w x y;
  inside = λ i i_in. let m = width_most w in let s = shift_below w (low w y) in omega arith;
  bit = bits w;
}
  where
    bits : (w : Width) (x i : ℕ) → i < width_bits w
        → bit_at (alu Arsh w x y) i ≡ bit_at x (min (shift w (low w y) + i) (width_bits w - 1))
    bits Low32 x i i_in =
        let k = shift Low32 (low Low32 y) in
        shifted_bit Low32 (x % 2 ^ 32) k i (low_below Low32 x) i_in
        ∙ low_bit x 32 (min (k + i) 31) (omega arith)
    bits Full64 x i i_in =
        let k = shift Full64 (low Full64 y) in
        shifted_bit Full64 (x % 2 ^ 64) k i (low_below Full64 x) i_in
        ∙ low_bit x 64 (min (k + i) 63) (omega arith)

-- ---- sign extensions

-- a number of j + 1 bits with ones before it where its highest bit is set
extended_bit : (j n x i r : ℕ) → j < n → i < n
    → (2 ^ j ≤ x % 2 ^ suc j → bit_at (x % 2 ^ suc j) j ≡ 1)
    → ((x % 2 ^ suc j < 2 ^ j) × (r ≡ x % 2 ^ suc j))
    ⊎ ((2 ^ j ≤ x % 2 ^ suc j) × (r ≡ x % 2 ^ suc j + (2 ^ n - 2 ^ suc j)))
    → bit_at r i ≡ bit_at x (min i j)
extended_bit j n x i r j_in i_in top cases =
    let y = x % 2 ^ suc j in
    let y_in = mod_below x (2 ^ suc j) (pow_pos (suc j)) in
    let whole = low_bit x (suc j) (min i j) (omega arith) in
    elim cases [
      | inl p ↦
          ap (λ t. bit_at t i) p.1 ∙ elim (cases_lt i j) [
            | inl lt ↦ ap (bit_at y) (let e : i ≡ min i j = omega arith in e) ∙ whole
            | inr ge ↦
                bit_at_above y j i p.0 ge ∙ sym (bit_at_above y j (min i j) p.0 (omega arith))
                ∙ whole
          ]
      | inr p ↦
          let a = 2 ^ (n - suc j) - 1 in
          let some = pow_pos (n - suc j) in
          let parts : 2 ^ n ≡ 2 ^ (n - suc j) * 2 ^ suc j =
          ap (λ e. 2 ^ e) (let s : n ≡ n - suc j + suc j = omega arith in s)
          ∙ pow-add 2 (n - suc j) (suc j) in
          let e : y + (2 ^ n - 2 ^ suc j) ≡ a * 2 ^ suc j + y =
          joined (2 ^ (n - suc j)) (2 ^ suc j) y (2 ^ n) some parts in
          ap (λ t. bit_at t i) (p.1 ∙ e) ∙ elim (cases_lt i (suc j)) [
            | inl lt ↦
                bit_at_cat_low a (suc j) y i lt
                ∙ ap (bit_at y) (let e : i ≡ min i j = omega arith in e) ∙ whole
            | inr ge ↦
                bit_at_cat_high a (suc j) y i y_in ge
                ∙ bit_at_ones (n - suc j) (i - suc j) (omega arith)
                ∙ sym (top p.0) ∙ ap (bit_at y) (let e : j ≡ min i j = omega arith in e) ∙ whole
          ]
    ]
  where
    joined : (P K y N : ℕ) → 0 < P → N ≡ P * K → y + (N - K) ≡ (P - 1) * K + y
    joined zero K y N some e = elim some [ ]
    joined (suc d) K y N some e =
        let s : suc d * K ≡ d * K + K = omega arith in
        let t : (suc d - 1) * K ≡ d * K =
        ap (λ p. p * K) (let u : suc d - 1 ≡ d = omega arith in u) in
        omega arith

extended_bits : (e : Extension) (x i : ℕ) → i < width_bits (extension_width e)
    → bit_at (sign_extended e x) i ≡ bit_at x (min i (extension_bits e - 1))
extended_bits Low8 x i i_in =
    extended_bit 7 32 x i (sign_extended Low8 x) (omega arith) i_in (λ g. omega arith)
    (sign_extended_cases Low8 x (2 ^ 7) refl)
extended_bits Low16 x i i_in =
    extended_bit 15 32 x i (sign_extended Low16 x) (omega arith) i_in (λ g. omega arith)
    (sign_extended_cases Low16 x (2 ^ 15) refl)
extended_bits Full8 x i i_in =
    extended_bit 7 64 x i (sign_extended Full8 x) (omega arith) i_in (λ g. omega arith)
    (sign_extended_cases Full8 x (2 ^ 7) refl)
extended_bits Full16 x i i_in =
    extended_bit 15 64 x i (sign_extended Full16 x) (omega arith) i_in (λ g. omega arith)
    (sign_extended_cases Full16 x (2 ^ 15) refl)
extended_bits Full32 x i i_in =
    extended_bit 31 64 x i (sign_extended Full32 x) (omega arith) i_in (λ g. omega arith)
    (sign_extended_cases Full32 x (2 ^ 31) refl)

extension_most : (e : Extension) → extension_bits e ≤ 64
extension_most Low8 = omega arith
extension_most Low16 = omega arith
extension_most Full8 = omega arith
extension_most Full16 = omega arith
extension_most Full32 = omega arith

-- the bits above those read are all the sign
pub extension_copies : (e : Extension)
    → Copies (width_bits (extension_width e)) (λ i. min i (extension_bits e - 1)) (sign_extended e)
extension_copies e = record {
  fits = width_fits (extension_width e);
  below = sign_extended_below e;
  inside = λ i i_in. let m = extension_most e in omega arith;
  bit = extended_bits e;
}

pub extended_zero : (e : Extension) → sign_extended e 0 ≡ 0
extended_zero Low8 = sign_extended-small Low8 0 (2 ^ 7) refl (omega arith)
extended_zero Low16 = sign_extended-small Low16 0 (2 ^ 15) refl (omega arith)
extended_zero Full8 = sign_extended-small Full8 0 (2 ^ 7) refl (omega arith)
extended_zero Full16 = sign_extended-small Full16 0 (2 ^ 15) refl (omega arith)
extended_zero Full32 = sign_extended-small Full32 0 (2 ^ 31) refl (omega arith)
