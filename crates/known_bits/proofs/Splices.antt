-- Numbers in which some bits are replaced by those of another number, bit by bit.
use Rattle.known_bits.proofs.Common.{◌≡◌, ℕ, ◌+◌, ◌-◌, ◌*◌, ◌/◌, ◌%◌, ◌^◌, ◌<◌, ◌≤◌, w64, sym, ap, ◌∙◌, inl, inr, arith, bit_and, bit_or, bit_at, bit_not, mod-eq_of_lt, div-mul-le_self, pow_mono, or_lt, and_le_l, pow_pos, pow-add, mod_below, div_below, mul-le, le-div, div-mul-add, shr_split, bit_at_and, bit_at_or, bit_at_not, bit_at-lt, bit_at_cat_low, bit_at_cat_high, bit_at_mask_inside, bit_at_mask_below, bit_at_mask_above, same_from_bits_below, cases_lt, IsMember, spliced}
use Rattle.known_bits.proofs.Members.{Apart, Between, bits_between, bits_apart, apart_from_bits, member_from_bits}
use Rattle.known_bits.proofs.Carry.{low_bit}
use Rattle.known_bits.proofs.Shift.{right_bit, shifted_high}

-- ---- the bits of the number

-- those below stay
pub spliced_below : (from count x y i : ℕ) → i < from
    → bit_at (spliced from count x y) i ≡ bit_at x i
spliced_below from count x y i h =
    bit_at_cat_low (x / 2 ^ (from + count) * 2 ^ count + y % 2 ^ count) from (x % 2 ^ from) i h
    ∙ low_bit x from i h

-- those there are the other's
pub spliced_there : (from count x y i : ℕ) → from ≤ i → i < from + count
    → bit_at (spliced from count x y) i ≡ bit_at y (i - from)
spliced_there from count x y i h to =
    bit_at_cat_high (x / 2 ^ (from + count) * 2 ^ count + y % 2 ^ count) from (x % 2 ^ from) i
    (mod_below x (2 ^ from) (pow_pos from)) h
    ∙ bit_at_cat_low (x / 2 ^ (from + count)) count (y % 2 ^ count) (i - from) (omega arith)
    ∙ low_bit y count (i - from) (omega arith)

-- those above stay
pub spliced_above : (from count x y i : ℕ) → from + count ≤ i
    → bit_at (spliced from count x y) i ≡ bit_at x i
spliced_above from count x y i h =
    let same : from + count + (i - from - count) ≡ i = omega arith in
    bit_at_cat_high (x / 2 ^ (from + count) * 2 ^ count + y % 2 ^ count) from (x % 2 ^ from) i
    (mod_below x (2 ^ from) (pow_pos from)) (omega arith)
    ∙ bit_at_cat_high (x / 2 ^ (from + count)) count (y % 2 ^ count) (i - from)
    (mod_below y (2 ^ count) (pow_pos count)) (omega arith)
    ∙ right_bit x (from + count) (i - from - count)
    ∙ ap (λ j. bit_at x j) same

-- ---- the whole number

-- a number of n bits before a number of k bits is a number of n + k bits
cat_below : (n k a b : ℕ) → a < 2 ^ n → b < 2 ^ k → a * 2 ^ k + b < 2 ^ (n + k)
cat_below n k a b ha hb =
    let p = pow-add 2 n k in
    let most = mul-le (a + 1) (2 ^ k) (2 ^ n) (2 ^ k) (omega arith) (omega arith) in
    omega arith

pub spliced-lt : (from count x y : ℕ) → from + count ≤ 64 → x < 2 ^ 64
    → spliced from count x y < 2 ^ 64
spliced-lt from count x y inside fits =
    let top = from + count in
    let p = pow-add 2 (64 - top) top in
    let whole : 2 ^ (64 - top + top) ≡ 2 ^ 64 =
    ap (λ n. 2 ^ n) (let s : 64 - top + top ≡ 64 = omega arith in s) in
    let high : x / 2 ^ top < 2 ^ (64 - top) =
    div_below x (2 ^ top) (2 ^ (64 - top)) (pow_pos top) (omega arith) in
    let middle =
    cat_below (64 - top) count (x / 2 ^ top) (y % 2 ^ count) high
    (mod_below y (2 ^ count) (pow_pos count)) in
    let all = cat_below (64 - top + count) from (x / 2 ^ top * 2 ^ count + y % 2 ^ count)
    (x % 2 ^ from) middle (mod_below x (2 ^ from) (pow_pos from)) in
    let same : 2 ^ (64 - top + count + from) ≡ 2 ^ 64 =
    ap (λ n. 2 ^ n) (let s : 64 - top + count + from ≡ 64 = omega arith in s) in
    omega arith

-- the number that has those bits and no others: the bits that are written
pub written_there : (from count ones : ℕ) → ones + 1 ≡ 2 ^ count → from + count ≤ 64
    → (ones * 2 ^ from) % 2 ^ 64 ≡ 2 ^ (from + count) - 2 ^ from
written_there from count ones h inside =
    let p : 2 ^ (from + count) ≡ 2 ^ from * 2 ^ count = pow-add 2 from count in
    let e : (ones + 1) * 2 ^ from ≡ 2 ^ count * 2 ^ from = ap (λ n. n * 2 ^ from) h in
    let most : 2 ^ (from + count) ≤ 2 ^ 64 = pow_mono inside in
    let some = pow_pos from in
    mod-eq_of_lt {n = ones * 2 ^ from} {m = 2 ^ 64} (omega arith) ∙ omega arith

-- with these bits, what `spliced` computes
pub spliced-bits : (from count x y b : ℕ) → from < 64 → from + count ≤ 64 → x < 2 ^ 64
    → b ≡ 2 ^ (from + count) - 2 ^ from → b < 2 ^ 64
    → bit_or (bit_and x (bit_not w64 b)) (bit_and ((y * 2 ^ from) % 2 ^ 64) b)
    ≡ spliced from count x y
spliced-bits from count x y b start inside fits is small =
    let kept = bit_and x (bit_not w64 b) in
    let there = bit_and ((y * 2 ^ from) % 2 ^ 64) b in
    same_from_bits_below 64 _ _
    (or_lt 64 kept there (let le = and_le_l x (bit_not w64 b) in omega arith)
    (let le = and_le_l ((y * 2 ^ from) % 2 ^ 64) b in omega arith))
    (spliced-lt from count x y inside fits)
    (λ i within.
    let both = bit_at_or kept there i in
    let left = bit_at_and x (bit_not w64 b) i in
    let right = bit_at_and ((y * 2 ^ from) % 2 ^ 64) b i in
    let not = bit_at_not w64 b i small within in
    let written = ap (λ n. bit_at n i) is in
    let one = bit_at-lt x i in
    let other = bit_at-lt ((y * 2 ^ from) % 2 ^ 64) i in
    elim (cases_lt i from) [
      | inl below ↦
          let none = bit_at_mask_below from (from + count) i below in
          let stays = spliced_below from count x y i below in
          omega arith
      | inr after ↦ elim (cases_lt i (from + count)) [
        | inl before ↦
            let some = bit_at_mask_inside from (from + count) i (omega arith) before in
            let new = spliced_there from count x y i (omega arith) before in
            let shifted = shifted_high y from i within (omega arith) in
            omega arith
        | inr above ↦
            let none = bit_at_mask_above from (from + count) i (omega arith) in
            let stays = spliced_above from count x y i (omega arith) in
            omega arith
      ]
    ])

-- ---- sets

pub spliced_apart : {v m w n : ℕ} → Apart v m → Apart w n → (from count : ℕ) → from + count ≤ 64
    → Apart (spliced from count v w) (spliced from count m n)
spliced_apart {v} {m} {w} {n} a b from count inside =
    apart_from_bits (spliced-lt from count v w inside a.value_in)
    (spliced-lt from count m n inside a.mask_in)
    (λ i within. elim (cases_lt i from) [
      | inl below ↦
          let ev = spliced_below from count v w i below in
          let em = spliced_below from count m n i below in
          let k = bits_apart a i in omega arith
      | inr after ↦ elim (cases_lt i (from + count)) [
        | inl before ↦
            let ev = spliced_there from count v w i (omega arith) before in
            let em = spliced_there from count m n i (omega arith) before in
            let k = bits_apart b (i - from) in omega arith
        | inr above ↦
            let ev = spliced_above from count v w i (omega arith) in
            let em = spliced_above from count m n i (omega arith) in
            let k = bits_apart a i in omega arith
      ]
    ])

spliced_between : {v m w n x y : ℕ} → Apart v m → Apart w n → IsMember v m x → IsMember w n y
    → (from count i : ℕ) → i < 64
    → Between (bit_at (spliced from count v w) i) (bit_at (spliced from count m n) i)
    (bit_at (spliced from count x y) i)
spliced_between {v} {m} {w} {n} {x} {y} a b hx hy from count i within =
    elim (cases_lt i from) [
      | inl below ↦
          let ev = spliced_below from count v w i below in
          let em = spliced_below from count m n i below in
          let ex = spliced_below from count x y i below in
          let k = bits_between a hx i within in
          record { apart = omega arith; least = omega arith; most = omega arith }
      | inr after ↦ elim (cases_lt i (from + count)) [
        | inl before ↦
            let ev = spliced_there from count v w i (omega arith) before in
            let em = spliced_there from count m n i (omega arith) before in
            let ex = spliced_there from count x y i (omega arith) before in
            let k = bits_between b hy (i - from) (omega arith) in
            record { apart = omega arith; least = omega arith; most = omega arith }
        | inr above ↦
            let ev = spliced_above from count v w i (omega arith) in
            let em = spliced_above from count m n i (omega arith) in
            let ex = spliced_above from count x y i (omega arith) in
            let k = bits_between a hx i within in
            record { apart = omega arith; least = omega arith; most = omega arith }
      ]
    ]

pub spliced_contains : {v m w n : ℕ} → Apart v m → Apart w n → (from count x y : ℕ)
    → from + count ≤ 64 → IsMember v m x → IsMember w n y
    → IsMember (spliced from count v w) (spliced from count m n) (spliced from count x y)
spliced_contains a b from count x y inside hx hy =
    let k = spliced_apart a b from count inside in
    member_from_bits k.value_in k.mask_in (spliced-lt from count x y inside hx.below)
    (λ i within. spliced_between a b hx hy from count i within)

-- ---- limits

high_mono : (a b m n q : ℕ) → a ≤ b → m ≤ n → a * q + m ≤ b * q + n
high_mono a b m n q h k = let l = mul-le a q b q h (omega arith) in omega arith

div_mono : (x y k : ℕ) → x ≤ y → x / 2 ^ k ≤ y / 2 ^ k
div_mono x y k h =
    le-div (x / 2 ^ k) y (2 ^ k) (pow_pos k) (let l = div-mul-le_self x (2 ^ k) in omega arith)

-- the bits from there on
spliced_high : (from count x y : ℕ) → y < 2 ^ count
    → spliced from count x y / 2 ^ from ≡ x / 2 ^ (from + count) * 2 ^ count + y
spliced_high from count x y fits =
    div-mul-add (x / 2 ^ (from + count) * 2 ^ count + y % 2 ^ count) (2 ^ from) (x % 2 ^ from)
    (mod_below x (2 ^ from) (pow_pos from))
    ∙ ap (λ n. x / 2 ^ (from + count) * 2 ^ count + n) (mod-eq_of_lt {n = y} {m = 2 ^ count} fits)

-- other bits, from bit 0 on
spliced_from_zero : (k s y : ℕ) → y < 2 ^ k → spliced 0 k s y ≡ s / 2 ^ k * 2 ^ k + y
spliced_from_zero k s y fits =
    let same : 0 + k ≡ k = omega arith in
    ap (λ j. (s / 2 ^ j * 2 ^ k + y % 2 ^ k) * 1 + s % 1) same
    ∙ ap (λ n. (s / 2 ^ k * 2 ^ k + n) * 1 + s % 1) (mod-eq_of_lt {n = y} {m = 2 ^ k} fits)
    ∙ omega arith

-- other bits of greater numbers are greater, but for the bits below them
spliced_mono : (from count x y v w : ℕ) → x ≤ v → y ≤ w → w < 2 ^ count
    → spliced from count x y / 2 ^ from * 2 ^ from ≤ spliced from count v w / 2 ^ from * 2 ^ from
spliced_mono from count x y v w h k fits =
    let less = spliced_high from count x y (omega arith) in
    let more = spliced_high from count v w fits in
    let high = high_mono (x / 2 ^ (from + count)) (v / 2 ^ (from + count)) y w (2 ^ count)
    (div_mono x v (from + count) h) k in
    mul-le (spliced from count x y / 2 ^ from) (2 ^ from) (spliced from count v w / 2 ^ from)
    (2 ^ from) (omega arith) (omega arith)

-- only the low bits of what is written count
spliced-low_bits : (from count x y : ℕ)
    → spliced from count x y ≡ spliced from count x (y % 2 ^ count)
spliced-low_bits from count x y =
    let small = mod-eq_of_lt {n = y % 2 ^ count} {m = 2 ^ count}
    (mod_below y (2 ^ count) (pow_pos count)) in
    ap (λ n. (x / 2 ^ (from + count) * 2 ^ count + n) * 2 ^ from + x % 2 ^ from) (sym small)

le_least : {a b c d e : ℕ} → a ≡ b + 0 → b ≤ c → c ≤ d → e ≡ d → a ≤ e
le_least h k l m = omega arith

le_greatest : {a b r d e f : ℕ} (p : ℕ) → e ≡ d → b + r ≡ d → r < p → b ≤ a → f ≡ a + (p - 1) → e ≤ f
le_greatest p h k l m n = omega arith

le_wider : {a b c d : ℕ} (l m : ℕ) → a ≡ b + l → b ≤ c → d ≡ c + m → l ≤ m → a ≤ d
le_wider l m h k n o = omega arith

pub spliced_least : (from count x y v w : ℕ) → x ≤ v → y ≤ w % 2 ^ count
    → spliced 0 from (spliced from count x y) 0 ≤ spliced from count v w
spliced_least from count x y v w h k =
    le_least (spliced_from_zero from (spliced from count x y) 0 (pow_pos from))
    (spliced_mono from count x y v (w % 2 ^ count) h k (mod_below w (2 ^ count) (pow_pos count)))
    (div-mul-le_self (spliced from count v (w % 2 ^ count)) (2 ^ from))
    (spliced-low_bits from count v w)

pub spliced_greatest : (from count x y v w : ℕ) → x ≤ v → y % 2 ^ count ≤ w → w < 2 ^ count
    → spliced from count x y ≤ spliced 0 from (spliced from count v w) (2 ^ from - 1)
spliced_greatest from count x y v w h k fits =
    let some = pow_pos from in
    le_greatest (2 ^ from) (spliced-low_bits from count x y)
    (shr_split (spliced from count x (y % 2 ^ count)) from)
    (mod_below (spliced from count x (y % 2 ^ count)) (2 ^ from) some)
    (spliced_mono from count x (y % 2 ^ count) v w h k fits)
    (spliced_from_zero from (spliced from count v w) (2 ^ from - 1) (omega arith))

-- wider limits stay wider with their bits replaced
pub spliced_wider : (from count x y v w l m : ℕ) → x ≤ v → y ≤ w → w < 2 ^ count → l < 2 ^ from
    → m < 2 ^ from → l ≤ m
    → spliced 0 from (spliced from count x y) l ≤ spliced 0 from (spliced from count v w) m
spliced_wider from count x y v w l m h k fits ll mm lm =
    le_wider l m (spliced_from_zero from (spliced from count x y) l ll)
    (spliced_mono from count x y v w h k fits)
    (spliced_from_zero from (spliced from count v w) m mm) lm

-- ---- low halves

-- one of which all bits are written
pub spliced_new_low : (x y : ℕ) → spliced 0 32 x y % 2 ^ 32 ≡ y % 2 ^ 32
spliced_new_low x y =
    same_from_bits_below 32 _ _ (mod_below (spliced 0 32 x y) (2 ^ 32) (pow_pos 32))
    (mod_below y (2 ^ 32) (pow_pos 32))
    (λ i below.
    let same : i - 0 ≡ i = omega arith in
    low_bit (spliced 0 32 x y) 32 i below ∙ spliced_there 0 32 x y i (omega arith) (omega arith)
    ∙ ap (λ j. bit_at y j) same
    ∙ sym (low_bit y 32 i below))

-- and one of which none is
pub spliced_old_low : (from count x y : ℕ) → 32 ≤ from
    → spliced from count x y % 2 ^ 32 ≡ x % 2 ^ 32
spliced_old_low from count x y above =
    same_from_bits_below 32 _ _ (mod_below (spliced from count x y) (2 ^ 32) (pow_pos 32))
    (mod_below x (2 ^ 32) (pow_pos 32))
    (λ i below. low_bit (spliced from count x y) 32 i below
    ∙ spliced_below from count x y i (omega arith) ∙ sym (low_bit x 32 i below))
