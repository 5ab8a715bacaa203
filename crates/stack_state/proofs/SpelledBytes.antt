-- The number that bytes spell, in parts; and eight bytes, some of which are those of another
-- number.
use Rattle.stack_state.proofs.Common.{◌≡◌, ℕ, zero, suc, ◌+◌, ◌-◌, ◌*◌, ◌/◌, ◌%◌, ◌^◌, ◌<◌, ◌≤◌, List, length, slice_index, sym, ap, ◌∙◌, arith, refl, add-zero, pow-add, mul-add-lt, mod-mul-add, div-mul-add, get_or_past, number_from, EachByte}
use Rattle.known_bits.specs.Bits.{spliced}

-- ---- the number of bytes, the lowest first

-- of the first n of them
abbrev spelled : (ℕ → ℕ) → ℕ → ℕ
spelled byte zero = 0
spelled byte (suc n) = byte n * 256 ^ n + spelled byte n

spelled-same : (f g : ℕ → ℕ) (n : ℕ) → ((i : ℕ) → i < n → f i ≡ g i) → spelled f n ≡ spelled g n
spelled-same f g zero h = refl
spelled-same f g (suc n) h =
    let front = spelled-same f g n (λ i below. h i (omega arith)) in
    let last = h n (omega arith) in
    cc

spelled-zero : (f : ℕ → ℕ) (n : ℕ) → ((i : ℕ) → f i ≡ 0) → spelled f n ≡ 0
spelled-zero f zero h = refl
spelled-zero f (suc n) h = rw (h n) (omega (arith, spelled-zero f n h))

spelled-below : (f : ℕ → ℕ) (n : ℕ) → ((i : ℕ) → f i < 256) → spelled f n < 256 ^ n
spelled-below f zero h = omega arith
spelled-below f (suc n) h =
    let sum = mul-add-lt (f n) (256 ^ n) (spelled f n) 256 (h n) (spelled-below f n h) in
    omega arith

-- those from an index on, and those before it
spelled-add : (f : ℕ → ℕ) (m n : ℕ)
    → spelled f (m + n) ≡ spelled (λ i. f (m + i)) n * 256 ^ m + spelled f m
spelled-add f m zero = omega (arith, ap (spelled f) (add-zero m))
spelled-add f m (suc n) =
    let front = spelled-add f m n in
    let power = pow-add 256 m n in
    let next : m + suc n ≡ suc (m + n) = omega arith in
    ap (spelled f) next ∙ grind arith

-- a byte is eight bits
bytes_bits : (n : ℕ) → 2 ^ (8 * n) ≡ 256 ^ n
bytes_bits zero = refl
bytes_bits (suc n) =
    let more : 8 * suc n ≡ 8 + 8 * n = omega arith in
    rw (more, pow-add 2 8 (8 * n)) (omega (arith, bytes_bits n))

-- ---- the number of a list

number_from-spelled : (bs : List ℕ) → number_from bs ≡ spelled (slice_index bs) 8
number_from-spelled bs = omega arith

-- of eight bytes in three parts
number_from-parts : (bs : List ℕ) (r n k : ℕ) → r + n + k ≡ 8
    → number_from bs ≡ spelled (λ i. slice_index bs (r + n + i)) k * 256 ^ (r + n)
    + (spelled (λ i. slice_index bs (r + i)) n * 256 ^ r + spelled (slice_index bs) r)
number_from-parts bs r n k all =
    let upper = spelled-add (slice_index bs) (r + n) k in
    let lower = spelled-add (slice_index bs) r n in
    number_from-spelled bs ∙ ap (spelled (slice_index bs)) (sym all) ∙ upper
    ∙ ap (λ front. spelled (λ i. slice_index bs (r + n + i)) k * 256 ^ (r + n) + front) lower

-- of n bytes
number_from-short : (ys : List ℕ) (n k : ℕ) → n + k ≡ 8 → length ys ≡ n
    → number_from ys ≡ spelled (slice_index ys) n
number_from-short ys n k all long =
    let upper = spelled-add (slice_index ys) n k in
    let past = λ (i : ℕ). get_or_past ys (n + i) 0 (omega arith) in
    let none = spelled-zero (λ i. slice_index ys (n + i)) k past in
    number_from-spelled ys ∙ ap (spelled (slice_index ys)) (sym all)
    ∙ omega (arith, rw none at upper)

-- n bytes spell a number of 8 * n bits
pub number_from-fits : (ys : List ℕ) (n : ℕ) → n ≤ 8 → length ys ≡ n → EachByte ys
    → number_from ys < 2 ^ (8 * n)
number_from-fits ys n few long each =
    rw (number_from-short ys n (8 - n) (omega arith) long, bytes_bits n)
    (spelled-below (slice_index ys) n each)

-- ---- bytes of another in them

-- n bytes of one list at the indexes from r on of another
pub record AreSpliced (r n : ℕ) (bs ys cs : List ℕ) : Type 0 where
  pub below : (i : ℕ) → i < r → slice_index cs i ≡ slice_index bs i
  pub there : (i : ℕ) → i < n → slice_index cs (r + i) ≡ slice_index ys i
  pub above : (i : ℕ) → r + n ≤ i → i < 8 → slice_index cs i ≡ slice_index bs i

-- the number that they spell
pub spliced_number : (r n k : ℕ) (bs ys cs : List ℕ) (y : ℕ) → r + n + k ≡ 8 → EachByte bs
    → length ys ≡ n → number_from ys ≡ y % 2 ^ (8 * n) → AreSpliced r n bs ys cs
    → number_from cs ≡ spliced (8 * r) (8 * n) (number_from bs) y
spliced_number r n k bs ys cs y all each long is h =
    let b = slice_index bs in
    let low : ℕ = spelled b r in
    let middle : ℕ = spelled (λ i. b (r + i)) n in
    let high : ℕ = spelled (λ i. b (r + n + i)) k in
    let new = number_from-parts cs r n k all in
    let same_low = spelled-same (slice_index cs) b r h.below in
    let same_middle = spelled-same (λ i. slice_index cs (r + i)) (slice_index ys) n h.there in
    let same_high = spelled-same (λ i. slice_index cs (r + n + i)) (λ i. b (r + n + i)) k
    (λ i below. h.above (r + n + i) (omega arith) (omega arith)) in
    let part = number_from-short ys n (r + k) (omega arith) long in
    let power = pow-add 256 r n in
    let low_fits : low < 256 ^ r = spelled-below b r each in
    let front_fits = mul-add-lt middle (256 ^ r) low (256 ^ n)
    (spelled-below (λ i. b (r + i)) n (λ i. each (r + i))) low_fits in
    let old : number_from bs ≡ high * 256 ^ (r + n) + (middle * 256 ^ r + low) =
    number_from-parts bs r n k all in
    let above : number_from bs / 256 ^ (r + n) ≡ high = ap (λ x. x / 256 ^ (r + n)) old
    ∙ div-mul-add high (256 ^ (r + n)) (middle * 256 ^ r + low) (omega arith) in
    let split : number_from bs ≡ (high * 256 ^ n + middle) * 256 ^ r + low = grind arith in
    let below : number_from bs % 256 ^ r ≡ low = ap (λ x. x % 256 ^ r) split
    ∙ mod-mul-add (high * 256 ^ n + middle) (256 ^ r) low low_fits in
    let bits : 8 * r + 8 * n ≡ 8 * (r + n) = omega arith in
    rw (← is, bits, bytes_bits (r + n), bytes_bits n, bytes_bits r, above, below)
    (rw (new, same_low, same_middle, same_high, part, power) (grind arith))
