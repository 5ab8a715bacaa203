-- Laws of little-endian numbers in lists of bytes: read and written again, the same bytes.
use Rattle.std.proofs.Common.{◌≡◌, ℕ, zero, suc, ◌+◌, ◌*◌, ◌/◌, ◌%◌, ◌^◌, ◌≤◌, List, length, take, drop, slice_index, refl, ap, sym, ◌∙◌, arith, drop-cons, inl, inr}
use Rattle.isa_model.proofs.Common.{cases_lt, get_or-drop, get_or-take, get_or_past, length-take, div-div-eq-div-mul, pow-succ', byte_at, bytes_low_first, little_from, little_bytes}
use Rattle.isa_model.specs.Code.EachByte.{EachByte}

pub EachByte-drop : (n : ℕ) (xs : List ℕ) → EachByte xs → EachByte (drop n xs)
EachByte-drop n xs h j = rw get_or-drop (h (n + j))

pub EachByte-take : (n : ℕ) (xs : List ℕ) → EachByte xs → EachByte (take n xs)
EachByte-take n xs h j =
    elim (cases_lt j n) [
      | inl lt ↦ rw (get_or-take n xs j 0 lt) (h j)
      | inr le ↦ rw (get_or_past (take n xs) j 0 (omega (arith, length-take n xs))) (omega arith)
    ]

-- the next byte of a number is a byte of the rest
byte_at-suc : (i n : ℕ) → byte_at (suc i) n ≡ byte_at i (n / 256)
byte_at-suc zero n = refl
byte_at-suc (suc i) n = ap (λ x. x % 256)
    (ap (λ x. n / x) (pow-succ' 256 (suc i)) ∙ sym (div-div-eq-div-mul n 256 (256 ^ suc i)))

-- the bytes of a number from the next one on are those of the rest
pub bytes_low_first-suc : (i k n : ℕ) → bytes_low_first (suc i) k n ≡ bytes_low_first i k (n / 256)
bytes_low_first-suc i zero n = refl
bytes_low_first-suc i (suc k) n = rw (byte_at-suc i n, bytes_low_first-suc (suc i) k n) refl

-- a number that was read from n bytes of a list has those bytes
pub little_bytes-little_from : (n i : ℕ) (xs : List ℕ) → EachByte xs → i + n ≤ length xs
    → little_bytes n (little_from i n xs) ≡ take n (drop i xs)
little_bytes-little_from zero i xs small fits = refl
little_bytes-little_from (suc n) i xs small fits =
    let b = slice_index xs i in
    let rest = little_from (suc i) n xs in
    let low : (b + 256 * rest) % 256 ≡ b = omega (arith, small i) in
    let high : (b + 256 * rest) / 256 ≡ rest = omega (arith, small i) in
    let more = little_bytes-little_from n (suc i) xs small (omega arith) in
    let split = drop-cons xs i 0 (omega arith) in
    rw (low, bytes_low_first-suc 0 n (b + 256 * rest), high, more, split) refl

-- where the number after the first j bytes is
pub little_from-drop : (n i j : ℕ) (xs : List ℕ)
    → little_from i n (drop j xs) ≡ little_from (j + i) n xs
little_from-drop zero i j xs = refl
little_from-drop (suc n) i j xs =
    let byte = get_or-drop j xs i 0 in
    let index : j + suc i ≡ suc (j + i) = omega arith in
    let rest = little_from-drop n (suc i) j xs in
    rw (byte, rest, index) refl
