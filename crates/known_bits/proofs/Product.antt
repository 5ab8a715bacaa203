-- A product by its terms: each term, the product before the first one and after all of them.
use Rattle.known_bits.proofs.Common.{◌≡◌, ℕ, ◌*◌, ◌%◌, ◌^◌, ◌<◌, ap, ◌∙◌, arith, bit_or, or_lt, mod-eq_of_lt, bit_at_or, bit_at-zero, IsMember}
use Rattle.known_bits.proofs.Members.{Apart, bits_between, member_from_bits}

pub or_zero_contains : {v m : ℕ} → Apart v m → (x : ℕ) → IsMember v m x → IsMember 0 (bit_or v m) x
or_zero_contains {v} {m} k x h =
    member_from_bits (omega arith) (or_lt 64 v m k.value_in k.mask_in) h.below
    (λ i i_in. let b = bits_between k h i i_in in
    let e = bit_at_or v m i in
    let z = bit_at-zero i in
    record { apart = omega arith; least = omega arith; most = omega arith })

pub term_one : (b y p : ℕ) → b ≡ 1 → (b * y * p) % 2 ^ 64 ≡ (y * p) % 2 ^ 64
term_one b y p e =
    ap (λ n. (n * y * p) % 2 ^ 64) e
    ∙ ap (λ n. (n * p) % 2 ^ 64) (let s : 1 * y ≡ y = omega arith in s)

pub term_zero : (b y p : ℕ) → b ≡ 0 → (b * y * p) % 2 ^ 64 ≡ 0
term_zero b y p e = ap (λ n. (n * y * p) % 2 ^ 64) e ∙ omega arith

pub product_none : (x y : ℕ) → (x % 2 ^ 0 * y) % 2 ^ 64 ≡ 0
product_none x y = ap (λ n. (n * y) % 2 ^ 64) (let s : x % 1 ≡ 0 = omega arith in s) ∙ omega arith

pub product_all : (x y : ℕ) → x < 2 ^ 64 → (x % 2 ^ 64 * y) % 2 ^ 64 ≡ (x * y) % 2 ^ 64
product_all x y h = ap (λ n. (n * y) % 2 ^ 64) (mod-eq_of_lt h)
