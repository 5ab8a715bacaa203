-- Low bytes in a byte order: each bit is one of the number's.
use Rattle.known_bits.proofs.Common.{◌≡◌, ℕ, zero, suc, ◌+◌, ◌-◌, ◌*◌, ◌/◌, ◌%◌, ◌^◌, ◌<◌, w16, w32, w64, refl, ap, ◌∙◌, inl, inr, arith, bit_at, swap_bytes, mod_below, pow_pos, bit_at_cat_low, bit_at_cat_high, cases_lt, span_bits, reordered, reordered_below, span_fits}
use Rattle.isa_model.specs.declared.sizes.ByteOrder.{ByteOrder}
use Rattle.isa_model.specs.declared.sizes.ByteOrder.TheVariants.{Little, Big, Swap}
use Rattle.isa_model.specs.declared.sizes.SwapWidth.{SwapWidth}
use Rattle.isa_model.specs.declared.sizes.SwapWidth.TheVariants.{B16, B32, B64}
use Rattle.known_bits.proofs.Carry.{low_bit}
use Rattle.known_bits.proofs.Copies.{Copies}
use Rattle.known_bits.proofs.Shift.{right_bit}

-- the low k bytes of n, the lowest of them highest
abbrev reversed : ℕ → ℕ → ℕ
reversed zero n = 0
reversed (suc k) n = reversed k n * 2 ^ 8 + n / 2 ^ (8 * k) % 2 ^ 8

-- the bit of n that becomes bit i
abbrev turned : ℕ → ℕ → ℕ
turned k i = 8 * (k - 1 - i / 8) + i % 8

byte_bit : (n k i : ℕ) → i < 8 → bit_at (n / 2 ^ (8 * k) % 2 ^ 8) i ≡ bit_at n (8 * k + i)
byte_bit n k i i_in = low_bit (n / 2 ^ (8 * k)) 8 i i_in ∙ right_bit n (8 * k) i

reversed_bit : (k n i : ℕ) → i < 8 * k → bit_at (reversed k n) i ≡ bit_at n (turned k i)
reversed_bit zero n i i_in = elim (let h : i < 0 = omega arith in h) [ ]
reversed_bit (suc k) n i i_in =
    let byte = n / 2 ^ (8 * k) % 2 ^ 8 in
    let byte_in = mod_below (n / 2 ^ (8 * k)) (2 ^ 8) (pow_pos 8) in
    elim (cases_lt i 8) [
      | inl lt ↦
          bit_at_cat_low (reversed k n) 8 byte i lt ∙ byte_bit n k i lt
          ∙ ap (bit_at n) (let e : 8 * k + i ≡ turned (suc k) i = omega arith in e)
      | inr ge ↦
          bit_at_cat_high (reversed k n) 8 byte i byte_in ge
          ∙ reversed_bit k n (i - 8) (omega arith)
          ∙ ap (bit_at n) (let e : turned k (i - 8) ≡ turned (suc k) i = omega arith in e)
    ]

-- what reverses bytes in std is that number
two_bytes : (a z b : ℕ) → a ≡ z → a * 256 + b ≡ (0 * 256 + z) * 256 + b
two_bytes a z b e = omega arith

four_bytes : (a z b c d : ℕ) → a ≡ z
    → a * 256 ^ 3 + b * 256 ^ 2 + c * 256 + d ≡ (((0 * 256 + z) * 256 + b) * 256 + c) * 256 + d
four_bytes a z b c d e = omega arith

eight_bytes : (a z b c d e f g h : ℕ) → a ≡ z
    → a * 256 ^ 7 + b * 256 ^ 6 + c * 256 ^ 5 + d * 256 ^ 4 + e * 256 ^ 3 + f * 256 ^ 2 + g * 256
    + h
    ≡ (((((((0 * 256 + z) * 256 + b) * 256 + c) * 256 + d) * 256 + e) * 256 + f) * 256 + g) * 256
    + h
eight_bytes a z b c d e f g h same = omega arith

lowest_byte : (n : ℕ) → n % 256 ≡ n / 1 % 256
lowest_byte n = omega arith

swapped_16 : (n : ℕ) → swap_bytes w16 n ≡ reversed 2 n
swapped_16 n = two_bytes (n % 256) (n / 1 % 256) (n / 256 % 256) (lowest_byte n)

swapped_32 : (n : ℕ) → swap_bytes w32 n ≡ reversed 4 n
swapped_32 n =
    four_bytes (n % 256) (n / 1 % 256) (n / 256 % 256) (n / 256 ^ 2 % 256) (n / 256 ^ 3 % 256)
    (lowest_byte n)

swapped_64 : (n : ℕ) → swap_bytes w64 n ≡ reversed 8 n
swapped_64 n =
    eight_bytes (n % 256) (n / 1 % 256) (n / 256 % 256) (n / 256 ^ 2 % 256) (n / 256 ^ 3 % 256)
    (n / 256 ^ 4 % 256) (n / 256 ^ 5 % 256) (n / 256 ^ 6 % 256) (n / 256 ^ 7 % 256) (lowest_byte n)

abbrev bytes_in : SwapWidth → ℕ
bytes_in B16 = 2
bytes_in B32 = 4
bytes_in B64 = 8

-- the bit of a number that becomes bit i
abbrev pub bit_from : ByteOrder → SwapWidth → ℕ → ℕ
bit_from Little span i = i
bit_from Big span i = turned (bytes_in span) i
bit_from Swap span i = turned (bytes_in span) i

swapped_bit : (span : SwapWidth) (x i : ℕ) → i < span_bits span
    → bit_at (reordered Swap span x) i ≡ bit_at x (turned (bytes_in span) i)
unfolding reordered
swapped_bit B16 x i i_in =
    ap (λ n. bit_at n i) (swapped_16 (x % 2 ^ 16)) ∙ reversed_bit 2 (x % 2 ^ 16) i i_in
    ∙ low_bit x 16 (turned 2 i) (omega arith)
swapped_bit B32 x i i_in =
    ap (λ n. bit_at n i) (swapped_32 (x % 2 ^ 32)) ∙ reversed_bit 4 (x % 2 ^ 32) i i_in
    ∙ low_bit x 32 (turned 4 i) (omega arith)
swapped_bit B64 x i i_in =
    ap (λ n. bit_at n i) (swapped_64 (x % 2 ^ 64)) ∙ reversed_bit 8 (x % 2 ^ 64) i i_in
    ∙ low_bit x 64 (turned 8 i) (omega arith)

reordered_bit : (order : ByteOrder) (span : SwapWidth) (x i : ℕ) → i < span_bits span
    → bit_at (reordered order span x) i ≡ bit_at x (bit_from order span i)
unfolding reordered
reordered_bit Little span x i i_in = low_bit x (span_bits span) i i_in
reordered_bit Big span x i i_in = swapped_bit span x i i_in
reordered_bit Swap span x i i_in = swapped_bit span x i i_in

turned_in : (span : SwapWidth) (i : ℕ) → i < span_bits span → turned (bytes_in span) i < 64
turned_in B16 i i_in = omega arith
turned_in B32 i i_in = omega arith
turned_in B64 i i_in = omega arith

span_in : (span : SwapWidth) (i : ℕ) → i < span_bits span → i < 64
span_in B16 i i_in = omega arith
span_in B32 i i_in = omega arith
span_in B64 i i_in = omega arith

bit_from_in : (order : ByteOrder) (span : SwapWidth) (i : ℕ) → i < span_bits span
    → bit_from order span i < 64
bit_from_in Little span i i_in = span_in span i i_in
bit_from_in Big span i i_in = turned_in span i i_in
bit_from_in Swap span i i_in = turned_in span i i_in

pub reorder_copies : (order : ByteOrder) (span : SwapWidth)
    → Copies (span_bits span) (bit_from order span) (reordered order span)
reorder_copies order span = record {
  fits = span_fits span;
  below = reordered_below order span;
  inside = bit_from_in order span;
  bit = reordered_bit order span;
}

pub reordered_zero : (order : ByteOrder) (span : SwapWidth) → reordered order span 0 ≡ 0
unfolding reordered
reordered_zero Little B16 = refl
reordered_zero Little B32 = refl
reordered_zero Little B64 = refl
reordered_zero Big B16 = refl
reordered_zero Big B32 = refl
reordered_zero Big B64 = refl
reordered_zero Swap B16 = refl
reordered_zero Swap B32 = refl
reordered_zero Swap B64 = refl
