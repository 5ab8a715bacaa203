-- Laws of the definitions in specs/Lexing: where a text begins with no lexeme.
use Rattle.assembler.proofs.Common.{◌≡◌, ℕ, zero, suc, ◌-◌, ◌≤◌, ◌==◌, ◌&&◌, Bool, true, false, if◌then◌else◌, List, length, drop, arith, ne_eqb, slice_index, prefix_len, is_digit, length-drop, prefix_len-le-length, number_end, number_end_at, number_end_from, unknown_at}

either : (b : Bool) (m n all : ℕ) → m ≤ all → n ≤ all → (if b then m else n) ≤ all
either true m n all h g = h
either false m n all h g = g

number_end-within : (skip n all : ℕ) → 1 ≤ all → n ≤ all - skip → number_end skip n ≤ all
number_end-within skip zero all some h = some
number_end-within skip (suc n) all some h =
    let t : (suc n == 0) ≡ false = ne_eqb (suc n) 0 (λ e. omega (arith, e)) in
    rw t (omega (arith, h))

unknown_at-digits : (base skip : ℕ) (bs : List ℕ) → 1 ≤ length bs
    → number_end_at base skip bs ≤ length bs
unknown_at-digits base skip bs some =
    let count : prefix_len (λ c. is_digit c base) (drop skip bs) ≤ length (drop skip bs) =
    prefix_len-le-length (λ c. is_digit c base) (drop skip bs) in
    let long : length (drop skip bs) ≡ length bs - skip = length-drop skip bs in
    number_end-within skip (prefix_len (λ c. is_digit c base) (drop skip bs)) (length bs) some
    (omega (arith, count, long))

-- where a text begins with no lexeme, the offset that is named is at most the text's length
pub unknown_at-within : (bs : List ℕ) → 1 ≤ length bs → unknown_at bs ≤ length bs
unknown_at-within bs some =
    either (is_digit (slice_index bs 0) 10) (number_end_from bs) 0 (length bs)
    (either ((slice_index bs 0 == 48) && (slice_index bs 1 == 120)) (number_end_at 16 2 bs)
    (number_end_at 10 0 bs) (length bs) (unknown_at-digits 16 2 bs some)
    (unknown_at-digits 10 0 bs some))
    (omega arith)
