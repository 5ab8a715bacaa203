use Rattle.known_bits.proofs.Common.{ℕ, ◌*◌, ◌%◌, ◌^◌, Has}
use Rattle.known_bits.proofs.bits.Bits.sum_of_terms.Given as goal

-- the sum so far is the product of the low bits
abbrev pub invariant-loop-i : goal.invariant-loop-i
invariant-loop-i l =
    (x y : ℕ) → Has l.self x → Has l.other y → Has l.sum ((x % 2 ^ l.i * y) % 2 ^ 64)
