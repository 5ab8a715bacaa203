-- Laws of numbers of 32 and 64 bits that code cites: their low bits, and their signed readings.
use Rattle.std.proofs.Common.{inl, inr, ◌≡◌, ℕ, ◌+◌, ◌*◌, ◌/◌, ◌^◌, ◌<◌, arith, w64}
use Rattle.std.specs.Int.{cast_signed}
use borrow.Author.Differences.{up, down}
use Rattle.std.proofs.Math.Nat.{mod-eq_of_lt}
use Rattle.std.proofs.lemmas.Bool.{cases_lt, lt-ltb, le-ltb}
use Rattle.isa_model.specs.declared.sizes.Width.{Width}
use Rattle.isa_model.specs.Code.Sizes.{width_bits}
use Rattle.isa_model.specs.Code.Numbers.{low}

-- ---- low bits

-- the low bits of a number of the width are the number
pub low_same : (w : Width) (n : ℕ) → n < 2 ^ width_bits w → low w n ≡ n
low_same w n h = mod-eq_of_lt h

-- ---- signed readings

-- one linear equation between a number and its signed reading: the quotient is the sign bit
pub signed_equation : (x : ℕ) → x < 2 ^ 64
    → up (cast_signed w64 x) + 2 ^ 64 * (x / 2 ^ 63) ≡ x + down (cast_signed w64 x)
signed_equation x h =
    elim (cases_lt x (2 ^ 63)) [
      | inl lt ↦ rw (lt-ltb x (2 ^ 63) lt) (omega arith)
      | inr ge ↦ rw (le-ltb x (2 ^ 63) ge) (omega arith)
    ]
