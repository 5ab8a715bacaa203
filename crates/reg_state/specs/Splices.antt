-- What is known of a number in which some bits were written.
use Rattle.std.specs.Prelude.{◌≡◌, ℕ, ◌-◌, ◌^◌, ◌<◌, ◌≤◌}
use Rattle.std.specs.Int.{bit_at}
use Rattle.known_bits.specs.Bits.{spliced}
use Rattle.reg_state.specs.declared.scalars.Scalar.{Scalar}
use Rattle.reg_state.specs.Scalars.{Has}
use Rattle.reg_state.specs.Arithmetic.{IsFromTo, IsLowFromTo}

-- the numbers of a, in which `count` bits from bit `from` on are the low bits of numbers of b. Two
-- members of c differ only in bits that are unknown in a or b. If b's numbers fit these bits, the
-- limits are those of a and b put together so, with any bits below. A low half of which all bits
-- are written, or none, keeps its limits
pub record IsSpliced (from count : ℕ) (a b c : Scalar) : Type 0 where
  pub contains : (x y : ℕ) → Has a x → Has b y → Has c (spliced from count x y)
  pub bits : (i x y : ℕ) → i < 64 → Has c x → Has c y → bit_at x i ≡ 0 → bit_at y i ≡ 1
      → bit_at (spliced from count a.bits.mask b.bits.mask) i ≡ 1
  pub limits : b.range.wide.greatest < 2 ^ count
      → IsFromTo c (spliced 0 from (spliced from count a.range.wide.least b.range.wide.least) 0)
      (spliced 0 from (spliced from count a.range.wide.greatest b.range.wide.greatest)
      (2 ^ from - 1))
  pub low : (x y : ℕ) → Has a x → Has b y → from ≡ 0 → count ≡ 32
      → IsLowFromTo c b.range.low.least b.range.low.greatest
  pub kept : (x y : ℕ) → Has a x → Has b y → 32 ≤ from
      → IsLowFromTo c a.range.low.least a.range.low.greatest
