-- The members that a value and a mask have, as in Linux's `struct tnum`.
use Rattle.std.specs.Prelude.{ℕ, ◌≡◌, ◌^◌, ◌<◌, bit_and}
use Rattle.std.specs.Int.{w64, bit_not, bit_at}

-- x has the value's bits wherever the mask has none
pub record IsMember (value mask x : ℕ) : Type 0 where
  pub below : x < 2 ^ 64
  pub known : bit_and x (bit_not w64 mask) ≡ value

-- bit i of the result of f on some members of both is `bit`
pub record Occurs (av am bv bm : ℕ) (f : ℕ → ℕ → ℕ) (i bit : ℕ) : Type 0 where
  pub x : ℕ
  pub y : ℕ
  pub first : IsMember av am x
  pub second : IsMember bv bm y
  pub is : bit_at (f x y) i ≡ bit
