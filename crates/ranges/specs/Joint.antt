-- For joint limits: the low halves of the numbers between two limits at 64 bits.
use Rattle.std.specs.Prelude.{ℕ, ◌≡◌, ◌≤◌, ◌%◌, ◌^◌}

-- the number of 32 bits is the low half of a number between the two
pub record IsHalfBetween (least greatest half : ℕ) : Type 0 where
  pub number : ℕ
  pub from : least ≤ number
  pub to : number ≤ greatest
  pub low : number % 2 ^ 32 ≡ half
