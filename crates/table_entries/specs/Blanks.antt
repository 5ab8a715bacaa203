-- Bytes of stack slots about which nothing is known.
use Rattle.std.specs.Prelude.{◌≡◌, ℕ, ◌<◌, ◌≤◌, List, length, slice_index}

-- the first n bytes are there, and are zeros
pub record AreZeros (n : ℕ) (bytes : List ℕ) : Type 0 where
  pub inside : n ≤ length bytes
  pub zeros : (k : ℕ) → k < n → slice_index bytes k ≡ 0
