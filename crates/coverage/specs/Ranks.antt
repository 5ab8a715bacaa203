-- The elements of a list by their ranks, from the least on.
use Rattle.std.specs.Prelude.{◌≡◌, ℕ, ◌+◌, ◌-◌, ◌/◌, ◌<◌, ◌≤◌, ◌==◌, Bool, nat_lt, nat_le, List, length, count_by}
use Rattle.coverage.specs.declared.ranks.StepNumbers.{StepNumbers}

-- the number is that
abbrev pub is_number : ℕ → ℕ → Bool
is_number n m = m == n

-- the number would have this index if the list were sorted: at most so many are less, and more than
-- so many are not greater
abbrev pub HasRank : List ℕ → ℕ → ℕ → Type 0
HasRank xs rank n = (count_by (λ x. nat_lt x n) xs ≤ rank) × (rank < count_by (λ x. nat_le x n) xs)

-- the least, the median and the greatest of some numbers; of two in the middle the lesser one
pub record AreStepNumbers (xs : List ℕ) (found : StepNumbers) : Type 0 where
  pub some : 0 < length xs
  pub least : HasRank xs 0 found.least
  pub median : HasRank xs ((length xs - 1) / 2) found.median
  pub greatest : HasRank xs (length xs - 1) found.greatest
