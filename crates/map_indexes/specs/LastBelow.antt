-- The greatest number below another that passes a test, and how many do.
use Rattle.std.proofs.Common.{ℕ, zero, suc, ◌+◌, Bool, cond, Option, Some, None}

abbrev pub last_below : (ℕ → Bool) → ℕ → Option ℕ
last_below test zero = None
last_below test (suc m) = cond (test m) (Some m) (last_below test m)

abbrev pub count_below : (ℕ → Bool) → ℕ → ℕ
count_below test zero = 0
count_below test (suc m) = cond (test m) (count_below test m + 1) (count_below test m)
