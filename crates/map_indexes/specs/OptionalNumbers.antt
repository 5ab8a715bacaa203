-- Optional numbers, each as one code.
use Rattle.std.specs.Prelude.{ℕ, zero, suc, Option, Some, None}

-- a code is one more than its number, or 0
abbrev pub number_of : ℕ → Option ℕ
number_of zero = None
number_of (suc n) = Some n
