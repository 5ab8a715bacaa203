-- What an optional number is known to be.
use Rattle.std.proofs.Common.{ℕ, ◌≡◌, Option, Some, None, refl, IfSome}

pub if_some : (o : Option ℕ) (P : ℕ → Type 0) → ((n : ℕ) → o ≡ Some n → P n) → IfSome o P
if_some None P h = tt
if_some (Some n) P h = h n refl
