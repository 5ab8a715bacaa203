-- Bytes that are lent to be written.
use Rattle.std.specs.Prelude.{ℕ, List}
use Rattle.std.specs.Borrow.{MutBor, Fml, Lends, Array, u8, RattleType}

-- what the bytes' owner is once the borrow is over, by the bytes that were left
abbrev pub LendsBytes : (R : RattleType) → MutBor R.Denot → MutBor (List ℕ) → (List ℕ → R.Denot)
    → Fml
LendsBytes R s r after = Lends R (Array u8 0) s r after
