-- Comparisons of natural numbers and of integers: what their results say.
use Rattle.std.specs.Prelude.{◌≡◌, ℕ, ◌<◌, ◌≤◌, nat_le, nat_lt, Bool, true, false, ℤ, ◌≤ℤ◌, ◌<ℤ◌, ◌⊎◌, refl}
use Rattle.std.proofs.Common.{inl, inr, arith}
use Rattle.std.proofs.lemmas.Int.{by_lt_z, ints}

le-is : (a b : ℕ) → nat_le a b ≡ true → a ≤ b
le-is a b e = grind arith

le-not : (a b : ℕ) → nat_le a b ≡ false → a ≤ b → ⊥
le-not a b e le = grind arith

lt-is : (a b : ℕ) → nat_lt a b ≡ true → a < b
lt-is a b e = grind arith

lt-not : (a b : ℕ) → nat_lt a b ≡ false → a < b → ⊥
lt-not a b e le = grind arith

z-not : (a b : ℤ) → b <ℤ a → a ≤ℤ b → ⊥
z-not a b less le = omega (arith, ints)

pub decide : (a b : ℕ) → (a ≤ b) ⊎ (a ≤ b → ⊥)
decide a b = of (nat_le a b) refl where
  of : (t : Bool) → nat_le a b ≡ t → (a ≤ b) ⊎ (a ≤ b → ⊥)
  of true e = inl (le-is a b e)
  of false e = inr (le-not a b e)

pub decide_less : (a b : ℕ) → (a < b) ⊎ (a < b → ⊥)
decide_less a b = of (nat_lt a b) refl where
  of : (t : Bool) → nat_lt a b ≡ t → (a < b) ⊎ (a < b → ⊥)
  of true e = inl (lt-is a b e)
  of false e = inr (lt-not a b e)

pub decide_z : (a b : ℤ) → (a ≤ℤ b) ⊎ (a ≤ℤ b → ⊥)
decide_z a b = by_lt_z b a (λ less. inr (z-not a b less)) (λ le. inl le)
