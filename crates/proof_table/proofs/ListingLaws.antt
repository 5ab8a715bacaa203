-- What holds of the number that a search ended with, holds of the first instruction's.
use Rattle.proof_table.proofs.Common.{◌≡◌, ℕ, List, [], ◌∷◌, sym, subst, OfStart}
use Rattle.proof_table.specs.declared.listing.ExploredInsn.{ExploredInsn}

pub OfStart-number : (insns : List ExploredInsn) (number : ℕ) (fact : ℕ → Type 0)
    → OfStart insns (λ n. n ≡ number) → fact number → OfStart insns fact
OfStart-number [] number fact is h = tt
OfStart-number (first ∷ insns) number fact is h = subst fact (sym is) h
