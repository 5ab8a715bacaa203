-- What is said of a list of explored instructions.
use Rattle.std.specs.Prelude.{ℕ, List, [], ◌∷◌}
use Rattle.proof_table.specs.declared.listing.ExploredInsn.{ExploredInsn}

-- the fact holds of the number of the first instruction, which is the start's, if there is one
abbrev pub OfStart : List ExploredInsn → (ℕ → Type 0) → Type 0
OfStart [] fact = Unit {0}
OfStart (first ∷ insns) fact = fact first.number
