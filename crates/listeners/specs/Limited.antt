-- What is said of a search that a limit may end.
use Rattle.std.specs.Prelude.{ℕ}
use Rattle.walks.specs.declared.refusals.Refusal.{Refusal}
use Rattle.listeners.specs.declared.limited.NoBound.{NoBound}
use Rattle.listeners.specs.declared.limited.NoBound.TheVariants.{Refused, Limit}

-- the fact holds of the refusal and its slot, unless the limit was reached first
abbrev pub IfRefuses : NoBound → (Refusal → ℕ → Type 0) → Type 0
IfRefuses (Refused r) fact = fact r.refusal r.slot
IfRefuses Limit fact = Unit {0}
