-- What is said of a program that was not verified.
use Rattle.std.specs.Prelude.{ℕ}
use Rattle.walks.specs.declared.refusals.Refusal.{Refusal}
use Rattle.listeners.specs.declared.rejections.Unverified.{Unverified}
use Rattle.listeners.specs.declared.rejections.Unverified.TheVariants.{Rejected, Stopped}

-- the fact holds of the refusal and its slot, if the program is refused
abbrev pub IfRejected : {S : Type 0} → Unverified S → (Refusal → ℕ → Type 0) → Type 0
IfRejected (Rejected r) fact = fact r.refusal r.slot
IfRejected (Stopped stop) fact = Unit {0}
