-- The programs that must be accepted, all classes together: which refusals they get, and which
-- bounds.
use Rattle.walks.proofs.Common.{ℕ, Program, IsProgram, start, IsRefused, AcceptsAll, BoundsAll, HasNumber}
use Rattle.walks.specs.declared.refusals.Refusal.{Refusal}
use Rattle.walks.proofs.Plain.{IsPlain-refused, IsPlain-bound}
use Rattle.walks.proofs.Determined.{IsDetermined-refused, IsDetermined-bound}
use Rattle.walks.proofs.Guarded.{IsGuarded-refused, IsGuarded-bound}

-- programs that must be accepted get no other refusals than these
pub AcceptsAll-refused : (p : Program) (e : Refusal) (slot : ℕ) → IsProgram p → IsRefused p e slot
    → AcceptsAll p e
AcceptsAll-refused p e slot program refused = record {
  plain = λ h. IsPlain-refused p e slot refused h;
  determined = λ steps h. IsDetermined-refused p steps e slot program refused h;
  guarded = λ len h. IsGuarded-refused p len e slot refused h;
}

-- and the number of the start is the bound that is known of them
pub BoundsAll-number : (p : Program) (n : ℕ) → IsProgram p → HasNumber p start n → BoundsAll p n
BoundsAll-number p n program number = record {
  plain = λ h. IsPlain-bound p n number h;
  determined = λ steps h. IsDetermined-bound p steps n program number h;
  guarded = λ len h. IsGuarded-bound p len n number h;
}
