-- Laws of the places of an abstract state: what a register's kind is after one was set.
use Rattle.stack_state.proofs.Common.{◌≡◌, ◌≢◌, ℕ, zero, suc, ◌⊎◌, List, [], ◌∷◌, slice_set, sym, ap, ◌∙◌, subst, inl, inr, refl, cases_eq, get_or-set_other, Kind, Unset, State, kind_at, registers_of}
use Rattle.isa_model.specs.declared.registers.Reg.{Reg}
use Rattle.isa_model.specs.declared.registers.Reg.TheVariants.{R10}
use Rattle.isa_model.specs.Code.Registers.{reg_number}
use Rattle.isa_model.proofs.RegisterLaws.{same_number}
use Rattle.stack_state.specs.Places.{kind_of, with_register}

-- ---- registers, which differ by their numbers

pub same_or_other : (q r : Reg) → (q ≡ r) ⊎ (q ≢ r)
same_or_other q r =
    elim (cases_eq (reg_number q) (reg_number r)) [
      | inl same ↦ inl (same_number q r same)
      | inr other ↦ inr (λ h. other (ap reg_number h))
    ]

-- ---- kinds

-- every register but r10 is in the innermost call frame's list
pub kind_of-registers : (a : State) (r : Reg) → r ≢ R10
    → kind_of a r ≡ kind_at (registers_of a) (reg_number r)
kind_of-registers a R10 own = absurd (own refl)
kind_of-registers a r own = refl

set_place : (P : Kind → Type 0) (ks : List Kind) (n : ℕ) (k : Kind) → P k → P (kind_at ks n)
    → P (kind_at (slice_set ks n k) n)
set_place P [] n k new old = old
set_place P (x ∷ ks) zero k new old = new
set_place P (x ∷ ks) (suc n) k new old = set_place P ks n k new old

-- what holds of the new kind holds of the register's, if it did before
pub kind_of-with_same : (P : Kind → Type 0) (a : State) (r : Reg) (k : Kind) → r ≢ R10 → P k
    → P (kind_of a r) → P (kind_of (with_register a r k) r)
kind_of-with_same P a r k own new old =
    subst P (sym (kind_of-registers (with_register a r k) r own))
    (set_place P (registers_of a) (reg_number r) k new (subst P (kind_of-registers a r own) old))

pub kind_of-with_other : (a : State) (r q : Reg) (k : Kind) → q ≢ r
    → kind_of (with_register a r k) q ≡ kind_of a q
kind_of-with_other a r q k other =
    elim (same_or_other q R10) [
      | inl same ↦ subst (λ q. kind_of (with_register a r k) q ≡ kind_of a q) (sym same) refl
      | inr own ↦ kind_of-registers (with_register a r k) q own
          ∙ get_or-set_other (registers_of a) (reg_number r) (reg_number q) k Unset
          (λ h. other (same_number q r h))
          ∙ sym (kind_of-registers a q own)
    ]
