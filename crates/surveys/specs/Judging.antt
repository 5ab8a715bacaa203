-- What a row says of an image.
use Rattle.std.specs.Prelude.{◌≡◌, ℕ, List, Option, Some, None}
use Rattle.isa_model.specs.{Program}
use Rattle.isa_model.specs.Running.Outcomes.{StartsEnd}
use Rattle.stack_state.specs.Starts.{start}
use Rattle.walks.specs.declared.refusals.Refusal.{Refusal}
use Rattle.walks.specs.Counts.{HasNumber}
use Rattle.walks.specs.Refused.{IsRefused}
use Rattle.walks.specs.Messages.{code_of}
use Rattle.image.specs.declared.errors.ImageError.{ImageError}
use Rattle.image.specs.declared.errors.ImageError.TheVariants as error
use Rattle.image.specs.Messages.{code_of as image_code_of}
use Rattle.survey_rows.specs.declared.rows.Counts.{Counts}
use Rattle.survey_rows.specs.declared.rows.Judgement.{Judgement}
use Rattle.survey_rows.specs.declared.rows.Judgement.TheVariants as verdict

-- the bound is the number of the start state, and every run exits within it
pub record Bounds (p : Program) (bound : ℕ) : Type 0 where
  pub number : HasNumber p start bound
  pub ends : StartsEnd p bound

abbrev pub IfBound : Program → Option ℕ → Type 0
IfBound p None = ⊥
IfBound p (Some bound) = Bounds p bound

-- a program is refused with this code, at this slot
pub record RefusesWith (p : Program) (code : List ℕ) (slot : Option ℕ) : Type 0 where
  pub refusal : Refusal
  pub at : ℕ
  pub refused : IsRefused p refusal at
  pub is_code : code ≡ code_of refusal
  pub is_slot : slot ≡ Some at

-- what a row says of a program: accepted with a bound, or refused with a code at a slot; or that
-- memory ran out
abbrev pub SaysVerdict : Program → Judgement → Counts → Type 0
SaysVerdict p verdict.Accepted counts = IfBound p counts.bound
SaysVerdict p (verdict.Refused code) counts = RefusesWith p code.now counts.slot
SaysVerdict p verdict.Unreadable counts = ⊥
SaysVerdict p verdict.NoMemory counts = Unit {0}

-- the slot at which an image is refused, if there is one
abbrev pub slot_of : ImageError → Option ℕ
slot_of (error.Code slot _) = Some slot
slot_of (error.UnknownMap slot) = Some slot
slot_of (error.ValuePointer slot) = Some slot
slot_of _ = None

-- what a row says of bytes that are not an image: the code of what is wrong, at its slot; or that
-- memory ran out
abbrev pub SaysMalformed : ImageError → Judgement → Counts → Type 0
SaysMalformed wrong verdict.Accepted counts = ⊥
SaysMalformed wrong (verdict.Refused code) counts =
    (code.now ≡ image_code_of wrong) × (counts.slot ≡ slot_of wrong)
SaysMalformed wrong verdict.Unreadable counts = ⊥
SaysMalformed wrong verdict.NoMemory counts = Unit {0}

-- what a verdict does not have is not in its row: that of an accepted image has no slot of a
-- refusal, and that of every other one no bound
abbrev pub LacksOther : Judgement → Counts → Type 0
LacksOther verdict.Accepted counts = counts.slot ≡ None
LacksOther v counts = counts.bound ≡ None
