-- What the calls return for images.
use Rattle.std.specs.Prelude.{◌≡◌, ◌<◌, ℕ, false, List, Some, ◌⊎◌}
use Rattle.isa_model.specs.Code.Instructions.{Program}
use Rattle.isa_model.specs.Code.Limits.{max_explored}
use Rattle.image.specs.declared.errors.ImageError.{ImageError}
use Rattle.image.specs.Images.{image_bytes}
use Rattle.image.specs.Messages as image
use Rattle.image.specs.Refusals.{refusal_of}
use Rattle.bounds.specs.Bounds.{IsVerified}
use Rattle.stack_state.specs.Starts.{start}
use Rattle.walks.specs.declared.refusals.Refusal.{Refusal}
use Rattle.walks.specs.Refused.{IsRefused}
use Rattle.walks.specs.Accepting.{BoundsAll}
use Rattle.walks.specs.Counts.{HasNumber}
use Rattle.walks.specs.Messages as walks
use Rattle.calls.specs.declared.judging.Verdict.{Verdict}
use Rattle.calls.specs.Crossing.{FillsBuffer}
use Rattle.calls.specs.Numbers.{code_number}
use Rattle.messages.specs.Lines.{is_memory}
use Rattle.messages.specs.Texts.{image_text, IsProgramText}

-- the bytes are an image, and every run of its program exits within the bound, without a trap
pub record IsAcceptedImage (bytes : List ℕ) (bound : ℕ) : Type 0 where
  pub program : Program
  pub spelled : bytes ≡ image_bytes program
  pub verified : IsVerified (record { program = program; bound = bound })

-- a verdict that is a bound, and says nothing of a refusal
abbrev pub only_bound : ℕ → Verdict
only_bound bound = record { said = 0; slot = 0; bound = bound; code = 0 }

-- the bytes are an accepted image, and the verdict has the bound of its program and nothing else.
-- The bound is the number of the start state; that of a program which must be accepted is as small
-- as `BoundsAll` says
pub record ReturnsBound (bytes : List ℕ) (out : Verdict) : Type 0 where
  pub accepts : IsAcceptedImage bytes out.bound
  pub number : HasNumber accepts.program start out.bound
  pub bounds : BoundsAll accepts.program out.bound
  pub alone : out ≡ only_bound out.bound

-- the bytes are no image
abbrev pub IsNoImage : List ℕ → Type 0
IsNoImage bytes = (error : ImageError) × (refusal_of bytes ≡ Some error)

-- they are one, whose program is refused
pub record HasRefusedProgram (bytes : List ℕ) (refusal : Refusal) (slot : ℕ) : Type 0 where
  pub program : Program
  pub spelled : bytes ≡ image_bytes program
  pub refused : IsRefused program refusal slot
  pub not_memory : is_memory refusal ≡ false

abbrev pub IsRefusedImage : List ℕ → Type 0
IsRefusedImage bytes =
    IsNoImage bytes ⊎ ((refusal : Refusal) × (slot : ℕ) × HasRefusedProgram bytes refusal slot)

-- a verdict that is the slot and the number of a refusal, and how many bytes its text has
abbrev pub only_refusal : ℕ → ℕ → ℕ → Verdict
only_refusal said slot code = record { said = said; slot = slot; bound = 0; code = code }

-- the program is refused at a slot, and a buffer has the text that says why
abbrev pub FillsProgramRefusal : Program → List ℕ → List ℕ → Verdict → Type 0
FillsProgramRefusal p old new out =
    (refusal : Refusal) × IsRefused p refusal out.slot × (is_memory refusal ≡ false)
    × (out ≡ only_refusal out.said out.slot (code_number (walks.code_of refusal)))
    × ((text : List ℕ) × IsProgramText p refusal out.slot text × FillsBuffer old new out.said text)

-- the bytes are no image, or they are one whose program is refused, and a buffer has the text that
-- says why
abbrev pub FillsImageRefusal : List ℕ → List ℕ → List ℕ → Verdict → Type 0
FillsImageRefusal bytes old new out =
    ((error : ImageError) × (refusal_of bytes ≡ Some error)
    × (out ≡ only_refusal out.said 0 (code_number (image.code_of error)))
    × FillsBuffer old new out.said (image_text error))
    ⊎ ((program : Program) × (bytes ≡ image_bytes program)
    × FillsProgramRefusal program old new out)

-- the bytes are an image, and the limit is one that a search can reach
abbrev pub IsUndecided : List ℕ → ℕ → Type 0
IsUndecided bytes limit =
    (program : Program) × (bytes ≡ image_bytes program) × (limit < max_explored)
