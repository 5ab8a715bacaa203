-- What a task on files does to standard output. No contract can say what the files hold.
use Rattle.std.specs.Prelude.{◌≡◌, ℕ, List, Option, Ok, ◌⊎◌}
use Rattle.std.specs.declared.io.ErrorKind.{ErrorKind}
use Rattle.isa_model.specs.{Program}
use Rattle.isa_model.specs.Text.CanonicalText.{canonical_text}
use Rattle.image.specs.Images.{IsImage}
use Rattle.commands.specs.declared.texts.KeptText.{KeptText}
use Rattle.commands.specs.Texts.{spelled}
use Rattle.bounds.specs.Bounds.{Bounded}
use Rattle.frames.specs.Sources.{Origin}
use Rattle.messages.specs.declared.forms.FileForm.{FileForm}
use Rattle.commands.specs.declared.outcomes.TaskOutcome.{TaskOutcome}
use Rattle.commands.specs.declared.outcomes.TaskOutcome.TheVariants as outcome
use Rattle.commands.specs.declared.endings.Ending.{Ending}
use Rattle.commands.specs.Known.{IsKnownOfText, Plainly}
use Rattle.messages.specs.Lines.{size_line}
use Rattle.commands.specs.Statuses.{IsMakeFailure, IsReadFailure}
use Rattle.commands.specs.Saying.{Says}
use Rattle.commands.specs.Judging.{RefusesImage, RefusesText, StoresImage}
use Rattle.commands.specs.Streams.{RunsAccepted}
use Rattle.words.specs.Requests.{RunFiles}

-- the file at the path could not be read, or memory ran out, and standard output got nothing
abbrev pub ReadsNone : List ℕ → Option (List ℕ) → Option (List ℕ) → TaskOutcome → Type 0
ReadsNone path old new result = IsReadFailure path result × (new ≡ old)

-- the file at the path could not be made, or memory ran out, and standard output got nothing
abbrev pub MakesNone : List ℕ → Option (List ℕ) → Option (List ℕ) → TaskOutcome → Type 0
MakesNone path old new result = IsMakeFailure path result × (new ≡ old)

-- the image could not be read, or its bytes are refused
abbrev pub LoadsNone : List ℕ → Option (List ℕ) → Option (List ℕ) → TaskOutcome → Type 0
LoadsNone path old new result =
    ReadsNone path old new result ⊎ ((bytes : List ℕ) × RefusesImage bytes old new result)

-- an image was read, and P holds of its program
abbrev pub ReadsImage : (Program → Type 0) → Type 0
ReadsImage P = (p : Program) × IsImage p × P p

-- the frame stream could not be opened, or the file for the frames out could not be made
abbrev pub OpensNone : RunFiles → Option (List ℕ) → Option (List ℕ) → TaskOutcome → Type 0
OpensNone files old new result =
    ReadsNone files.frames old new result ⊎ MakesNone files.out old new result

-- a program with its bound is run on some source, whose first bytes have some file form; the frames
-- out are written to the file at the path
pub record RunsSome (v : Bounded) (out : List ℕ) (old new : Option (List ℕ))
    (result : Ending) : Type 0 where
  pub source : Origin
  pub form : FileForm
  pub before : Option (List ℕ)
  pub after : Option (List ℕ)
  pub cause : Option ErrorKind
  pub runs : RunsAccepted v source form out cause (record { report = old; sent = before })
      (record { report = new; sent = after }) result

-- the image of a program was written to the file at the path, and then the line with its size
pub record StoresSome (p : Program) (path : List ℕ) (old new : Option (List ℕ))
    (result : TaskOutcome) : Type 0 where
  pub before : Option (List ℕ)
  pub after : Option (List ℕ)
  pub stores : StoresImage p (size_line p) path before after old new result

-- a program with its bound is run
abbrev pub RunsOn : RunFiles → Bounded → Option (List ℕ) → Option (List ℕ) → Ending → Type 0
RunsOn files v old new result =
    Plainly (OpensNone files old new) result ⊎ RunsSome v files.out old new result

-- `dis`: standard output gets the text of the image's program
abbrev pub DisassemblesFile : List ℕ → Option (List ℕ) → Option (List ℕ) → TaskOutcome → Type 0
DisassemblesFile path old new result = LoadsNone path old new result
    ⊎ ReadsImage (λ p. Says old new (canonical_text p) outcome.Done result)

-- a text was read, and it spells a program with the property P
abbrev pub ReadsText : KeptText → (Program → Type 0) → Type 0
ReadsText text P = (p : Program) × (spelled text ≡ Ok p) × P p

-- a text that was read from the file at the path is refused, and the lines at the end of the
-- message show its line; or there is no number for a line or a column of it
abbrev pub RefusesTextFile : KeptText → List ℕ → Option (List ℕ) → Option (List ℕ) → Ending → Type 0
RefusesTextFile text path old new result =
    Plainly (ReadsNone path old new) result
    ⊎ (RefusesText text old new result.outcome × IsKnownOfText text result)

-- a program that a text spells: its image is written to the file at the path
abbrev pub StoresText : KeptText → List ℕ → Option (List ℕ) → Option (List ℕ) → TaskOutcome → Type 0
StoresText text image old new result =
    ReadsText text (λ p. MakesNone image old new result ⊎ StoresSome p image old new result)

-- `asm`: the file could not be read, or what it spells is stored, or it is refused
abbrev pub AssemblesFile : List ℕ → List ℕ → Option (List ℕ) → Option (List ℕ) → Ending → Type 0
AssemblesFile path image old new result =
    Plainly (ReadsNone path old new) result
    ⊎ ((text : KeptText) × (RefusesTextFile text path old new result
    ⊎ Plainly (StoresText text image old new) result))
