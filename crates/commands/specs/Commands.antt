-- What each command does to standard output. No contract can say what the files hold.
use Rattle.std.specs.Prelude.{ℕ, List, Option, ◌⊎◌}
use Rattle.std.specs.declared.io.ErrorKind.{ErrorKind}
use Rattle.isa_model.specs.{Program}
use Rattle.bounds.specs.Bounds.{Bounded}
use Rattle.frames.specs.Sources.{Origin}
use Rattle.messages.specs.declared.forms.FileForm.{FileForm}
use Rattle.commands.specs.declared.endings.Ending.{Ending}
use Rattle.commands.specs.Judging.{Accepts, IsBoundOf, IsBoundShown, RefusesProgram, RefusesTable, Verifies}
use Rattle.commands.specs.Known.{Plainly, IsKnownOfProgram, IsKnownOfTable}
use Rattle.commands.specs.Files.{ReadsNone, LoadsNone, ReadsImage, OpensNone, RunsOn}
use Rattle.words.specs.Requests.{RunFiles, TableFiles}
use Rattle.commands.specs.Streams.{Traces}

-- ---- files and tables

-- the image could not be read, or after it the table; or one of the two is refused, and the lines
-- at the end of the message say what is known
abbrev pub ShowsNone : TableFiles → Option (List ℕ) → Option (List ℕ) → Ending → Type 0
ShowsNone files old new result =
    Plainly (LoadsNone files.image old new) result
    ⊎ ReadsImage (λ p. Plainly (ReadsNone files.table old new) result
    ⊎ ((bytes : List ℕ) × RefusesTable p bytes old new result.outcome
    × IsKnownOfTable p bytes result))

-- a table was read, and it shows this bound for the program
abbrev pub IsShown : Bounded → Type 0
IsShown v = (bytes : List ℕ) × IsBoundShown v.program bytes v.bound

-- the program of an image with a bound that a table shows, and P holds of the two
abbrev pub ShowsSome : (Bounded → Type 0) → Type 0
ShowsSome P = (v : Bounded) × IsShown v × P v

-- a program is traced on some source, whose first bytes have some file form; the frames out are
-- written to the file at the path
pub record TracesSome (p : Program) (limit : ℕ) (out : List ℕ) (old new : Option (List ℕ))
    (result : Ending) : Type 0 where
  pub source : Origin
  pub form : FileForm
  pub before : Option (List ℕ)
  pub after : Option (List ℕ)
  pub cause : Option ErrorKind
  pub traces : Traces p limit source form out cause (record { report = old; sent = before })
      (record { report = new; sent = after }) result

-- ---- the commands

-- `trace`: the lines at the end of the message say where runs stopped without an action
abbrev pub TracesFile : RunFiles → ℕ → Option (List ℕ) → Option (List ℕ) → Ending → Type 0
TracesFile files limit old new result =
    Plainly (LoadsNone files.image old new) result
    ⊎ ReadsImage
    (λ p. Plainly (OpensNone files old new) result ⊎ TracesSome p limit files.out old new result)

-- a program is accepted, with its bound, and run
abbrev pub AcceptsAndRuns : RunFiles → Program → Option (List ℕ) → Option (List ℕ) → Ending
    → Type 0
AcceptsAndRuns files p old new result =
    (bound : ℕ) × IsBoundOf p bound
    × RunsOn files (record { program = p; bound = bound }) old new result

-- `run`: if the program is refused, the lines at the end of the message say what is known, and
-- after a run which packet frames' runs ended with INVALID
abbrev pub RunsFile : RunFiles → Option (List ℕ) → Option (List ℕ) → Ending → Type 0
RunsFile files old new result =
    Plainly (LoadsNone files.image old new) result
    ⊎ ReadsImage
    (λ p. (RefusesProgram p old new result.outcome × IsKnownOfProgram p result)
    ⊎ AcceptsAndRuns files p old new result)

-- `run --table`: a table takes the place of the verifier
abbrev pub RunsShown : RunFiles → List ℕ → Option (List ℕ) → Option (List ℕ) → Ending → Type 0
RunsShown files table old new result =
    ShowsNone (record { image = files.image; table = table }) old new result
    ⊎ ShowsSome (λ v. RunsOn files v old new result)

-- `recheck`: standard output says the bound that a table shows
abbrev pub RechecksFile : TableFiles → Option (List ℕ) → Option (List ℕ) → Ending → Type 0
RechecksFile files old new result =
    ShowsNone files old new result ⊎ ShowsSome (λ v. Plainly (Accepts v old new) result)

-- `verify`: standard output says the verdict
abbrev pub VerifiesFile : List ℕ → Option (List ℕ) → Option (List ℕ) → Ending → Type 0
VerifiesFile path old new result =
    Plainly (LoadsNone path old new) result
    ⊎ ReadsImage (λ p. Verifies p old new result.outcome × IsKnownOfProgram p result)
