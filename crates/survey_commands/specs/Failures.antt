-- Why the program ends early, and its status then.
use Rattle.std.specs.Prelude.{◌≡◌, ◌≢◌, ℕ, List}
use Rattle.std.specs.String.{string_bytes}
use Rattle.std.specs.declared.io.ErrorKind.{ErrorKind}
use Rattle.survey_commands.specs.declared.failures.SurveyError.{SurveyError}
use Rattle.survey_commands.specs.declared.failures.SurveyError.TheVariants.{Words, NotUnicode, Unread, Unwritten, File, Memory}

-- the program's status
abbrev pub failure_status : SurveyError → ℕ
failure_status (Words text) = 1
failure_status NotUnicode = 1
failure_status (Unread path kind) = 4
failure_status (Unwritten name kind) = 4
failure_status (File line) = 4
failure_status Memory = 5

-- the file at the path cannot be read for this cause, which is not that memory ran out; or it did
abbrev pub IsUnread : List ℕ → ErrorKind → SurveyError → Type 0
IsUnread path kind (Unread name cause) =
    (string_bytes name ≡ path) × (cause ≡ kind) × (kind ≢ ErrorKind.OutOfMemory)
IsUnread path kind Memory = Unit {0}
IsUnread path kind failure = ⊥

-- the file or output of this name cannot be written for this cause, which is not that memory ran
-- out; or it did
abbrev pub IsUnwritten : List ℕ → ErrorKind → SurveyError → Type 0
IsUnwritten path kind (Unwritten name cause) =
    (string_bytes name ≡ path) × (cause ≡ kind) × (kind ≢ ErrorKind.OutOfMemory)
IsUnwritten path kind Memory = Unit {0}
IsUnwritten path kind failure = ⊥
