-- The program's status and its message on standard error, by how a task ended.
use Rattle.std.specs.Prelude.{◌≡◌, ℕ, Bool, true, false, List, [], ◌++◌, Option, Some, codes}
use Rattle.std.specs.declared.io.ErrorKind.{ErrorKind}
use Rattle.std.specs.String.{string_bytes}
use Rattle.words.specs.declared.tasks.WordsError.{WordsError}
use Rattle.words.specs.declared.tasks.WordsError.TheVariants.{Wrong, NotUnicode, Memory}
use Rattle.commands.specs.declared.outcomes.TaskOutcome.{TaskOutcome}
use Rattle.commands.specs.declared.outcomes.TaskOutcome.TheVariants.{Done, WrongWords, Refused, Faulted, CannotRead, CannotWrite, CannotReplace, NoMemory}
use Rattle.messages.specs.Causes.{unread_text, unwritten_text, conflict_text}
use Rattle.messages.specs.Faults.{fault_lines}
use Rattle.messages.specs.Messages.{rejection_text}

-- the program's status
abbrev pub status_of : TaskOutcome → ℕ
status_of Done = 0
status_of (WrongWords text) = 1
status_of (Refused rejection) = 2
status_of (Faulted fault form) = 3
status_of (CannotRead path kind) = 4
status_of (CannotWrite path cause) = 4
status_of (CannotReplace path conflict) = 4
status_of NoMemory = 5

-- whether it is known that nothing was written to standard output
abbrev pub is_silent : TaskOutcome → Bool
is_silent Done = false
is_silent (WrongWords text) = true
is_silent (Refused rejection) = false
is_silent (Faulted fault form) = false
is_silent (CannotRead path kind) = true
is_silent (CannotWrite path cause) = false
is_silent (CannotReplace path conflict) = true
is_silent NoMemory = true

-- whether there is no message on standard error
abbrev pub is_unsaid : TaskOutcome → Bool
is_unsaid Done = true
is_unsaid (WrongWords text) = false
is_unsaid (Refused rejection) = false
is_unsaid (Faulted fault form) = false
is_unsaid (CannotRead path kind) = false
is_unsaid (CannotWrite path cause) = false
is_unsaid (CannotReplace path conflict) = false
is_unsaid NoMemory = false

abbrev pub usage : List ℕ
usage = codes "usage: xdpvm asm|dis|verify|run|trace|prove|recheck\n"

abbrev pub no_code : List ℕ
no_code =
    codes "error: there is no such code: codes are a letter and a number, as V9, or a trap reason\n"

-- the message on standard error
abbrev pub message_of : TaskOutcome → List ℕ
message_of Done = []
message_of (WrongWords text) = text.now ++ usage
message_of (Refused rejection) = rejection_text rejection
message_of (Faulted fault form) = fault_lines fault form
message_of (CannotRead path kind) = unread_text path.now kind
message_of (CannotWrite path cause) = unwritten_text path.now cause
message_of (CannotReplace path conflict) = conflict_text path.now conflict
message_of NoMemory = codes "out of memory\n"

-- ---- what a task's outcome is

-- the arguments ask for nothing, and this text says why
abbrev pub SaysWrongWords : List ℕ → TaskOutcome → Type 0
SaysWrongWords text (WrongWords said) = said.now ≡ text
SaysWrongWords text outcome = ⊥

-- the arguments ask for nothing
abbrev pub IsWrongWords : TaskOutcome → Type 0
IsWrongWords (WrongWords said) = Unit {0}
IsWrongWords outcome = ⊥

-- how the task ends if the arguments ask for nothing
abbrev pub IsWordsEnd : WordsError → TaskOutcome → Type 0
IsWordsEnd (Wrong text) outcome = SaysWrongWords (string_bytes text) outcome
IsWordsEnd NotUnicode outcome = SaysWrongWords (codes "error: an argument is not UTF-8\n") outcome
IsWordsEnd Memory outcome = outcome ≡ NoMemory

-- the output of this name cannot be written
abbrev pub IsWriteFailure : List ℕ → TaskOutcome → Type 0
IsWriteFailure name (CannotWrite path cause) = path.now ≡ name
IsWriteFailure name outcome = ⊥

-- the same, with this as the cause, if one is known
abbrev pub IsWriteFailureBy : List ℕ → Option ErrorKind → TaskOutcome → Type 0
IsWriteFailureBy name cause (CannotWrite path told) = (path.now ≡ name) × (told ≡ cause)
IsWriteFailureBy name cause outcome = ⊥

abbrev pub IsOutputFailure : TaskOutcome → Type 0
IsOutputFailure outcome = IsWriteFailure (codes "standard output") outcome

abbrev pub IsOutputFailureBy : ErrorKind → TaskOutcome → Type 0
IsOutputFailureBy kind outcome = IsWriteFailureBy (codes "standard output") (Some kind) outcome

-- the file at the path cannot be read, or memory ran out
abbrev pub IsReadFailure : List ℕ → TaskOutcome → Type 0
IsReadFailure path (CannotRead file kind) = file.now ≡ path
IsReadFailure path NoMemory = Unit {0}
IsReadFailure path outcome = ⊥

-- the file at the path cannot be made, or must not be overwritten, or memory ran out
abbrev pub IsMakeFailure : List ℕ → TaskOutcome → Type 0
IsMakeFailure path (CannotWrite file cause) = file.now ≡ path
IsMakeFailure path (CannotReplace file conflict) = file.now ≡ path
IsMakeFailure path NoMemory = Unit {0}
IsMakeFailure path outcome = ⊥
