-- What a status and a kind of outcome say of how a task ended.
use Rattle.xdpvm.proofs.Common.{◌≡◌, ◌≤◌, ℕ, List, Option, true, false, ap, refl, arith, false≢true, WordsError, Wrong, NotUnicode, Memory, TaskOutcome, Done, WrongWords, Refused, Faulted, CannotRead, CannotWrite, CannotReplace, NoMemory, status_of, is_silent, is_unsaid, IsWordsEnd, IsWriteFailure, IsWriteFailureBy, SaysWrongWords, IsWrongWords}
use Rattle.std.specs.declared.io.ErrorKind.{ErrorKind}

-- at status 1 nothing was written to standard output
pub silent_words : (o : TaskOutcome) → status_of o ≡ 1 → is_silent o ≡ true
silent_words Done e = absurd (omega arith)
silent_words (WrongWords message) e = refl
silent_words (Refused rejection) e = absurd (omega arith)
silent_words (Faulted fault form) e = absurd (omega arith)
silent_words (CannotRead path kind) e = refl
silent_words (CannotWrite path cause) e = absurd (omega arith)
silent_words (CannotReplace path conflict) e = refl
silent_words NoMemory e = refl

-- at status 5 nothing was written to standard output
pub silent_memory : (o : TaskOutcome) → status_of o ≡ 5 → is_silent o ≡ true
silent_memory Done e = absurd (omega arith)
silent_memory (WrongWords message) e = refl
silent_memory (Refused rejection) e = absurd (omega arith)
silent_memory (Faulted fault form) e = absurd (omega arith)
silent_memory (CannotRead path kind) e = refl
silent_memory (CannotWrite path cause) e = absurd (omega arith)
silent_memory (CannotReplace path conflict) e = refl
silent_memory NoMemory e = refl

-- a status is at most 5
pub status_fits : (o : TaskOutcome) → status_of o ≤ 5
status_fits Done = omega arith
status_fits (WrongWords message) = omega arith
status_fits (Refused rejection) = omega arith
status_fits (Faulted fault form) = omega arith
status_fits (CannotRead path kind) = omega arith
status_fits (CannotWrite path cause) = omega arith
status_fits (CannotReplace path conflict) = omega arith
status_fits NoMemory = omega arith

-- at status 0 there is no message on standard error
pub unsaid_done : (o : TaskOutcome) → status_of o ≡ 0 → is_unsaid o ≡ true
unsaid_done Done e = refl
unsaid_done (WrongWords message) e = absurd (omega arith)
unsaid_done (Refused rejection) e = absurd (omega arith)
unsaid_done (Faulted fault form) e = absurd (omega arith)
unsaid_done (CannotRead path kind) e = absurd (omega arith)
unsaid_done (CannotWrite path cause) e = absurd (omega arith)
unsaid_done (CannotReplace path conflict) e = absurd (omega arith)
unsaid_done NoMemory e = absurd (omega arith)

-- ---- an output that failed

-- an output that cannot be written: something may have been written to standard output
pub write_loud : (name : List ℕ) (r : TaskOutcome) → IsWriteFailure name r → is_silent r ≡ true → ⊥
write_loud name Done h e = h
write_loud name (WrongWords message) h e = h
write_loud name (Refused rejection) h e = h
write_loud name (Faulted fault form) h e = h
write_loud name (CannotRead path kind) h e = h
write_loud name (CannotWrite path cause) h e = false≢true e
write_loud name (CannotReplace path conflict) h e = h
write_loud name NoMemory h e = h

-- the same with a cause
pub write_loud_by : (name : List ℕ) (cause : Option ErrorKind) (r : TaskOutcome)
    → IsWriteFailureBy name cause r → is_silent r ≡ true → ⊥
write_loud_by name cause Done h e = h
write_loud_by name cause (WrongWords message) h e = h
write_loud_by name cause (Refused rejection) h e = h
write_loud_by name cause (Faulted fault form) h e = h
write_loud_by name cause (CannotRead path kind) h e = h
write_loud_by name cause (CannotWrite path told) h e = false≢true e
write_loud_by name cause (CannotReplace path conflict) h e = h
write_loud_by name cause NoMemory h e = h

-- an output that cannot be written ends a task with a status over 3
pub write_failed : (name : List ℕ) (cause : Option ErrorKind) (o : TaskOutcome)
    → IsWriteFailureBy name cause o → status_of o ≤ 3 → ⊥
write_failed name cause Done h most = h
write_failed name cause (WrongWords message) h most = h
write_failed name cause (Refused rejection) h most = h
write_failed name cause (Faulted fault form) h most = h
write_failed name cause (CannotRead path kind) h most = h
write_failed name cause (CannotWrite path told) h most = omega arith
write_failed name cause (CannotReplace path conflict) h most = h
write_failed name cause NoMemory h most = h

-- ---- at status 0, 2 and 3

-- at status 0, 2 and 3 something was written to standard output
pub loud_by_status : (o : TaskOutcome) → status_of o ≤ 3 → (status_of o ≡ 1 → ⊥)
    → is_silent o ≡ false
loud_by_status Done most apart = refl
loud_by_status (WrongWords message) most apart = absurd (apart refl)
loud_by_status (Refused rejection) most apart = refl
loud_by_status (Faulted fault form) most apart = refl
loud_by_status (CannotRead path kind) most apart = absurd (omega arith)
loud_by_status (CannotWrite path cause) most apart = refl
loud_by_status (CannotReplace path conflict) most apart = absurd (omega arith)
loud_by_status NoMemory most apart = absurd (omega arith)

-- ---- arguments that ask for nothing

-- arguments that are wrong for some reason are wrong
pub says_wrong : (text : List ℕ) (o : TaskOutcome) → SaysWrongWords text o → IsWrongWords o
says_wrong text (WrongWords said) h = tt
says_wrong text Done h = absurd h
says_wrong text (Refused rejection) h = absurd h
says_wrong text (Faulted fault form) h = absurd h
says_wrong text (CannotRead path kind) h = absurd h
says_wrong text (CannotWrite path cause) h = absurd h
says_wrong text (CannotReplace path conflict) h = absurd h
says_wrong text NoMemory h = absurd h

-- where they are wrong, nothing is written to standard output
pub wrong_silent : (text : List ℕ) (o : TaskOutcome) → SaysWrongWords text o → is_silent o ≡ true
wrong_silent text (WrongWords said) h = refl
wrong_silent text Done h = absurd h
wrong_silent text (Refused rejection) h = absurd h
wrong_silent text (Faulted fault form) h = absurd h
wrong_silent text (CannotRead path kind) h = absurd h
wrong_silent text (CannotWrite path cause) h = absurd h
wrong_silent text (CannotReplace path conflict) h = absurd h
wrong_silent text NoMemory h = absurd h

-- they end with status 1, or over 3
pub unasked_status : (error : WordsError) (o : TaskOutcome) → IsWordsEnd error o → status_of o ≤ 3
    → (status_of o ≡ 1 → ⊥) → ⊥
unasked_status Memory o e most apart = let same : status_of o ≡ 5 = ap status_of e in omega arith
unasked_status (Wrong text) (WrongWords said) e most apart = apart refl
unasked_status (Wrong text) Done e most apart = e
unasked_status (Wrong text) (Refused rejection) e most apart = e
unasked_status (Wrong text) (Faulted fault form) e most apart = e
unasked_status (Wrong text) (CannotRead path kind) e most apart = e
unasked_status (Wrong text) (CannotWrite path cause) e most apart = e
unasked_status (Wrong text) (CannotReplace path conflict) e most apart = e
unasked_status (Wrong text) NoMemory e most apart = e
unasked_status NotUnicode (WrongWords said) e most apart = apart refl
unasked_status NotUnicode Done e most apart = e
unasked_status NotUnicode (Refused rejection) e most apart = e
unasked_status NotUnicode (Faulted fault form) e most apart = e
unasked_status NotUnicode (CannotRead path kind) e most apart = e
unasked_status NotUnicode (CannotWrite path cause) e most apart = e
unasked_status NotUnicode (CannotReplace path conflict) e most apart = e
unasked_status NotUnicode NoMemory e most apart = e
