-- The names that most proofs of this crate cite, passed on from one place. Declares nothing.
pub use Rattle.std.proofs.Common.{◌≡◌, ℕ, List, Option, Result, Ok, inr, None, refl, subst, inl, ◌⊎◌, ◌∙◌, ◌≤◌, ◌++◌, Some, arith, sym, ap, length, length-append, IfSome, take, min, String, Err, IfOk, IfErr, drop, append_assoc, ◌≢◌, ◌+◌, ◌-◌, ◌==◌, Bool, true, false, if◌then◌else◌, [], ◌∷◌, ap₂, OnOk, is_err, MatchResult, string_bytes, rules, ◌^◌}
pub use Rattle.std.specs.Io.KnownBytes.{Keeps, append_known, Consumes, IsAtEnd}
pub use Rattle.std.specs.declared.io.ErrorKind.{ErrorKind}
pub use Rattle.assembler.specs.Gaps.{without, gap_of, is_before, placed, in_place, all_placed, all_in_place, IsIdle}
pub use Rattle.isa_model.specs.{Program, fetch}
pub use Rattle.messages.proofs.Written.{ok_behind, err_behind, ok_text, err_text}
pub use Rattle.messages.specs.declared.forms.FileForm.{FileForm}
pub use Rattle.words.specs.Requests.{RunFiles, TableFiles, table_files_of, files_of}
pub use Rattle.commands.specs.Files.{RunsOn, RunsSome, OpensNone, MakesNone, RefusesTextFile, AssemblesFile, StoresSome, LoadsNone}
pub use Rattle.commands.specs.Judging.{Accepts, IsBoundOf, RefusesProgram, RefusesTable, Verifies, SaysRefused, RefusesText}
pub use Rattle.commands.specs.Known.{Plainly, IsKnownOfProgram, IsKnownOfTable, Tells, IfRefusal, TellsText, TellsKept, ShowsKept, outcome_text}
pub use Rattle.commands.specs.Statuses.{IsWriteFailureBy, IsReadFailure, IsMakeFailure, IsWriteFailure, IsOutputFailure, message_of, usage}
pub use Rattle.commands.specs.Streams.{EndsTask, RunsAccepted, Traces}
pub use Rattle.commands.specs.declared.endings.Ending.{Ending}
pub use Rattle.commands.specs.declared.outcomes.TaskOutcome.{TaskOutcome}
pub use Rattle.commands.specs.declared.outcomes.TaskOutcome.TheVariants.{Done, WrongWords, Refused, Faulted, CannotRead, CannotWrite, CannotReplace, NoMemory}
pub use Rattle.commands.specs.declared.texts.KeptText.{KeptText}
