-- The names that most proofs of this crate cite, passed on from one place. Declares nothing.
pub use Rattle.std.proofs.Common.{◌≡◌, ℕ, List, ◌++◌, subst, Option, Some, None, String, true, ap, refl, sym, inl, inr, ◌⊎◌, arith, IfSome, ◌∙◌, ◌≤◌, Result, Ok, Err, false, codes, Bool, [], OnOk, OnErr, append-nil}
pub use Rattle.std.proofs.lemmas.Bool.{false≢true, both_ways}
pub use Rattle.std.specs.Io.KnownBytes.{Keeps, Appends, append_known}
pub use Rattle.std.specs.String.{string_bytes}
pub use Rattle.bounds.specs.Bounds.{Bounded}
pub use Rattle.commands.specs.Files.{LoadsNone, OpensNone, RunsOn, DisassemblesFile, AssemblesFile}
pub use Rattle.commands.specs.Flushing.{Flushes, IsFlushed, TellsFailure}
pub use Rattle.commands.specs.Judging.{Accepts, RefusesImage, RefusesText, StoresImage, IsBoundOf, RefusesProgram, IsStoreFailure, RefusesTable, SaysOfTable, Verifies}
pub use Rattle.commands.specs.Known.{outcome_text, with_code, TellsText, Tells, TellsTable, IsKnownOfProgram}
pub use Rattle.commands.specs.Saying.{AppendsPart, Says}
pub use Rattle.commands.specs.Statuses.{status_of, is_unsaid, message_of, IsWordsEnd, is_silent, IsMakeFailure, IsWriteFailure, IsWriteFailureBy, SaysWrongWords, IsWrongWords}
pub use Rattle.commands.specs.Streams.{EndsTask, EndsBy, FailsBy, outcome_at, at_end, IsBeginningOf}
pub use Rattle.commands.specs.declared.endings.Ending.{Ending}
pub use Rattle.commands.specs.declared.outcomes.TaskOutcome.{TaskOutcome}
pub use Rattle.commands.specs.declared.outcomes.TaskOutcome.TheVariants.{Done, WrongWords, Refused, Faulted, CannotRead, CannotWrite, CannotReplace, NoMemory}
pub use Rattle.exact_io.specs.Waiting.{held, behind, waiting}
pub use Rattle.exact_io.specs.declared.buffering.PromptWriter.{PromptWriter}
pub use Rattle.host.specs.declared.errors.HostError.{HostError}
pub use Rattle.isa_model.specs.{Program}
pub use Rattle.table_entries.specs.declared.errors.WriteTableError.{WriteTableError}
pub use Rattle.words.specs.Asked.{AsksFor}
unfoldable pub use Rattle.words.specs.Asked.{asked}
pub use Rattle.words.specs.Requests.{TaskRequest, RunFiles, Trace, Run, Verify, Prove, Recheck, Assemble, Disassemble, Explain, TableFiles, request_of, table_files_of}
pub use Rattle.words.specs.declared.tasks.WordsError.{WordsError}
pub use Rattle.words.specs.declared.tasks.WordsError.TheVariants.{Wrong, NotUnicode, Memory}
pub use Rattle.xdpvm.specs.Executing.{IsTold, TellsDone, TellsFault, Executes, TellsBefore}
pub use Rattle.xdpvm.specs.Proving.{EndsUnwritten, StoresTable, ProvesTold, ProvesSome, GainsSaid, BeginsSaid, ProvesFile, SaysSize, size_text}
pub use Rattle.xdpvm.specs.Serving.{Serves, ServesTold}
