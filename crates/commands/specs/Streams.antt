-- What a program writes that is run or traced on a frame stream, and how a task ends then.
use Rattle.std.specs.Prelude.{◌≡◌, ◌≢◌, ℕ, List, Option, Some, None, Result, Ok, Err, ◌⊎◌, String}
use Rattle.std.specs.Io.KnownBytes.{Keeps, append_known}
use Rattle.std.specs.declared.io.ErrorKind.{ErrorKind}
use Rattle.isa_model.specs.declared.streams.Fault.{Fault}
use Rattle.bounds.specs.Bounds.{Bounded}
use Rattle.frames.specs.Sources.{Origin}
use Rattle.host.specs.declared.errors.HostError.{HostError}
use Rattle.host.specs.declared.tallies.Tally.{Tally}
use Rattle.host.specs.Writing.{Outputs}
use Rattle.host.specs.InvalidRuns.{ReportsNoted, tally_ran}
use Rattle.messages.specs.declared.forms.FileForm.{FileForm}
use Rattle.commands.specs.declared.outcomes.TaskOutcome.{TaskOutcome}
use Rattle.commands.specs.declared.outcomes.TaskOutcome.TheVariants.{Done, Faulted, NoMemory}
use Rattle.commands.specs.Statuses.{IsOutputFailure, IsWriteFailureBy}
use Rattle.std.specs.declared.alloc.Global.{Global}
use Rattle.isa_model.specs.{Program}
use Rattle.isa_model.specs.Reporting.Reports.{checked_report}
use Rattle.host.specs.declared.noting.Ran.{Ran}
use Rattle.host.specs.declared.traced.Traced.{Traced}
use Rattle.host.specs.Stops.{ShowsTraced}
use Rattle.host.specs.Tallies.{tallied}
use Rattle.host.specs.Reported.{Reports}
use Rattle.commands.specs.declared.endings.Ending.{Ending}
use Rattle.messages.specs.InvalidRuns.{TellsInvalidOf}
use Rattle.messages.specs.Stopped.{TellsStopsOf}
use Rattle.host.specs.declared.errors.HostError.TheVariants as failure

-- how a task ends after a stream of this file form that came to its end, or had a fault
abbrev pub outcome_at : FileForm → Option (Fault × ℕ) → TaskOutcome
outcome_at form None = Done
outcome_at form (Some (fault, at)) = Faulted fault form

-- how a task ends, from the result on a stream of this file form; the frames out are written to the
-- file at this path, and `cause` is why that failed, if it did
abbrev pub EndsBy : List ℕ → Option ErrorKind → FileForm → Result Tally HostError → TaskOutcome
    → Type 0
EndsBy path cause form (Ok tally) result = result ≡ outcome_at form tally.fault
EndsBy path cause form (Err failure.Memory) result = result ≡ NoMemory
EndsBy path cause form (Err failure.Report) result = IsOutputFailure result
EndsBy path cause form (Err failure.Frames) result = IsWriteFailureBy path cause result

-- the same if the file did not get all of the frames out: it failed, or before it standard output
-- did or memory ran out
abbrev pub FailsBy : List ℕ → Option ErrorKind → FileForm → Result Tally HostError → TaskOutcome
    → Type 0
FailsBy path cause form (Ok tally) result = IsWriteFailureBy path cause result
FailsBy path cause form (Err error) result = EndsBy path cause form (Err error) result

-- a file got a beginning of some bytes, and lacks the rest, if the bytes are known
abbrev pub IsBeginningOf : Option (List ℕ) → Option (List ℕ) → Type 0
IsBeginningOf got bytes = (lost : List ℕ) × Keeps bytes (append_known got lost)

-- How a task ends, from the result `ended` on a stream. `handed` is what was written to the buffer
-- of the file at this path. The file got all of it; or it got a beginning, and then it failed, or
-- something had failed before.
abbrev pub EndsTask : List ℕ → Option ErrorKind → FileForm → Result Tally HostError
    → Option (List ℕ) → Option (List ℕ) → TaskOutcome → Type 0
EndsTask path cause form ended handed got result =
    (Keeps handed got × EndsBy path cause form ended result)
    ⊎ (IsBeginningOf got handed × FailsBy path cause form ended result)

-- the message is written if the report was completed and all output was flushed
abbrev pub at_end : TaskOutcome → Option (String Global) → Option (String Global)
at_end Done why = why
at_end (Faulted fault form) why = why
at_end outcome why = None

-- An accepted program is run on a stream: what is written is exactly the report of the program and
-- of the packet frames that were found, which are those that the source's bytes spell, if those are
-- known; no run meets a trap, and each exits within the bound.
-- If the file of the frames out failed, `cause` is why, and the message says it. If the report was
-- completed, the message also says which runs ended with INVALID.
pub record RunsAccepted (v : Bounded) (source : Origin) (form : FileForm) (path : List ℕ)
    (cause : Option ErrorKind) (old new : Outputs) (result : Ending) : Type 0 where
  pub ended : Result Ran HostError
  pub handed : Option (List ℕ)
  pub ends : EndsTask path cause form (tally_ran ended) handed new.sent result.outcome
  pub report_untouched : ended ≡ Err failure.Memory → new.report ≡ old.report
  pub sent_untouched : ended ≡ Err failure.Memory → handed ≡ old.sent
  pub lines : Option (String Global)
  pub tells : TellsInvalidOf ended lines
  pub why : result.why ≡ at_end result.outcome lines
  pub reports : ended ≢ Err failure.Memory
      → ReportsNoted v source old (record { report = new.report; sent = handed }) ended

-- A program is traced on a stream: what is written is exactly the checked report of the program and
-- of the packet frames that were found, which are those that the source's bytes spell, if those are
-- known.
-- If the file of the frames out failed, `cause` is why, and the message says it. The message also
-- says where runs stopped that ended without an action.
pub record Traces (p : Program) (limit : ℕ) (source : Origin) (form : FileForm)
    (path : List ℕ) (cause : Option ErrorKind) (old new : Outputs) (result : Ending) : Type 0 where
  pub ended : Result Traced HostError
  pub handed : Option (List ℕ)
  pub ends : EndsTask path cause form (tallied ended) handed new.sent result.outcome
  pub report_untouched : ended ≡ Err failure.Memory → new.report ≡ old.report
  pub sent_untouched : ended ≡ Err failure.Memory → handed ≡ old.sent
  pub lines : Option (String Global)
  pub tells : TellsStopsOf ended lines
  pub why : result.why ≡ at_end result.outcome lines
  pub reports : ended ≢ Err failure.Memory
      → Reports source (checked_report p limit) (ShowsTraced p limit) old
      (record { report = new.report; sent = handed }) ended
