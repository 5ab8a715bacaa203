-- What the files get that a run writes, and how a task ends that ran a program.
use Rattle.std.specs.Prelude.{◌≡◌, ◌≢◌, ◌⊎◌, ℕ, List, Option, None, Result, Ok, Err}
use Rattle.std.specs.Io.KnownBytes.{Appends, Keeps}
use Rattle.std.specs.declared.io.ErrorKind.{ErrorKind}
use Rattle.isa_model.specs.declared.map_defs.MapDef.{MapDef}
use Rattle.isa_model.specs.Machine.States.{KeyValues}
use Rattle.frames.specs.Sources.{Origin}
use Rattle.host.specs.declared.errors.HostError.{HostError}
use Rattle.host.specs.declared.errors.HostError.TheVariants as failure
use Rattle.host.specs.declared.traced.Counted.{Counted}
use Rattle.host.specs.Writing.{Outputs}
use Rattle.map_texts.specs.Listings.{text_of}
use Rattle.commands.specs.declared.outcomes.TaskOutcome.{TaskOutcome}
use Rattle.commands.specs.declared.outcomes.TaskOutcome.TheVariants.{NoMemory}
use Rattle.commands.specs.Saying.{AppendsPart}
use Rattle.commands.specs.Statuses.{IsWriteFailure, IsWriteFailureBy}
use Rattle.commands.specs.Streams.{IsBeginningOf}
use Rattle.filtering.specs.declared.delivering.Names.{Names}
use Rattle.filtering.specs.declared.ready.Ready.{Ready}
use Rattle.filtering.specs.Running.{RunsReady}

-- how messages name the outputs of a run
pub record OutputNames : Type 0 where
  pub report : List ℕ
  pub sent : List ℕ

abbrev pub names_of : Names → OutputNames
names_of names = record { report = names.report.now; sent = names.sent.now }

-- how the task ends after a run, if an output failed or memory ran out: `why` is the cause at the
-- report, and `cause` that at the frames out
abbrev pub FailsAs : OutputNames → (why cause : Option ErrorKind) → Result Counted HostError
    → TaskOutcome → Type 0
FailsAs names why cause (Ok counted) o =
    IsWriteFailureBy names.sent cause o ⊎ IsWriteFailureBy names.report why o
FailsAs names why cause (Err failure.Memory) o = o ≡ NoMemory
FailsAs names why cause (Err failure.Report) o = IsWriteFailureBy names.report why o
FailsAs names why cause (Err failure.Frames) o = IsWriteFailureBy names.sent cause o

-- `handed` is what was written to the buffer of the frames out. Their file got all of it, the
-- report did not fail, and the result is the run's; or the result is how the task ends, and the
-- file got a beginning.
abbrev pub Delivers : OutputNames → (why cause : Option ErrorKind) → Result Counted HostError
    → (handed got : Option (List ℕ)) → Result Counted TaskOutcome → Type 0
Delivers names why cause ended handed got result =
    ((counted : Counted) × (ended ≡ Ok counted) × (result ≡ Ok counted) × (why ≡ None)
    × Keeps handed got)
    ⊎ ((o : TaskOutcome) × (result ≡ Err o) × FailsAs names why cause ended o
    × IsBeginningOf got handed)

-- the report's file got all that was written to its buffer, unless it failed, and then a beginning
pub record GetsReport (why : Option ErrorKind) (handed got : Option (List ℕ)) : Type 0 where
  pub whole : why ≡ None → Keeps handed got
  pub part : IsBeginningOf got handed

-- A program is run on a frame stream from these contents of the maps on. What is handed to the
-- buffers is exactly the report and the frames out of the packet frames that were found, which are
-- those that the source's bytes spell, if those are known; the result has the counts and the maps.
pub record Filters (ready : Ready) (contents : List KeyValues) (source : Origin)
    (names : OutputNames) (why cause : Option ErrorKind) (old new : Outputs)
    (result : Result Counted TaskOutcome) : Type 0 where
  pub ended : Result Counted HostError
  pub handed : Outputs
  pub untouched : ended ≡ Err failure.Memory → handed ≡ old
  pub runs : ended ≢ Err failure.Memory → RunsReady ready contents source old handed ended
  pub report : GetsReport why handed.report new.report
  pub ends : Delivers names why cause ended handed.sent new.sent result

-- the lines of what the maps hold were written to the file at the path; or a beginning of them was
abbrev pub StoresMaps : List MapDef → List KeyValues → List ℕ → (before after : Option (List ℕ))
    → Result (Unit {0}) TaskOutcome → Type 0
StoresMaps rows contents path before after (Ok done) = Appends before after (text_of rows contents)
StoresMaps rows contents path before after (Err o) =
    IsWriteFailure path o
    × ((handed : Option (List ℕ)) × AppendsPart before handed (text_of rows contents)
    × IsBeginningOf after handed)
