-- What a run on files does. No contract can say what the files hold. `old` and `new` are what was
-- said, on standard output, or on standard error if the frames out go to standard output.
use Rattle.std.specs.Prelude.{◌≡◌, ◌⊎◌, ℕ, List, Option, Result, Ok, Err, codes, unwrap_or}
use Rattle.std.specs.declared.io.ErrorKind.{ErrorKind}
use Rattle.isa_model.specs.Machine.States.{KeyValues}
use Rattle.frames.specs.Sources.{Origin}
use Rattle.host.specs.declared.traced.Counted.{Counted}
use Rattle.host.specs.Writing.{Outputs}
use Rattle.messages.specs.declared.forms.FileForm.{FileForm}
use Rattle.commands.specs.declared.outcomes.TaskOutcome.{TaskOutcome}
use Rattle.commands.specs.declared.endings.Ending.{Ending}
use Rattle.commands.specs.Files.{LoadsNone, ReadsImage}
use Rattle.commands.specs.Known.{Plainly}
use Rattle.words.specs.declared.tasks.StepLimit.{StepLimit}
use Rattle.words.specs.FilterRequests.{FilterRequest, JudgingRequest, Verified, Shown, Checked}
use Rattle.commands.specs.Commands.{ShowsNone, ShowsSome}
use Rattle.commands.specs.Judging.{IsBoundOf, RefusesProgram}
use Rattle.commands.specs.Known.{IsKnownOfProgram}
use Rattle.filtering.specs.declared.ready.Ready.{Ready}
use Rattle.filtering.specs.declared.ready.Ready.TheVariants.{Bounded, Tested}
use Rattle.filtering.specs.Delivering.{Filters}
use Rattle.filtering.specs.Filling.{BeginsNot, BeginsWith}
use Rattle.filtering.specs.Finishing.{WritesEnd}
use Rattle.filtering.specs.Finishing.{WithUnsaid}
use Rattle.filtering.specs.Opening.{IsOpenFailure, output_name}
use Rattle.filtering.specs.Running.{program_of}

-- a program is run from these contents on; the report, if it is wanted, and the frames out go to
-- outputs of these names
pub record RunsWanted (ready : Ready) (contents : List KeyValues) (source : Origin)
    (report : Option (List ℕ)) (sent : List ℕ) (result : Result Counted TaskOutcome) : Type 0 where
  pub why : Option ErrorKind
  pub cause : Option ErrorKind
  pub before : Outputs
  pub after : Outputs
  pub filters : Filters ready contents source
      (record { report = unwrap_or report (codes "standard output"); sent = sent })
      why cause before after result

-- after a run its end is written; or the run failed, and nothing is said
abbrev pub EndsRun : Result Counted TaskOutcome → FileForm → Option (List ℕ) → Option (List ℕ)
    → Option (List ℕ) → TaskOutcome → Type 0
EndsRun (Ok counted) form maps_out old new result = WritesEnd counted form maps_out old new result
EndsRun (Err o) form maps_out old new result = (result ≡ o) × (new ≡ old)

-- a program is run on a source, whose first bytes have this file form, and then the end is written
pub record FiltersSome (ready : Ready) (contents : List KeyValues) (source : Origin)
    (form : FileForm) (report : Option (List ℕ)) (sent : List ℕ) (maps_out : Option (List ℕ))
    (old new : Option (List ℕ)) (result : TaskOutcome) : Type 0 where
  pub ended : Result Counted TaskOutcome
  pub runs : RunsWanted ready contents source report sent ended
  pub ends : EndsRun ended form maps_out old new result

-- the frames or an output could not be opened, or the program is run on some source
abbrev pub OpensAndFilters : Ready → List KeyValues → FilterRequest → Option (List ℕ)
    → Option (List ℕ) → TaskOutcome → Type 0
OpensAndFilters ready contents request old new result =
    (IsOpenFailure request result × (new ≡ old))
    ⊎ ((source : Origin) × (form : FileForm)
    × FiltersSome ready contents source form request.report (output_name request.files.out)
    request.maps_out old new result)

-- a program that is ready is run from new maps on, which a text may have filled
abbrev pub FiltersOn : Ready → FilterRequest → Option (List ℕ) → Option (List ℕ) → TaskOutcome
    → Type 0
FiltersOn ready request old new result =
    BeginsNot (program_of ready) request.maps old new result
    ⊎ ((contents : List KeyValues) × BeginsWith (program_of ready) request.maps contents
    × OpensAndFilters ready contents request old new result)

-- by what is done with the program before: it is verified, or a proof table of it is tested, or
-- every access is tested while it runs
abbrev pub FiltersBy : JudgingRequest → FilterRequest → Option (List ℕ) → Option (List ℕ) → Ending
    → Type 0
FiltersBy Verified request old new result =
    Plainly (LoadsNone request.files.image old new) result
    ⊎ (ReadsImage (λ p. RefusesProgram p old new result.outcome × IsKnownOfProgram p result)
    ⊎ ReadsImage (λ p. (bound : ℕ) × IsBoundOf p bound
    × WithUnsaid (FiltersOn (Bounded (record { program = p; bound = bound })) request old new)
    result))
FiltersBy (Shown table) request old new result =
    ShowsNone (record { image = request.files.image; table = table }) old new result
    ⊎ ShowsSome (λ v. WithUnsaid (FiltersOn (Bounded v) request old new) result)
FiltersBy (Checked steps) request old new result =
    Plainly (LoadsNone request.files.image old new) result
    ⊎ ReadsImage (λ p. (limit : StepLimit) × (limit.steps ≡ steps)
    × WithUnsaid (FiltersOn (Tested p limit) request old new) result)

-- what a request does
abbrev pub FiltersFiles : FilterRequest → Option (List ℕ) → Option (List ℕ) → Ending → Type 0
FiltersFiles request old new result = FiltersBy request.judging request old new result
