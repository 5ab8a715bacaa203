-- What a program that is ready writes when it runs on a frame stream.
use Rattle.std.specs.Prelude.{List, Result}
use Rattle.isa_model.specs.{Program}
use Rattle.isa_model.specs.Machine.States.{KeyValues}
use Rattle.isa_model.specs.Reporting.Reports.{checked_report_from}
use Rattle.frames.specs.Sources.{Origin}
use Rattle.host.specs.declared.errors.HostError.{HostError}
use Rattle.host.specs.declared.traced.Counted.{Counted}
use Rattle.host.specs.Accepted.{ReportsRunFrom}
use Rattle.host.specs.Counts.{ShowsCounted, ShowsTracedCounted}
use Rattle.host.specs.Reported.{Reports}
use Rattle.host.specs.Writing.{Outputs}
use Rattle.filtering.specs.declared.ready.Ready.{Ready}
use Rattle.filtering.specs.declared.ready.Ready.TheVariants.{Bounded, Tested}

abbrev pub program_of : Ready → Program
program_of (Bounded v) = v.program
program_of (Tested p limit) = p

-- What is written is the report of the program and of the packet frames that were found, from these
-- contents of the maps on. The result has the counts of that report's frames, and the maps as the
-- last frame leaves them.
abbrev pub RunsReady : Ready → List KeyValues → Origin → Outputs → Outputs
    → Result Counted HostError → Type 0
RunsReady (Bounded v) contents source old new result =
    ReportsRunFrom v contents source (ShowsCounted v contents) old new result
RunsReady (Tested p limit) contents source old new result =
    Reports source (checked_report_from p limit.steps contents)
    (ShowsTracedCounted p limit.steps contents) old new result
