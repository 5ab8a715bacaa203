-- What a run over a stream writes on a machine that is open, and what the machine's maps hold then.
use Rattle.std.specs.Prelude.{◌≡◌, List, Result, Err, ◌⊎◌}
use Rattle.std.proofs.Common.{inl, inr}
use Rattle.isa_model.specs.Machine.States.{KeyValues}
use Rattle.isa_model.specs.Reporting.Streams.{Stream}
use Rattle.isa_model.specs.Reporting.Reports.{contents_after}
use Rattle.bounds.specs.Bounds.{Bounded}
use Rattle.machine.specs.Running.{Running}
use Rattle.frames.specs.Sources.{Origin}
use Rattle.host.specs.declared.errors.HostError.{HostError}
use Rattle.host.specs.declared.tallies.Tally.{Tally}
use Rattle.host.specs.Accepted.{RunsWholeFrom, RunsFrontFrom, ReportsRunFrom, ShowsTallied}
use Rattle.host.specs.Turns.{rule_of}
use Rattle.host.specs.Writing.{Outputs}

-- a machine's program, and the most steps of a run
abbrev pub bounded_of : Running → Bounded
bounded_of m = record { program = m.program; bound = m.bound }

-- The maps hold what the stream's last frame leaves; or after a failed output, what the last of the
-- frames leaves that were taken.
abbrev pub Leaves : {X : Type 0} (a : Bounded) (contents left : List KeyValues) (source : Origin)
    (Agrees : Stream → List KeyValues → X → Type 0) (old new : Outputs)
    (result : Result X HostError)
    → RunsWholeFrom a contents source Agrees old new result
    ⊎ ((error : HostError) × (result ≡ Err error)
    × RunsFrontFrom a contents source old new error)
    → Type 0
Leaves a contents left source Agrees old new result (inl whole) = left ≡ whole.is_report.last
Leaves a contents left source Agrees old new result (inr (error, is, front)) =
    left ≡ contents_after (rule_of a) contents front.frames

-- The report of the machine's program and the source's stream was written, from what the maps held
-- on, as `ReportsRunFrom` says; and the maps hold what the frames that were taken leave.
abbrev pub ReportsOn : Running → List KeyValues → Origin → Outputs → Outputs
    → Result Tally HostError → Type 0
ReportsOn m left source old new result =
    (runs : ReportsRunFrom (bounded_of m) m.contents source ShowsTallied old new result)
    × Leaves (bounded_of m) m.contents left source ShowsTallied old new result runs.reports
