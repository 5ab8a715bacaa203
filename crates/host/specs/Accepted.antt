-- What a run of an accepted program over a stream writes.
use Rattle.std.specs.Prelude.{◌≡◌, ◌≤◌, List, ◌++◌, length, Result, Err, IfOk, ◌⊎◌}
use Rattle.isa_model.specs.declared.streams.Finish.{Finish}
use Rattle.isa_model.specs.declared.versions.Version.{Version}
use Rattle.isa_model.specs.Code.Instructions.{Program}
use Rattle.isa_model.specs.Code.Limits.{max_steps}
use Rattle.isa_model.specs.Machine.States.{KeyValues}
use Rattle.isa_model.specs.Reporting.Streams.{PacketFrame, Stream, stream_with, AreOpen}
use Rattle.isa_model.specs.Reporting.Reports.{OutputPiece, IsReportFrom, starting_contents}
use Rattle.isa_model.specs.Running.Outcomes.{AllExit}
use Rattle.bounds.specs.Bounds.{Bounded}
use Rattle.frames.specs.Sources.{Origin}
use Rattle.frames.specs.Inputs.{AreReadFrom, IsBegunBy}
use Rattle.host.specs.declared.errors.HostError.{HostError}
use Rattle.host.specs.declared.tallies.Tally.{Tally}
use Rattle.host.specs.declared.traced.Traced.{Traced}
use Rattle.host.specs.Stops.{noted_of, nothing_noted, AreMaps}
use Rattle.host.specs.Tallies.{tally_of, ShowsTally}
use Rattle.host.specs.Writing.{Outputs, WritesEach, WroteBefore}

-- A program was run over a stream, from these contents of the maps on. The stream was read to its
-- end, or to a fault: it is the stream of the source's bytes, where they are known. The heads, the
-- lengths of the bodies and the reasons fit, and the bodies are bytes. The report of that stream,
-- with the frames out among its pieces, was written, whole or up to a piece that failed: in the run
-- of each packet frame without a reason the meaning of the program meets no trap, and it exits
-- within the bound. The result agrees with the stream and the contents that its last frame leaves,
-- as `Agrees` says.
pub record RunsWholeFrom {X : Type 0} (a : Bounded) (contents : List KeyValues) (source : Origin)
    (Agrees : Stream → List KeyValues → X → Type 0) (old new : Outputs)
    (result : Result X HostError) : Type 0 where
  pub found : Stream
  pub pieces : List OutputPiece
  pub are_open : AreOpen found.version found.frames
  pub read : AreReadFrom source found
  pub is_report : IsReportFrom a.program contents found pieces
  pub exits : AllExit a.program a.bound contents found.frames
  pub writes : WritesEach old new result pieces
  pub tells : IfOk result (Agrees found is_report.last)

-- An output failed at the magic or at a frame, or at the first byte of what comes after these
-- frames, and no more was read: the source begins with these frames, where its bytes are known, and
-- the runs of these exit. However its stream goes on and ends, the outputs hold a beginning of that
-- stream's report.
pub record RunsFrontFrom (a : Bounded) (contents : List KeyValues) (source : Origin)
    (old new : Outputs) (error : HostError) : Type 0 where
  pub version : Version
  pub frames : List PacketFrame
  pub are_open : AreOpen version frames
  pub begun : IsBegunBy source version frames
  pub exits : AllExit a.program a.bound contents frames
  pub writes : (more : List PacketFrame) (finish : Finish) (pieces : List OutputPiece)
      → IsReportFrom a.program contents (stream_with version (frames ++ more, finish)) pieces
      → WroteBefore old new pieces error

-- The bound is from 1 to 1,000,000. What was written is the report of the program and the source's
-- stream; after a failed output it is a beginning of that report, and then the stream may not have
-- been read to its end or fault.
pub record ReportsRunFrom {X : Type 0} (a : Bounded) (contents : List KeyValues) (source : Origin)
    (Agrees : Stream → List KeyValues → X → Type 0) (old new : Outputs)
    (result : Result X HostError) : Type 0 where
  pub some : 1 ≤ a.bound
  pub most : a.bound ≤ max_steps
  pub reports : RunsWholeFrom a contents source Agrees old new result
      ⊎ ((error : HostError) × (result ≡ Err error)
      × RunsFrontFrom a contents source old new error)

-- the tally is what the last line shows, no frame is noted, and the maps have the program's rows
-- and the last contents
abbrev pub ShowsLast : Program → Stream → List KeyValues → Traced → Type 0
ShowsLast p found last traced =
    (traced.tally ≡ tally_of (length found.frames) found.finish)
    × (noted_of traced.stops ≡ nothing_noted) × AreMaps p.maps last traced.maps

-- ---- from new maps on

-- the tally is what the last line shows
abbrev pub ShowsTallied : Stream → List KeyValues → Tally → Type 0
ShowsTallied found last tally = ShowsTally found tally

abbrev pub RunsWhole : Bounded → Origin → Outputs → Outputs → Result Tally HostError → Type 0
RunsWhole a source old new result =
    RunsWholeFrom a (starting_contents a.program.maps) source ShowsTallied old new result

abbrev pub RunsFront : Bounded → Origin → Outputs → Outputs → HostError → Type 0
RunsFront a source old new error =
    RunsFrontFrom a (starting_contents a.program.maps) source old new error

abbrev pub ReportsRun : Bounded → Origin → Outputs → Outputs → Result Tally HostError → Type 0
ReportsRun a source old new result =
    ReportsRunFrom a (starting_contents a.program.maps) source ShowsTallied old new result
