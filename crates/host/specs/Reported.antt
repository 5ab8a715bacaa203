-- What a run over a stream with checks writes.
use Rattle.std.specs.Prelude.{◌≡◌, List, ◌++◌, Result, Err, IfOk, ◌⊎◌}
use Rattle.isa_model.specs.declared.streams.Finish.{Finish}
use Rattle.isa_model.specs.declared.versions.Version.{Version}
use Rattle.isa_model.specs.Reporting.Streams.{PacketFrame, Stream, stream_with, AreOpen}
use Rattle.isa_model.specs.Reporting.Reports.{OutputPiece}
use Rattle.frames.specs.Sources.{Origin}
use Rattle.frames.specs.Inputs.{AreReadFrom, IsBegunBy}
use Rattle.host.specs.declared.errors.HostError.{HostError}
use Rattle.host.specs.Writing.{Outputs, WritesEach, WroteBefore}

-- The stream was read to its end, or to a fault: it is the stream of the source's bytes, where they
-- are known. The heads, the lengths of the bodies and the reasons fit, and the bodies are bytes.
-- The stream's pieces were written, all of them or those before one that failed, and the result
-- agrees with the stream, as `Agrees` says.
pub record ReportsWhole {X : Type 0} (source : Origin) (pieces : Stream → List OutputPiece)
    (Agrees : Stream → X → Type 0) (old new : Outputs) (result : Result X HostError) : Type 0 where
  pub found : Stream
  pub are_open : AreOpen found.version found.frames
  pub read : AreReadFrom source found
  pub writes : WritesEach old new result (pieces found)
  pub tells : IfOk result (Agrees found)

-- An output failed at the magic or at a packet frame, and no more was read: the source begins with
-- these frames, where its bytes are known. However its stream goes on and ends, the outputs hold a
-- beginning of that stream's report.
pub record ReportsFront (source : Origin) (pieces : Stream → List OutputPiece)
    (old new : Outputs) (error : HostError) : Type 0 where
  pub version : Version
  pub frames : List PacketFrame
  pub are_open : AreOpen version frames
  pub begun : IsBegunBy source version frames
  pub writes : (more : List PacketFrame) (finish : Finish)
      → WroteBefore old new (pieces (stream_with version (frames ++ more, finish))) error

-- What was written is the report of the source's stream. After a failed output it is a beginning of
-- that report; only where the failed piece is the magic or one of a frame was the stream not read
-- to its end or fault.
abbrev pub Reports : {X : Type 0} → Origin → (Stream → List OutputPiece)
    → (Stream → X → Type 0)
    → Outputs → Outputs → Result X HostError → Type 0
Reports source pieces Agrees old new result =
    ReportsWhole source pieces Agrees old new result
    ⊎ ((error : HostError) × (result ≡ Err error) × ReportsFront source pieces old new error)
