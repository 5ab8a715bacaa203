-- The promise as one term: from the bytes of an image and of a stream to what a run writes.
use Rattle.std.specs.Prelude.{◌≡◌, ℕ, List}
use Rattle.image.specs.Images.{image_bytes}
use Rattle.isa_model.specs.Code.Instructions.{Program}
use Rattle.isa_model.specs.Reporting.Streams.{ByEnd, Stream, stream_of}
use Rattle.isa_model.specs.Reporting.Reports.{OutputPiece, IsReport, starting_contents, report_bytes, frames_out}
use Rattle.isa_model.specs.Running.Outcomes.{AllExit}
use Rattle.bounds.specs.Bounds.{IsVerified}

-- the packet frames of a stream of these bytes, and its end or fault
abbrev pub stream_in : List ℕ → Stream
stream_in bytes = stream_of (record { bytes = bytes; ending = ByEnd })

-- The bytes are the image of a program (`Image::parse`). From every start its run meets no trap and
-- exits within the bound, from 1 to 1,000,000 (`verify`, or `recheck` of a proof table). So do the
-- runs on the stream's packet frames, the maps' contents carried along (`Machine::run`). What is
-- written is exactly the report of these runs, and the frames out: the outcome of each run is that
-- of the step by step meaning, and the last line has the stream's end or fault (`run`).
pub record Promised (image stream report sent : List ℕ) : Type 0 where
  pub program : Program
  pub parsed : image ≡ image_bytes program
  pub bound : ℕ
  pub verified : IsVerified (record { program = program; bound = bound })
  pub exits : AllExit program bound (starting_contents program.maps) (stream_in stream).frames
  pub pieces : List OutputPiece
  pub reported : IsReport program (stream_in stream) pieces
  pub report_is : report ≡ report_bytes pieces
  pub sent_is : sent ≡ frames_out pieces
