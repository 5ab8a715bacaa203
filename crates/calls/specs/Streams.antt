-- What the call returns for a run over a stream.
use Rattle.std.specs.Prelude.{◌≡◌, ◌≢◌, ℕ, List, [], length, Option, Some, None, Ok}
use Rattle.isa_model.specs.declared.streams.Fault.{Fault}
use Rattle.isa_model.specs.declared.streams.Fault.TheVariants.{BadMagic, TruncatedHead, TooLong, TruncatedBody, ReadFailed, TooManyRecords}
use Rattle.isa_model.specs.Machine.States.{KeyValues}
use Rattle.isa_model.specs.Reporting.Reports.{starting_contents}
use Rattle.isa_model.specs.Reporting.Streams.{ByEnd, stream_of}
use Rattle.bounds.specs.Bounds.{Bounded}
use Rattle.host.specs.declared.tallies.Tally.{Tally}
use Rattle.frames.specs.Sources.{in_memory}
use Rattle.host.specs.Accepted.{RunsWholeFrom, ShowsTallied}
use Rattle.host.specs.Promise.{Promised, stream_in}
use Rattle.host.specs.Tallies.{ShowsTally}
use Rattle.calls.specs.declared.streaming.Streamed.{Streamed}
use Rattle.calls.specs.Crossing.{filled}

abbrev pub fault_number : Fault → ℕ
fault_number BadMagic = 1
fault_number TruncatedHead = 2
fault_number TooLong = 3
fault_number TruncatedBody = 4
fault_number ReadFailed = 5
fault_number TooManyRecords = 6

abbrev pub fault_field : Option (Fault × ℕ) → ℕ
fault_field None = 0
fault_field (Some (fault, offset)) = fault_number fault

abbrev pub offset_field : Option (Fault × ℕ) → ℕ
offset_field None = 0
offset_field (Some (fault, offset)) = offset

-- a tally in numbers, with the sizes of the report and of the frames out
abbrev pub streamed_of : Tally → ℕ → ℕ → Streamed
streamed_of tally report_size sent_size =
    record {
      report = report_size;
      sent = sent_size;
      offset = offset_field tally.fault;
      frames = tally.frames;
      fault = fault_field tally.fault;
    }

-- no read failed
abbrev pub IsReadWell : Tally → Type 0
IsReadWell tally = (offset : ℕ) → tally.fault ≢ Some (ReadFailed, offset)

-- a run of an accepted program over a stream of these bytes, from these contents of the maps on,
-- writes this report and these frames out, and returns this tally; it is the stream of all these
-- bytes, to their end
pub record WritesStreamFrom (a : Bounded) (contents : List KeyValues)
    (source report sent : List ℕ) (tally : Tally) : Type 0 where
  pub runs : RunsWholeFrom a contents (in_memory source) ShowsTallied
      (record { report = Some []; sent = Some [] })
      (record { report = Some report; sent = Some sent }) (Ok tally)
  pub all : runs.found ≡ stream_of (record { bytes = source; ending = ByEnd })
  pub no_failure : IsReadWell tally

-- the same from new maps on
abbrev pub WritesStream : Bounded → List ℕ → List ℕ → List ℕ → Tally → Type 0
WritesStream a source report sent tally =
    WritesStreamFrom a (starting_contents a.program.maps) source report sent tally

-- the bytes are an accepted image, and the buffers hold what a run of its program over the stream
-- writes, with what its last line shows
pub record RunsStream (bytes source old_report old_sent new_report new_sent : List ℕ)
    (out : Streamed) : Type 0 where
  pub report : List ℕ
  pub sent : List ℕ
  pub promised : Promised bytes source report sent
  pub tally : Tally
  pub tells : ShowsTally (stream_in source) tally
  pub report_is : new_report ≡ filled old_report report
  pub sent_is : new_sent ≡ filled old_sent sent
  pub out_is : out ≡ streamed_of tally (length report) (length sent)
