-- The bytes that a capture's frame stream has left, and its counts.
use Rattle.std.specs.Prelude.{◌≡◌, ℕ, List, slice_range, Option, Some, None, Result, Ok, Err, IfOk, option_map}
use Rattle.std.specs.Io.KnownBytes.{prepend_known}
use Rattle.captures.specs.declared.forms.Reasons.{Reasons}
use Rattle.captures.specs.declared.packets.PacketEnd.{PacketEnd}
use Rattle.captures.specs.declared.reader.OpenFailure.{OpenFailure}
use Rattle.captures.specs.declared.reader.OpenFailure.TheVariants as failure
use Rattle.captures.specs.declared.streams.CaptureStream.{CaptureStream}
use Rattle.captures.specs.Captured.{captured}
use Rattle.captures.specs.declared.counts.CaptureCounts.{CaptureCounts}
use Rattle.captures.specs.Reading.{bytes_left}
use Rattle.captures.specs.Counts.{counts_rest, none_counted}
use Rattle.captures.specs.FrameBytes.{stream_of_capture, stream_rest}
use Rattle.captures.specs.Damage.{IsEndOf, end_by}

-- those that are spelled already, and then those of the packets that the reader has left
abbrev pub stream_left : {R : Type 0} → (R → Option (List ℕ)) → CaptureStream R
    → Option (List ℕ)
stream_left remaining s =
    prepend_known (slice_range s.held s.given s.count)
    (option_map (stream_rest s.ended s.reader.position) (bytes_left remaining s.reader))

-- what opening the stream of a capture comes to, where the source's bytes are known
abbrev pub OpensStreamOf : {R : Type 0} → Reasons → (R → Option (List ℕ)) → Option (List ℕ)
    → Result (CaptureStream R) OpenFailure → Type 0
OpensStreamOf reasons remaining None result = Unit {0}
OpensStreamOf reasons remaining (Some bytes) (Ok stream) =
    stream_left remaining stream ≡ Some (stream_of_capture reasons bytes)
OpensStreamOf reasons remaining (Some bytes) (Err (failure.Refused refusal)) =
    captured reasons bytes ≡ Err refusal
OpensStreamOf reasons remaining (Some bytes) (Err failure.Unread) = Unit {0}
OpensStreamOf reasons remaining (Some bytes) (Err failure.NoMemory) = Unit {0}

-- ---- counts

-- nothing is counted when a stream is opened
abbrev pub BeginsCounts : {R : Type 0} → Result (CaptureStream R) OpenFailure → Type 0
BeginsCounts result = IfOk result (λ s. s.counts ≡ none_counted)

-- the counts of a stream once it has found all packets that are left
abbrev pub counts_left : {R : Type 0} → (R → Option (List ℕ)) → CaptureStream R
    → Option CaptureCounts
counts_left remaining s =
    option_map (counts_rest s.counts s.ended s.reader.position) (bytes_left remaining s.reader)

-- ---- how the packets end

abbrev pub end_left : {R : Type 0} → (R → Option (List ℕ)) → CaptureStream R → Option PacketEnd
end_left remaining s = end_by s.reader.position (bytes_left remaining s.reader)

-- of a stream that is opened it is how those of the capture end
abbrev pub BeginsEnd : {R : Type 0} → Reasons → (R → Option (List ℕ)) → Option (List ℕ)
    → Result (CaptureStream R) OpenFailure → Type 0
BeginsEnd reasons remaining known result =
    IfOk result (λ s. IsEndOf reasons known (end_left remaining s))
