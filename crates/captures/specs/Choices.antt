-- The bytes that the frame stream of a file or of a capture has left.
use Rattle.std.specs.Prelude.{◌≡◌, ℕ, Bool, true, false, List, [], Option, Some, None, Result, Ok, Err}
use Rattle.captures.specs.declared.choices.FramesOf.{FramesOf}
use Rattle.captures.specs.declared.choices.FramesOf.TheVariants as frames
use Rattle.captures.specs.declared.forms.Reasons.{Reasons}
use Rattle.captures.specs.declared.packets.CaptureDamage.{CaptureDamage}
use Rattle.captures.specs.declared.packets.PacketEnd.{PacketEnd}
use Rattle.captures.specs.declared.reader.OpenFailure.{OpenFailure}
use Rattle.captures.specs.declared.counts.CaptureCounts.{CaptureCounts}
use Rattle.captures.specs.FrameBytes.{stream_of_capture}
use Rattle.captures.specs.Counts.{none_counted}
use Rattle.captures.specs.Damage.{IsEndOf, damage_met}
use Rattle.captures.specs.Streams.{counts_left, end_left, stream_left}

abbrev pub frames_left : {R : Type 0} → (R → Option (List ℕ)) → FramesOf R → Option (List ℕ)
frames_left remaining (frames.Stream source) = remaining source
frames_left remaining (frames.Capture stream) = stream_left remaining stream
frames_left remaining frames.Refused = Some []

-- these are the bytes of the source, or of the stream that they become, where they are known
abbrev pub IsFramesOf : Reasons → Option (List ℕ) → Bool → Option (List ℕ) → Type 0
IsFramesOf reasons known false left = left ≡ known
IsFramesOf reasons None true left = Unit {0}
IsFramesOf reasons (Some bytes) true left = left ≡ Some (stream_of_capture reasons bytes)

-- what opening the frames of a source comes to
abbrev pub OpensFrames : {R : Type 0} → Reasons → (R → Option (List ℕ)) → Option (List ℕ)
    → Bool → Result (FramesOf R) OpenFailure → Type 0
OpensFrames reasons remaining known is_capture (Ok opened) =
    IsFramesOf reasons known is_capture (frames_left remaining opened)
OpensFrames reasons remaining known is_capture (Err why) = Unit {0}

-- ---- counts

-- those of a capture; of a stream nothing is counted
abbrev pub frames_counts : {R : Type 0} → FramesOf R → CaptureCounts
frames_counts (frames.Stream source) = none_counted
frames_counts (frames.Capture stream) = stream.counts
frames_counts frames.Refused = none_counted

-- the same once all packets that are left are found
abbrev pub frames_counts_left : {R : Type 0} → (R → Option (List ℕ)) → FramesOf R
    → Option CaptureCounts
frames_counts_left remaining (frames.Stream source) = Some none_counted
frames_counts_left remaining (frames.Capture stream) = counts_left remaining stream
frames_counts_left remaining frames.Refused = Some none_counted

-- ---- damage

-- what is wrong with a capture, if that was met
abbrev pub frames_damage : {R : Type 0} → FramesOf R → Option CaptureDamage
frames_damage (frames.Stream source) = None
frames_damage (frames.Capture stream) = damage_met stream.reader.position
frames_damage frames.Refused = None

-- how the packets of a capture end that are left; of a stream that is none nothing is said
abbrev pub frames_end_left : {R : Type 0} → (R → Option (List ℕ)) → FramesOf R
    → Option PacketEnd
frames_end_left remaining (frames.Stream source) = None
frames_end_left remaining (frames.Capture stream) = end_left remaining stream
frames_end_left remaining frames.Refused = None

-- of frames that are opened it is how those of the capture end
abbrev pub IsFramesEnd : {R : Type 0} → Reasons → (R → Option (List ℕ)) → Option (List ℕ)
    → FramesOf R → Type 0
IsFramesEnd reasons remaining known (frames.Stream source) = Unit {0}
IsFramesEnd reasons remaining known (frames.Capture stream) =
    IsEndOf reasons known (end_left remaining stream)
IsFramesEnd reasons remaining known frames.Refused = Unit {0}
