-- The frame stream that a capture becomes: a stream of the second version, with a record for each
-- packet. A frame that is longer than the stream takes leaves an empty one with a reason of its
-- own, so that the frames after it keep their numbers. A fault becomes the fault of streams that
-- says the like.
use Rattle.std.specs.Prelude.{ℕ, ◌-◌, ◌^◌, Bool, true, false, List, [], ◌∷◌, ◌++◌, length, nat_lt, if◌then◌else◌, Result, Ok, Err}
use Rattle.std.specs.List.{flat_map}
use Rattle.isa_model.specs.declared.frames.FrameHead.{FrameHead}
use Rattle.isa_model.specs.declared.versions.Version.TheVariants.{Two}
use Rattle.isa_model.specs.Code.Versions.{stream_magic}
use Rattle.isa_model.specs.Code.Limits.{max_packet}
use Rattle.isa_model.specs.Reporting.Streams.{PacketFrame, head_bytes, record_bytes}
use Rattle.captures.specs.declared.forms.CaptureRefusal.{CaptureRefusal}
use Rattle.captures.specs.declared.forms.Reasons.{Reasons}
use Rattle.captures.specs.declared.packets.PacketFault.TheVariants.{TruncatedRecord, TruncatedPacket}
use Rattle.captures.specs.declared.packets.PacketEnd.{PacketEnd}
use Rattle.captures.specs.declared.packets.PacketEnd.TheVariants as ending
use Rattle.captures.specs.Pcap.{CapturedPacket}
use Rattle.captures.specs.Captured.{captured}
use Rattle.captures.specs.Reading.{CapturePosition, packets_left}

-- the reason of a frame that a stream does not take
abbrev pub too_long_reason : ℕ
too_long_reason = 2 ^ 32 - 1

abbrev pub kept_body : List ℕ → List ℕ
kept_body body = if nat_lt max_packet (length body) then [] else body

abbrev pub kept_reason : List ℕ → ℕ → ℕ
kept_reason body reason = if nat_lt max_packet (length body) then too_long_reason else reason

-- the packet frame that a packet becomes
abbrev pub frame_of : CapturedPacket → PacketFrame
frame_of packet = record {
  head = packet.head;
  body = kept_body packet.body;
  reason = kept_reason packet.body packet.reason;
}

abbrev pub no_head : FrameHead
no_head = record { time = 0; interface = 0; queue = 0 }

-- what stands where the packets end: nothing at their end; a part of a head where one was cut, a
-- head without its frame where a packet was cut, and a head with a length that no frame has where
-- a record is none
abbrev pub end_bytes : PacketEnd → List ℕ
end_bytes ending.End = []
end_bytes (ending.Fault TruncatedRecord offset) = 0 ∷ []
end_bytes (ending.Fault TruncatedPacket offset) = head_bytes Two no_head 1 0
end_bytes (ending.Fault fault offset) = head_bytes Two no_head (2 ^ 32 - 1) 0

-- the records of packets, and what stands where they end
abbrev pub packets_spelled : List CapturedPacket × PacketEnd → List ℕ
packets_spelled found =
    flat_map (λ packet. record_bytes Two (frame_of packet)) found.0 ++ end_bytes found.1

-- the stream of these packets; of a capture that is not read it has no bytes
abbrev pub stream_by : Result (List CapturedPacket × PacketEnd) CaptureRefusal → List ℕ
stream_by (Ok found) = stream_magic Two ++ packets_spelled found
stream_by (Err refusal) = []

-- the stream that the bytes of a capture become
abbrev pub stream_of_capture : Reasons → List ℕ → List ℕ
stream_of_capture reasons bytes = stream_by (captured reasons bytes)

-- ---- a reader's rest

-- what a reader with these bytes left still gives; nothing after the end was given
abbrev pub stream_rest : Bool → CapturePosition → List ℕ → List ℕ
stream_rest true position bytes = []
stream_rest false position bytes = packets_spelled (packets_left position bytes)
