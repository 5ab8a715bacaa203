-- The bytes of a capture of packet frames, in the pcap and the pcapng format, with times in
-- nanoseconds and packets that begin with an Ethernet head; the lowest byte of a number first.
-- draft-ietf-opsawg-pcap, draft-ietf-opsawg-pcapng; the fields are in specs/Pcap and specs/Pcapng.
use Rattle.std.specs.Prelude.{ℕ, zero, suc, ◌+◌, ◌-◌, ◌/◌, ◌%◌, ◌^◌, ◌==◌, Bool, true, not, List, [], ◌∷◌, ◌++◌, length, replicate, max, min, nat_lt, codes, decimal, if◌then◌else◌}
use Rattle.byteorder.specs.Endian.{little_bytes}
use Rattle.isa_model.specs.Reporting.Streams.{PacketFrame}
use Rattle.captures.specs.declared.kinds.CaptureKind.{CaptureKind}
use Rattle.captures.specs.declared.kinds.CaptureKind.TheVariants.{Pcap, Pcapng}
use Rattle.captures.specs.declared.kinds.CaptureForm.{CaptureForm}
use Rattle.captures.specs.declared.kinds.LostCounts.{LostCounts}
use Rattle.captures.specs.Pcap.{max_captured}
use Rattle.captures.specs.Pcapng.{padded, max_interfaces}

-- ---- pcap

-- the file head: version 2.4, the snap length, and the link type of Ethernet
abbrev pub pcap_head : List ℕ
pcap_head =
    little_bytes 4 0xa1b23c4d
    ++ (little_bytes 2 2
    ++ (little_bytes 2 4
    ++ (little_bytes 4 0
    ++ (little_bytes 4 0 ++ (little_bytes 4 max_captured ++ little_bytes 4 1)))))

-- the second of a time; a pcap has 32 bits for it
abbrev pub pcap_second : ℕ → ℕ
pcap_second time = time / 10 ^ 9 % 2 ^ 32

-- the bytes before those of a packet
unfoldable pub packet_head : ℕ → ℕ → List ℕ
packet_head time size =
    little_bytes 4 (pcap_second time)
    ++ (little_bytes 4 (time % 10 ^ 9) ++ (little_bytes 4 size ++ little_bytes 4 size))

abbrev pub pcap_packet : PacketFrame → List ℕ
pcap_packet f = packet_head f.head.time (length f.body) ++ f.body

-- ---- pcapng

-- the block that begins a section, of version 1.0 and of unknown length
abbrev pub section_block : List ℕ
section_block =
    little_bytes 4 0x0a0d0d0a
    ++ (little_bytes 4 28
    ++ (little_bytes 4 0x1a2b3c4d
    ++ (little_bytes 2 1
    ++ (little_bytes 2 0 ++ (little_bytes 8 (2 ^ 64 - 1) ++ little_bytes 4 28)))))

-- a block that describes an interface: the link type of Ethernet, no snap length, and the option
-- if_tsresol for nanoseconds
abbrev pub interface_block : List ℕ
interface_block =
    little_bytes 4 1
    ++ (little_bytes 4 32
    ++ (little_bytes 2 1
    ++ (little_bytes 2 0
    ++ (little_bytes 4 0
    ++ (little_bytes 2 9
    ++ (little_bytes 2 1 ++ (9 ∷ 0 ∷ 0 ∷ 0 ∷ [] ++ (little_bytes 4 0 ++ little_bytes 4 32))))))))

-- n of them
unfoldable pub interface_blocks : ℕ → List ℕ
interface_blocks zero = []
interface_blocks (suc n) = interface_block ++ interface_blocks n

-- what pads a value of n bytes to 32 bits
abbrev pub padding : ℕ → List ℕ
padding n = replicate (padded n - n) 0

-- the comment that says a reason
abbrev pub reason_comment : ℕ → List ℕ
reason_comment reason = codes "reason " ++ decimal reason

-- the options opt_comment, with a reason, and opt_endofopt
abbrev pub reason_options : ℕ → List ℕ
reason_options reason =
    little_bytes 2 1
    ++ (little_bytes 2 (length (reason_comment reason))
    ++ (reason_comment reason
    ++ (padding (length (reason_comment reason)) ++ replicate 4 0)))

-- the options of a packet, by its reason
unfoldable pub packet_options : ℕ → List ℕ
packet_options reason = if reason == 0 then [] else reason_options reason

-- the interface that a packet's block names: its own, if as many are described, or else the first
abbrev pub named_interface : ℕ → ℕ
named_interface interface = if nat_lt interface max_interfaces then interface else 0

-- how many bytes the block of a packet has
abbrev pub block_length : PacketFrame → ℕ
block_length f = 32 + padded (length f.body) + length (packet_options f.reason)

-- the bytes of an enhanced packet block before those of the packet
unfoldable pub block_head : (total time interface size : ℕ) → List ℕ
block_head total time interface size =
    little_bytes 4 6
    ++ (little_bytes 4 total
    ++ (little_bytes 4 interface
    ++ (little_bytes 4 (time / 2 ^ 32)
    ++ (little_bytes 4 (time % 2 ^ 32) ++ (little_bytes 4 size ++ little_bytes 4 size)))))

-- the enhanced packet block of a packet
abbrev pub packet_block : PacketFrame → List ℕ
packet_block f =
    block_head (block_length f) f.head.time (named_interface f.head.interface) (length f.body)
    ++ (f.body
    ++ (padding (length f.body)
    ++ (packet_options f.reason ++ little_bytes 4 (block_length f))))

-- ---- what is lost

-- whether a frame with this reason is written
abbrev pub is_kept : CaptureForm → ℕ → Bool
is_kept form reason = if form.has_reasons then true else reason == 0

-- one more, up to the largest number of 64 bits
abbrev pub counted : Bool → ℕ → ℕ
counted lost count = if lost then min (count + 1) (2 ^ 64 - 1) else count

-- the counts after a frame that is written
abbrev pub lost_after : CaptureKind → LostCounts → PacketFrame → LostCounts
lost_after Pcap lost f = record {
  interfaces = counted (not (f.head.interface == 0)) lost.interfaces;
  queues = counted (not (f.head.queue == 0)) lost.queues;
  reasons = counted (not (f.reason == 0)) lost.reasons;
  times = counted (not (nat_lt (f.head.time / 10 ^ 9) (2 ^ 32))) lost.times;
}
lost_after Pcapng lost f = record {
  interfaces = counted (not (nat_lt f.head.interface max_interfaces)) lost.interfaces;
  queues = counted (not (f.head.queue == 0)) lost.queues;
  reasons = lost.reasons;
  times = lost.times;
}

-- ---- files

-- a capture that is being written: its bytes so far, how many interfaces these describe, and what
-- they do not say
pub record CaptureSoFar : Type 0 where
  pub bytes : List ℕ
  pub described : ℕ
  pub lost : LostCounts

abbrev pub file_start : CaptureKind → List ℕ
file_start Pcap = pcap_head
file_start Pcapng = section_block ++ interface_block

abbrev pub none_lost : LostCounts
none_lost = record { interfaces = 0; queues = 0; reasons = 0; times = 0 }

-- a capture without packets
abbrev pub empty_capture : CaptureForm → CaptureSoFar
empty_capture form = record { bytes = file_start form.kind; described = 1; lost = none_lost }

-- how many interfaces are described after a packet: all up to the one that it names
abbrev pub described_after : CaptureKind → ℕ → PacketFrame → ℕ
described_after Pcap described f = described
described_after Pcapng described f = max described (named_interface f.head.interface + 1)

-- what a packet adds, after some interfaces were described
abbrev pub packet_spelled : CaptureKind → ℕ → PacketFrame → List ℕ
packet_spelled Pcap described f = pcap_packet f
packet_spelled Pcapng described f =
    interface_blocks (described_after Pcapng described f - described) ++ packet_block f

-- the capture after one more frame
abbrev pub with_packet : CaptureKind → CaptureSoFar → PacketFrame → CaptureSoFar
with_packet kind c f = record {
  bytes = c.bytes ++ packet_spelled kind c.described f;
  described = described_after kind c.described f;
  lost = lost_after kind c.lost f;
}

abbrev pub with_frame : CaptureForm → CaptureSoFar → PacketFrame → CaptureSoFar
with_frame form c f = if is_kept form f.reason then with_packet form.kind c f else c

unfoldable pub with_frames : CaptureForm → CaptureSoFar → List PacketFrame → CaptureSoFar
with_frames form c [] = c
with_frames form c (f ∷ fs) = with_frames form (with_frame form c f) fs

-- the capture of these frames
abbrev pub capture_of : CaptureForm → List PacketFrame → CaptureSoFar
capture_of form frames = with_frames form (empty_capture form) frames
