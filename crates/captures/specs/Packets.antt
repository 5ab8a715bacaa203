-- What a call says of a record that was taken, with its frame in a block.
use Rattle.std.specs.Prelude.{ℕ, ◌≤◌, List, [], ◌∷◌, slice_range, Result, Ok, Err}
use Rattle.captures.specs.declared.forms.PcapngForm.{PcapngForm}
use Rattle.captures.specs.declared.forms.CaptureFormat.{CaptureFormat}
use Rattle.captures.specs.declared.forms.CaptureFormat.TheVariants as formats
use Rattle.captures.specs.declared.interfaces.Interface.{Interface}
use Rattle.captures.specs.declared.packets.CapturedHead.{CapturedHead}
use Rattle.captures.specs.declared.packets.FramedPacket.{FramedPacket}
use Rattle.captures.specs.declared.packets.PacketFault.{PacketFault}
use Rattle.captures.specs.declared.records.TakenRecord.{TakenRecord}
use Rattle.captures.specs.declared.records.TakenRecord.TheVariants as taken
use Rattle.captures.specs.Pcap.{CapturedPacket}
use Rattle.captures.specs.Captured.{SaidRecord}

abbrev pub packet_with : CapturedHead → List ℕ → CapturedPacket
packet_with head body = record {
  head = head.head;
  body = body;
  captured = head.captured;
  original = head.original;
  reason = head.reason;
}

-- the packet whose frame is in a block
abbrev pub framed_packet : List ℕ → FramedPacket → CapturedPacket
framed_packet block p = packet_with p.head (slice_range block p.from p.to)

abbrev pub packet_framed : List ℕ → Result FramedPacket PacketFault
    → Result CapturedPacket PacketFault
packet_framed block (Ok p) = Ok (framed_packet block p)
packet_framed block (Err fault) = Err fault

-- the frame is in a block of n bytes
abbrev pub IsFramed : ℕ → Result FramedPacket PacketFault → Type 0
IsFramed n (Ok p) = (p.from ≤ p.to) × (p.to ≤ n)
IsFramed n (Err fault) = Unit {0}

abbrev pub taken_by : Result FramedPacket PacketFault → Result TakenRecord PacketFault
taken_by (Ok p) = Ok (taken.Packet p)
taken_by (Err fault) = Err fault

-- what a record says, with the block after it was taken, and the interfaces after it
abbrev pub said_with : CaptureFormat → List Interface → List ℕ → Result TakenRecord PacketFault
    → Result SaidRecord PacketFault
said_with format interfaces block (Err fault) = Err fault
said_with format interfaces block (Ok (taken.Packet p)) = Ok (record {
  format = format;
  interfaces = interfaces;
  packets = framed_packet block p ∷ [];
})
said_with format interfaces block (Ok (taken.Passed after)) =
    Ok (record { format = after; interfaces = interfaces; packets = [] })

-- the same of a block of a pcapng file
abbrev pub block_with : PcapngForm → List Interface → List ℕ → Result TakenRecord PacketFault
    → Result SaidRecord PacketFault
block_with form interfaces block result = said_with (formats.Pcapng form) interfaces block result

-- the frame of a packet is in a block of n bytes
abbrev pub IsFrameIn : ℕ → Result TakenRecord PacketFault → Type 0
IsFrameIn n (Ok (taken.Packet p)) = (p.from ≤ p.to) × (p.to ≤ n)
IsFrameIn n (Ok (taken.Passed after)) = Unit {0}
IsFrameIn n (Err fault) = Unit {0}
