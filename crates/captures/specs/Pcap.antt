-- The packets of a capture in the pcap format: a file head of 24 bytes, and then packet records of
-- a head and the packet's bytes. draft-ietf-opsawg-pcap.
-- A file head is: u32 magic number, u16 major version, u16 minor version, u32 reserved, u32
-- reserved, u32 snap length, u32 link type, whose upper 16 bits say other things. A record's head
-- is: u32 seconds, u32 microseconds or nanoseconds, u32 captured packet length, u32 original packet
-- length. The magic number says in which order the bytes of all numbers are.
use Rattle.std.specs.Prelude.{ℕ, ◌+◌, ◌*◌, ◌^◌, ◌%◌, ◌==◌, List, length, take, drop, nat_lt, if◌then◌else◌, Option, Some, None, Result, Ok, Err}
use Rattle.byteorder.specs.Endian.{big_number, little_number}
use Rattle.isa_model.specs.declared.frames.FrameHead.{FrameHead}
use Rattle.captures.specs.declared.forms.NumberOrder.{NumberOrder}
use Rattle.captures.specs.declared.forms.NumberOrder.TheVariants.{HighFirst, LowFirst}
use Rattle.captures.specs.declared.forms.TimeUnit.{TimeUnit}
use Rattle.captures.specs.declared.forms.TimeUnit.TheVariants.{Microseconds, Nanoseconds}
use Rattle.captures.specs.declared.forms.LinkType.{LinkType}
use Rattle.captures.specs.declared.forms.PcapForm.{PcapForm}
use Rattle.captures.specs.declared.forms.CaptureRefusal.{CaptureRefusal}
use Rattle.captures.specs.declared.forms.CaptureRefusal.TheVariants.{TruncatedFileHead, NoCapture, UnknownLink}
use Rattle.captures.specs.Links.{link_of, ethernet_frame, interface_of}

-- ---- numbers

-- the number in the first four bytes
abbrev pub number_of : NumberOrder → List ℕ → ℕ
number_of HighFirst bytes = big_number 4 bytes
number_of LowFirst bytes = little_number 4 bytes

-- the number at an offset
abbrev pub field : NumberOrder → ℕ → List ℕ → ℕ
field order at bytes = number_of order (drop at bytes)

-- ---- the file head

-- the order and the unit that the magic number says, if it is that of a pcap file
unfoldable pub pcap_start : List ℕ → Option (NumberOrder × TimeUnit)
pcap_start bytes =
    if big_number 4 bytes == 0xa1b2c3d4 then Some (HighFirst, Microseconds)
    else if little_number 4 bytes == 0xa1b2c3d4 then Some (LowFirst, Microseconds)
    else if big_number 4 bytes == 0xa1b23c4d then Some (HighFirst, Nanoseconds)
    else if little_number 4 bytes == 0xa1b23c4d then Some (LowFirst, Nanoseconds)
    else None

-- a form with this link type, or why it is not read
abbrev pub with_link : NumberOrder → TimeUnit → ℕ → Option LinkType → Result PcapForm CaptureRefusal
with_link order unit number (Some link) = Ok (record { order = order; unit = unit; link = link })
with_link order unit number None = Err (UnknownLink number)

abbrev pub with_start : List ℕ → Option (NumberOrder × TimeUnit) → Result PcapForm CaptureRefusal
with_start bytes (Some start) =
    let number = field start.0 20 bytes % 2 ^ 16 in
    with_link start.0 start.1 number (link_of number)
with_start bytes None = Err NoCapture

-- the form of a pcap file, or why it is not read
unfoldable pub opened : List ℕ → Result PcapForm CaptureRefusal
opened bytes =
    if nat_lt (length bytes) 24 then Err TruncatedFileHead
    else with_start bytes (pcap_start bytes)

-- ---- packet records

-- a packet: its time and interface, its Ethernet frame, how many bytes of it were captured, how
-- many it had on the wire, and why it is not run, or 0
pub record CapturedPacket : Type 0 where
  pub head : FrameHead
  pub body : List ℕ
  pub captured : ℕ
  pub original : ℕ
  pub reason : ℕ

-- the most bytes of a packet. libpcap, MAXIMUM_SNAPLEN
abbrev pub max_captured : ℕ
max_captured = 262144

abbrev pub captured_length : PcapForm → List ℕ → ℕ
captured_length form bytes = field form.order 8 bytes

-- how many bytes the record at the front has
abbrev pub packet_size : PcapForm → List ℕ → ℕ
packet_size form bytes = 16 + captured_length form bytes

-- how many nanoseconds the unit has
abbrev pub nanoseconds : TimeUnit → ℕ
nanoseconds Microseconds = 1000
nanoseconds Nanoseconds = 1

-- the bytes of the packet whose record is at the front
abbrev pub packet_bytes : PcapForm → List ℕ → List ℕ
packet_bytes form bytes = take (captured_length form bytes) (drop 16 bytes)

-- the packet whose record is at the front
abbrev pub packet_of : PcapForm → List ℕ → CapturedPacket
packet_of form bytes = record {
  head =
      record {
        time =
            field form.order 0 bytes * 10 ^ 9
            + field form.order 4 bytes * nanoseconds form.unit;
        interface = interface_of form.link 0 (packet_bytes form bytes);
        queue = 0;
      };
  body = ethernet_frame form.link (packet_bytes form bytes);
  captured = captured_length form bytes;
  original = field form.order 12 bytes;
  reason = 0;
}
