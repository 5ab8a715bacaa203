-- The packets of a capture, pcap or pcapng: one record after the other, up to its end or the first
-- fault.
use Rattle.std.specs.Prelude.{◌≡◌, ℕ, zero, suc, ◌+◌, ◌-◌, ◌^◌, ◌==◌, List, [], ◌∷◌, ◌++◌, length, take, drop, min, nat_lt, if◌then◌else◌, Result, Ok, Err}
use Rattle.captures.specs.declared.forms.NumberOrder.TheVariants.{HighFirst}
use Rattle.captures.specs.declared.forms.PcapForm.{PcapForm}
use Rattle.captures.specs.declared.forms.Reasons.{Reasons}
use Rattle.captures.specs.declared.forms.CaptureFormat.{CaptureFormat}
use Rattle.captures.specs.declared.forms.CaptureFormat.TheVariants as formats
use Rattle.captures.specs.declared.forms.CaptureRefusal.{CaptureRefusal}
use Rattle.captures.specs.declared.forms.CaptureRefusal.TheVariants.{TruncatedFileHead}
use Rattle.captures.specs.declared.interfaces.Interface.{Interface}
use Rattle.captures.specs.declared.packets.PacketFault.{PacketFault}
use Rattle.captures.specs.declared.packets.PacketFault.TheVariants.{TruncatedRecord, TooLong, TruncatedPacket}
use Rattle.captures.specs.declared.packets.PacketEnd.{PacketEnd}
use Rattle.captures.specs.declared.packets.PacketEnd.TheVariants as ending
use Rattle.captures.specs.Pcap.{CapturedPacket, opened, max_captured, captured_length, packet_size, packet_of}
use Rattle.captures.specs.Pcapng.{SaidBlock, is_section, block_size, block_said, max_block}

-- ---- how a capture begins

abbrev pub begun_by : Result PcapForm CaptureRefusal → Result CaptureFormat CaptureRefusal
begun_by (Ok form) = Ok (formats.Pcap form)
begun_by (Err refusal) = Err refusal

-- the format of a capture, or why it is not read
unfoldable pub begun : Reasons → List ℕ → Result CaptureFormat CaptureRefusal
begun reasons bytes =
    if nat_lt (length bytes) 24 then Err TruncatedFileHead
    else if is_section bytes
    then Ok (formats.Pcapng (record { order = HighFirst; reasons = reasons }))
    else begun_by (opened bytes)

-- a head is that of a capture of this format
abbrev pub IsFormatOf : List ℕ → CaptureFormat → Type 0
IsFormatOf head format = (reasons : Reasons) × (begun reasons head ≡ Ok format)

-- where its first record is
abbrev pub first_offset : CaptureFormat → ℕ
first_offset (formats.Pcap form) = 24
first_offset (formats.Pcapng form) = 0

-- ---- records

-- how many bytes say how long a record is
abbrev pub head_size : CaptureFormat → ℕ
head_size (formats.Pcap form) = 16
head_size (formats.Pcapng form) = 12

-- the most bytes of a record
abbrev pub max_record : CaptureFormat → ℕ
max_record (formats.Pcap form) = 16 + max_captured
max_record (formats.Pcapng form) = max_block

-- how many bytes a record has that begins with these, or why it is none
abbrev pub record_size : CaptureFormat → List ℕ → Result ℕ PacketFault
record_size (formats.Pcap form) bytes =
    if nat_lt max_captured (captured_length form bytes) then Err TooLong
    else Ok (packet_size form bytes)
record_size (formats.Pcapng form) bytes = block_size form.order bytes

-- what a whole record says: the format and the interfaces after it, and its packets, none or one
pub record SaidRecord : Type 0 where
  pub format : CaptureFormat
  pub interfaces : List Interface
  pub packets : List CapturedPacket

abbrev pub said_of_block : Result SaidBlock PacketFault → Result SaidRecord PacketFault
said_of_block (Err fault) = Err fault
said_of_block (Ok said) = Ok (record {
  format = formats.Pcapng said.section.form;
  interfaces = said.section.interfaces;
  packets = said.packets;
})

abbrev pub record_said : CaptureFormat → List Interface → List ℕ → Result SaidRecord PacketFault
record_said (formats.Pcap form) interfaces bytes = Ok (record {
  format = formats.Pcap form;
  interfaces = interfaces;
  packets = packet_of form bytes ∷ [];
})
record_said (formats.Pcapng form) interfaces bytes =
    said_of_block (block_said (record { form = form; interfaces = interfaces }) bytes)

-- ---- reading

-- the record at the front of some bytes, and how many it has
pub record FoundRecord : Type 0 where
  pub size : ℕ
  pub said : SaidRecord

abbrev pub found_said : ℕ → ℕ → Result SaidRecord PacketFault → Result FoundRecord PacketEnd
found_said offset size (Err fault) = Err (ending.Fault fault offset)
found_said offset size (Ok said) = Ok (record { size = size; said = said })

abbrev pub found_sized : CaptureFormat → List Interface → ℕ → List ℕ → Result ℕ PacketFault
    → Result FoundRecord PacketEnd
found_sized format interfaces offset bytes (Err fault) = Err (ending.Fault fault offset)
found_sized format interfaces offset bytes (Ok size) =
    if nat_lt (length bytes) size then Err (ending.Fault TruncatedPacket offset)
    else found_said offset size (record_said format interfaces (take size bytes))

-- the record that the bytes at the offset begin with, or how the packets end there
unfoldable pub first_record : CaptureFormat → List Interface → ℕ → List ℕ
    → Result FoundRecord PacketEnd
first_record format interfaces offset bytes =
    if length bytes == 0 then Err ending.End
    else if nat_lt (length bytes) (head_size format)
    then Err (ending.Fault TruncatedRecord offset)
    else found_sized format interfaces offset bytes (record_size format bytes)

-- the offset `size` bytes further on, or the largest number of 64 bits if that is less
abbrev pub moved : ℕ → ℕ → ℕ
moved offset size = min (offset + size) (2 ^ 64 - 1)

-- the packets whose records the bytes begin with, at the offset, and how these end; `fuel` is more
-- than the number of bytes
unfoldable pub packets_from : ℕ → CaptureFormat → List Interface → ℕ → List ℕ
    → List CapturedPacket × PacketEnd
packets_from zero format interfaces offset bytes = ([], ending.End)
packets_from (suc fuel) format interfaces offset bytes =
    elim (first_record format interfaces offset bytes) [
      | Err stop ↦ ([], stop)
      | Ok found ↦
          let said = found.said in
          let more =
          packets_from fuel said.format said.interfaces (moved offset found.size)
          (drop found.size bytes) in
          (said.packets ++ more.0, more.1)
    ]

-- the packets of a capture of this format, or why it is not read
abbrev pub captured_by : List ℕ → Result CaptureFormat CaptureRefusal
    → Result (List CapturedPacket × PacketEnd) CaptureRefusal
captured_by bytes (Err refusal) = Err refusal
captured_by bytes (Ok format) =
    let at = first_offset format in
    Ok (packets_from (suc (length bytes)) format [] at (drop at bytes))

-- the packets of a capture's bytes and how they end, or why it is not read
abbrev pub captured : Reasons → List ℕ → Result (List CapturedPacket × PacketEnd) CaptureRefusal
captured reasons bytes = captured_by bytes (begun reasons bytes)
