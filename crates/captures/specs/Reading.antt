-- What the calls of a capture reader find, and what they do to the bytes that its source has left.
use Rattle.std.specs.Prelude.{◌≡◌, ℕ, suc, ◌≤◌, List, [], ◌∷◌, length, max, Option, Some, None, Result, Ok, Err, IfOk}
use Rattle.std.specs.Io.KnownBytes.{prepend_known}
use Rattle.captures.specs.declared.forms.CaptureFormat.{CaptureFormat}
use Rattle.captures.specs.declared.forms.Reasons.{Reasons}
use Rattle.captures.specs.declared.interfaces.Interface.{Interface}
use Rattle.captures.specs.declared.packets.PacketEnd.{PacketEnd}
use Rattle.captures.specs.declared.reader.OpenFailure.{OpenFailure}
use Rattle.captures.specs.declared.reader.OpenFailure.TheVariants as failure
use Rattle.captures.specs.Pcap.{CapturedPacket}
use Rattle.captures.specs.Captured.{captured, head_size, record_size, packets_from}

-- where a reader is: before a record of this format, with the interfaces that are described so far,
-- at this offset, or after all that it will find
pub data CapturePosition : Type 0 where
  Before : CaptureFormat → List Interface → ℕ → CapturePosition
  Past : PacketEnd → CapturePosition

-- a reader: its source, the bytes that it took from it for the next record, its position, and the
-- frame of the packet that it found last
pub record CaptureState (R : Type 0) : Type 0 where
  pub source : R
  pub front : List ℕ
  pub position : CapturePosition
  pub frame : List ℕ

-- the bytes that a reader has left
abbrev pub bytes_left : {R : Type 0} → (R → Option (List ℕ)) → CaptureState R → Option (List ℕ)
bytes_left remaining state = prepend_known state.front (remaining state.source)

-- the packets that a reader with these bytes left will find, and how they end
abbrev pub packets_left : CapturePosition → List ℕ → List CapturedPacket × PacketEnd
packets_left (Before format interfaces offset) bytes =
    packets_from (suc (length bytes)) format interfaces offset bytes
packets_left (Past stop) bytes = ([], stop)

-- what a call finds: a packet, how the packets end, or nothing yet
pub data CaptureFinding : Type 0 where
  FoundPacket : CapturedPacket → CaptureFinding
  FoundEnd : PacketEnd → CaptureFinding
  Unread : CaptureFinding

-- what is found, and then these
abbrev pub then_packets : CaptureFinding → List CapturedPacket × PacketEnd
    → List CapturedPacket × PacketEnd
then_packets (FoundPacket packet) later = (packet ∷ later.0, later.1)
then_packets (FoundEnd stop) later = ([], stop)
then_packets Unread later = later

-- What a call finds where the source's bytes are known: with what is found after it, exactly the
-- packets that were left. A failure of the source loses none.
abbrev pub FindsPacket : CapturePosition → Option (List ℕ) → CapturePosition → Option (List ℕ)
    → CaptureFinding → Type 0
FindsPacket before None after new finding = Unit {0}
FindsPacket before (Some bytes) after None finding = ⊥
FindsPacket before (Some bytes) after (Some rest) finding =
    packets_left before bytes ≡ then_packets finding (packets_left after rest)

-- the bytes that were taken for a record are of no other one
abbrev pub IsRecordPart : CaptureFormat → List ℕ → Type 0
IsRecordPart format front =
    IfOk (record_size format front) (λ size. length front ≤ max (head_size format) size)

abbrev pub IsPartOfRecord : CapturePosition → List ℕ → Type 0
IsPartOfRecord (Before format interfaces offset) front = IsRecordPart format front
IsPartOfRecord (Past stop) front = Unit {0}

-- ---- opening

-- these bytes are those of a capture, and a reader at the position with the rest of them left finds
-- its packets
abbrev pub IsOpened : Reasons → List ℕ → CapturePosition → Option (List ℕ) → Type 0
IsOpened reasons bytes position None = ⊥
IsOpened reasons bytes position (Some rest) =
    captured reasons bytes ≡ Ok (packets_left position rest)

-- what opening a capture comes to, where the source's bytes are known
abbrev pub OpensCapture : {R : Type 0} → Reasons → (R → Option (List ℕ)) → Option (List ℕ)
    → Result (CaptureState R) OpenFailure → Type 0
OpensCapture reasons remaining None result = Unit {0}
OpensCapture reasons remaining (Some bytes) (Ok reader) =
    IsOpened reasons bytes reader.position (bytes_left remaining reader)
OpensCapture reasons remaining (Some bytes) (Err (failure.Refused refusal)) =
    captured reasons bytes ≡ Err refusal
OpensCapture reasons remaining (Some bytes) (Err failure.Unread) = Unit {0}
OpensCapture reasons remaining (Some bytes) (Err failure.NoMemory) = Unit {0}
