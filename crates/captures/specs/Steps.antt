-- The steps of a call of a capture reader.
use Rattle.std.specs.Prelude.{◌≡◌, ℕ, ◌≤◌, List, [], ◌++◌, length, take, drop, vec_len, Option, Some, None, Ok, Err, IfSome}
use Rattle.std.specs.declared.alloc.Global.{Global}
use Rattle.std.specs.declared.vec.Vec.{Vec}
use Rattle.captures.specs.declared.forms.CaptureFormat.{CaptureFormat}
use Rattle.captures.specs.declared.interfaces.Interface.{Interface}
use Rattle.captures.specs.declared.packets.PacketEnd.{PacketEnd}
use Rattle.captures.specs.declared.reader.Captured.{Captured}
use Rattle.captures.specs.declared.reader.Captured.TheVariants as found
use Rattle.captures.specs.declared.reader.CaptureStage.{CaptureStage}
use Rattle.captures.specs.declared.reader.CaptureStage.TheVariants as stage
use Rattle.captures.specs.declared.reader.CaptureStep.{CaptureStep}
use Rattle.captures.specs.declared.reader.CaptureStep.TheVariants as steps
use Rattle.captures.specs.declared.gathering.Gathered.{Gathered}
use Rattle.captures.specs.declared.gathering.Gathered.TheVariants as gathered
use Rattle.captures.specs.Packets.{packet_with, framed_packet}
use Rattle.captures.specs.Captured.{first_offset, max_record, record_size, first_record, moved}
use Rattle.captures.specs.Reading.{CapturePosition, Before, Past, CaptureState, CaptureFinding, FoundPacket, FoundEnd, Unread, IsRecordPart, IsPartOfRecord}

-- The bytes at the front of a block are a whole record of this size; or the packets end with them
-- and the rest of the source's bytes; or they are a part of a record.
abbrev pub IsGathered : CaptureFormat → List Interface → ℕ → Option (List ℕ) → List ℕ → Gathered
    → Type 0
IsGathered format interfaces offset rest front (gathered.Record size) =
    (record_size format front ≡ Ok size) × (length front ≡ size)
IsGathered format interfaces offset rest front (gathered.Stopped stop) =
    IfSome rest (λ bytes. first_record format interfaces offset (front ++ bytes) ≡ Err stop)
IsGathered format interfaces offset rest front gathered.Failed =
    IsRecordPart format front

-- ---- steps

-- where a reader is after a step
abbrev pub position_after : CaptureFormat → List Interface → ℕ → CaptureStep → CapturePosition
position_after format interfaces offset (steps.Packet p size) =
    Before format interfaces (moved offset size)
position_after format interfaces offset (steps.Passed after size) =
    Before after interfaces (moved offset size)
position_after format interfaces offset (steps.Stopped stop) = Past stop
position_after format interfaces offset steps.Failed = Before format interfaces offset

-- what a step finds, with the block after it
abbrev pub finding_at : List ℕ → CaptureStep → CaptureFinding
finding_at block (steps.Packet p size) = FoundPacket (framed_packet block p)
finding_at block (steps.Passed after size) = Unread
finding_at block (steps.Stopped stop) = FoundEnd stop
finding_at block steps.Failed = Unread

-- the frame of a packet is in a block of n bytes, which has room for each record that follows
abbrev pub IsInBlock : ℕ → CaptureStep → Type 0
IsInBlock n (steps.Packet p size) = (p.from ≤ p.to) × (p.to ≤ n)
IsInBlock n (steps.Passed after size) = max_record after ≤ n
IsInBlock n (steps.Stopped stop) = Unit {0}
IsInBlock n steps.Failed = Unit {0}

-- ---- a reader

abbrev pub position_of : List Interface → CaptureStage → CapturePosition
position_of interfaces (stage.Before format offset) = Before format interfaces offset
position_of interfaces (stage.Past stop) = Past stop

-- a block of n bytes has room for the longest record
abbrev pub FitsRecords : ℕ → CaptureStage → Type 0
FitsRecords n (stage.Before format offset) = max_record format ≤ n
FitsRecords n (stage.Past stop) = Unit {0}

-- the block has room for the longest record, the frame is in it, and so are the bytes at its front,
-- which are of one record
pub record HoldsPart (block : Vec ℕ Global) (interfaces : List Interface) (count from to : ℕ)
    (at : CaptureStage) : Type 0 where
  pub room : FitsRecords (vec_len block) at
  pub inside : count ≤ vec_len block
  pub ordered : from ≤ to
  pub within : to ≤ vec_len block
  pub part : IsPartOfRecord (position_of interfaces at) (take count block.items)

-- what a call found, with the frame that the reader has after it
abbrev pub finding_of : List ℕ → Captured → CaptureFinding
finding_of frame (found.Packet head) = FoundPacket (packet_with head frame)
finding_of frame (found.Stopped stop) = FoundEnd stop
finding_of frame found.Failed = Unread

-- the same of one record, which may have no packet
abbrev pub finding_if : List ℕ → Option Captured → CaptureFinding
finding_if frame (Some f) = finding_of frame f
finding_if frame None = Unread

-- a reader that took the head of a capture of this format is before the first record, of which the
-- head may have a part
pub record BeginsAfter {R : Type 0} (head : List ℕ) (format : CaptureFormat) (source : R)
    (reader : CaptureState R) : Type 0 where
  pub is_source : reader.source ≡ source
  pub is_before : reader.position ≡ Before format [] (first_offset format)
  pub is_front : reader.front ≡ drop (first_offset format) head

-- a reader that is past the packets finds the same end again, and reads nothing
abbrev pub StaysPast : {R : Type 0} → CaptureState R → CaptureState R → Captured → Type 0
StaysPast old new result = (stop : PacketEnd) → old.position ≡ Past stop
    → (result ≡ found.Stopped stop) × (new ≡ old)

-- a reader that found the end of the packets is past them
abbrev pub StopsPast : {R : Type 0} → CaptureState R → Captured → Type 0
StopsPast new (found.Packet head) = Unit {0}
StopsPast new (found.Stopped stop) = new.position ≡ Past stop
StopsPast new found.Failed = Unit {0}
