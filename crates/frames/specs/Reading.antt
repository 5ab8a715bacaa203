-- What the calls of a frame reader find, and what they do to the bytes that its source has left.
use Rattle.std.specs.Prelude.{◌≡◌, ℕ, ◌+◌, ◌<◌, ◌≤◌, Bool, true, List, ◌++◌, take, Option, Some, None, Result, Ok, Err}
use Rattle.std.specs.Io.KnownBytes.{Consumes}
use Rattle.isa_model.specs.declared.streams.Fault.{Fault}
use Rattle.isa_model.specs.declared.streams.Fault.TheVariants.{BadMagic, ReadFailed}
use Rattle.isa_model.specs.declared.streams.Finish.{Finish}
use Rattle.isa_model.specs.declared.streams.Finish.TheVariants as finish
use Rattle.isa_model.specs.declared.versions.Version.{Version}
use Rattle.isa_model.specs.declared.versions.Version.TheVariants.{One}
use Rattle.isa_model.specs.Code.Versions.{version_number, stream_magic}
use Rattle.isa_model.specs.Code.Limits.{max_packet}
use Rattle.isa_model.specs.Reporting.Streams.{PacketFrame, IsPacketFrame, max_frames, record_bytes, record_size, InputEnding, ByEnd, ByError, opened, stop_at}
use Rattle.frames.specs.Readers.{Position, Fresh, At, Done, ReaderState}
use Rattle.frames.specs.declared.reader.Next.{Next}
use Rattle.frames.specs.declared.reader.Next.TheVariants as next

-- ---- the magic

-- a reader's position after the magic, or after a fault instead of it
abbrev pub position_opened : Result Version Fault → Position
position_opened (Ok version) = At version 0 4
position_opened (Err fault) = Done One (finish.Fault fault 0)

-- The magic of a version was read from a source with these bytes left before and those after; or a
-- fault was found instead, and only for ReadFailed did the source return an error, after the
-- bytes that were read.
abbrev pub ReadsMagic : Option (List ℕ) → Option (List ℕ) → Result Version Fault → Type 0
ReadsMagic None new magic = Unit {0}
ReadsMagic (Some bytes) new (Err ReadFailed) =
    (read : List ℕ) × Consumes (Some bytes) new read × (opened read ByError ≡ Err ReadFailed)
ReadsMagic (Some bytes) new (Err fault) = opened bytes ByEnd ≡ Err fault
ReadsMagic (Some bytes) None (Ok version) = ⊥
ReadsMagic (Some bytes) (Some rest) (Ok version) = bytes ≡ stream_magic version ++ rest

-- an input ends by an error only if a read of its source may fail
abbrev pub MayEnd : Bool → InputEnding → Type 0
MayEnd may_fail ByEnd = Unit {0}
MayEnd may_fail ByError = may_fail ≡ true

-- there are bytes and an ending of them that the source may have, with this fault instead of the
-- magic
abbrev pub MayOpen : Bool → Result Version Fault → Type 0
MayOpen may_fail (Ok version) = Unit {0}
MayOpen may_fail (Err fault) = (bytes : List ℕ) × (ending : InputEnding)
    × (opened bytes ending ≡ Err fault) × MayEnd may_fail ending

-- the magic is read once: a reader after it reads nothing and stays there
abbrev pub OpensStream : Bool → Position → Option (List ℕ) → Option (List ℕ) → Position → Type 0
OpensStream may_fail Fresh old new after =
    (magic : Result Version Fault) × ReadsMagic old new magic
    × MayOpen may_fail magic × (after ≡ position_opened magic)
OpensStream may_fail (At version number offset) old new after =
    (after ≡ At version number offset) × (new ≡ old)
OpensStream may_fail (Done version stop) old new after =
    (after ≡ Done version stop) × (new ≡ old)

-- the version of the stream that is read, or the fault that ended it
abbrev pub begun_at : Position → Result ℕ (Fault × ℕ)
begun_at Fresh = Err (BadMagic, 0)
begun_at (At version number offset) = Ok (version_number version)
begun_at (Done version finish.End) = Ok (version_number version)
begun_at (Done version (finish.Fault fault offset)) = Err (fault, offset)

-- ---- records

-- what one call finds: a record, or why there is none
pub data Finding : Type 0 where
  Found : PacketFrame → Finding
  Stopped : Finish → Finding

-- what a call returned, with what it left in the buffer
abbrev pub finding_of : Next → List ℕ → Finding
finding_of (next.Frame head n reason) buffer =
    Found (record { head = head; body = take n buffer; reason = reason })
finding_of next.End buffer = Stopped finish.End
finding_of (next.Fault f offset) buffer = Stopped (finish.Fault f offset)

abbrev pub after_frame : Position → PacketFrame → Position
after_frame (At version number offset) f = At version (number + 1) (offset + record_size version f)
after_frame position f = position

abbrev pub after_stop : Position → Finish → Position
after_stop (At version number offset) stop = Done version stop
after_stop position stop = position

-- the reader's position after it
abbrev pub next_position : Position → Finding → Position
next_position position (Found f) = after_frame position f
next_position position (Stopped stop) = after_stop position stop

-- why no record follows at a position after the magic, if none does
abbrev pub stop_from : Position → List ℕ → InputEnding → Option Finish
stop_from Fresh bytes ending = None
stop_from (At version number offset) bytes ending = stop_at version number offset bytes ending
stop_from (Done version stop) bytes ending = Some stop

-- The stream stops at a position, where the source has these bytes left before the call and those
-- after it. Only for ReadFailed did the source return an error, after the bytes that were read.
abbrev pub StopsReading : Position → List ℕ → Option (List ℕ) → Finish → Type 0
StopsReading position bytes new (finish.Fault ReadFailed offset) =
    (read : List ℕ) × Consumes (Some bytes) new read
    × (stop_from position read ByError ≡ Some (finish.Fault ReadFailed offset))
StopsReading position bytes new stop = stop_from position bytes ByEnd ≡ Some stop

-- the bytes begin with this record, and then there are others
abbrev pub Begins : Position → List ℕ → PacketFrame → List ℕ → Type 0
Begins (At version number offset) bytes f rest = bytes ≡ record_bytes version f ++ rest
Begins position bytes f rest = ⊥

-- What a call does where the source's bytes are known: the bytes of the record that it finds are
-- gone, or the stream stops there.
abbrev pub FindsNext : Position → Option (List ℕ) → Option (List ℕ) → Finding → Type 0
FindsNext position None new finding = Unit {0}
FindsNext position (Some bytes) new (Stopped stop) = StopsReading position bytes new stop
FindsNext position (Some bytes) None (Found f) = ⊥
FindsNext position (Some bytes) (Some rest) (Found f) = Begins position bytes f rest

-- this record is allowed at the position
abbrev pub IsOpen : Position → PacketFrame → Type 0
IsOpen (At version number offset) f = (number < max_frames) × IsPacketFrame version f
IsOpen position f = ⊥

-- there are bytes and an ending of them that the source may have, with which a stream stops at the
-- position as `stop` says
pub record CanStop (may_fail : Bool) (position : Position) (stop : Finish) : Type 0 where
  pub bytes : List ℕ
  pub ending : InputEnding
  pub stops : stop_from position bytes ending ≡ Some stop
  pub may_end : MayEnd may_fail ending

-- the position allows what is found: the record, or the end or fault of the stream
abbrev pub HasRoom : Bool → Position → Finding → Type 0
HasRoom may_fail position (Found f) = IsOpen position f
HasRoom may_fail position (Stopped stop) = CanStop may_fail position stop

-- What a call of `next` finds, and where it leaves the reader. The magic is read first, if it was
-- not read before.
pub record Finds (may_fail : Bool) (before : Position) (old new : Option (List ℕ))
    (after : Position) (finding : Finding) : Type 0 where
  pub begun : Position
  pub left : Option (List ℕ)
  pub opens : OpensStream may_fail before old left begun
  pub reads : FindsNext begun left new finding
  pub room : HasRoom may_fail begun finding
  pub position_is : after ≡ next_position begun finding

-- a body fits the buffer
abbrev pub FitsBuffer : Next → Type 0
FitsBuffer (next.Frame head n reason) = n ≤ max_packet
FitsBuffer next.End = Unit {0}
FitsBuffer (next.Fault f offset) = Unit {0}

-- a reader that is done returns the same again, and reads nothing
abbrev pub StaysDone : {R : Type 0} → ReaderState R → ReaderState R → Finding → Type 0
StaysDone old new finding = (version : Version) (stop : Finish) → old.position ≡ Done version stop
    → (finding ≡ Stopped stop) × (new ≡ old)
