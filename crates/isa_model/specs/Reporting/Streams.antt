-- The stream of packet frames: the magic `XPF1` or `XPF2`, and then records of a head and a body.
-- docs/FORMATS.md.
-- A head is: u64 time in nanoseconds, u32 interface, u32 queue, u32 length of the body, and in
-- `XPF2` u32 reason; the lowest byte first.
use Rattle.std.specs.Prelude.{◌≡◌, ℕ, zero, suc, ◌+◌, ◌^◌, ◌<◌, ◌≤◌, List, [], ◌∷◌, ◌++◌, length, take, drop, nat_lt, nat_eq, ◌==◌, if◌then◌else◌, All, Option, Some, None, Result, Ok, Err}
use Rattle.std.specs.List.{starts_with, flat_map}
use Rattle.byteorder.specs.Endian.{little_bytes, little_from}
use Rattle.isa_model.specs.declared.frames.FrameHead.{FrameHead}
use Rattle.isa_model.specs.declared.streams.Fault.{Fault}
use Rattle.isa_model.specs.declared.streams.Fault.TheVariants.{BadMagic, TruncatedHead, TooLong, TruncatedBody, ReadFailed, TooManyRecords}
use Rattle.isa_model.specs.declared.streams.Finish.{Finish}
use Rattle.isa_model.specs.declared.streams.Finish.TheVariants as finish
use Rattle.isa_model.specs.declared.versions.Version.{Version}
use Rattle.isa_model.specs.declared.versions.Version.TheVariants.{One, Two}
use Rattle.isa_model.specs.Code.Versions.{stream_magic, head_size}
use Rattle.isa_model.specs.Code.Limits.{max_body}

-- a packet frame: its head, its body, and its reason, which is 0 where the stream has none
pub record PacketFrame : Type 0 where
  pub head : FrameHead
  pub body : List ℕ
  pub reason : ℕ

-- ---- spelling

abbrev pub reason_bytes : Version → ℕ → List ℕ
reason_bytes One reason = []
reason_bytes Two reason = little_bytes 4 reason

-- the bytes before a body of n bytes
unfoldable pub head_bytes : Version → FrameHead → ℕ → ℕ → List ℕ
head_bytes version head n reason =
    little_bytes 8 head.time
    ++ (little_bytes 4 head.interface
    ++ (little_bytes 4 head.queue ++ (little_bytes 4 n ++ reason_bytes version reason)))

-- a record
abbrev pub record_bytes : Version → PacketFrame → List ℕ
record_bytes version f = head_bytes version f.head (length f.body) f.reason ++ f.body

-- records, one after the other
abbrev pub records_bytes : Version → List PacketFrame → List ℕ
records_bytes version frames = flat_map (record_bytes version) frames

abbrev pub ReasonFits : Version → ℕ → Type 0
ReasonFits One reason = reason ≡ 0
ReasonFits Two reason = reason < 2 ^ 32

-- the frames that can be spelled
pub record IsPacketFrame (version : Version) (f : PacketFrame) : Type 0 where
  pub short : length f.body ≤ max_body version
  pub bytes : All (λ b. b < 256) f.body
  pub time : f.head.time < 2 ^ 64
  pub interface : f.head.interface < 2 ^ 32
  pub queue : f.head.queue < 2 ^ 32
  pub reason : ReasonFits version f.reason

-- ---- reading

-- how an input ends: by an end, or by the reader's first error
pub data InputEnding : Type 0 where
  ByEnd : InputEnding
  ByError : InputEnding

-- an input: the bytes that the reader returns, and how they end
pub record Input : Type 0 where
  pub bytes : List ℕ
  pub ending : InputEnding

-- the most records that a stream may have
abbrev pub max_frames : ℕ
max_frames = 4294967295

-- the fault of an input that ends too early: f at its end, ReadFailed by the reader's error
abbrev pub cut_by : InputEnding → Fault → Fault
cut_by ByEnd f = f
cut_by ByError f = ReadFailed

-- the version that the magic at the front of the bytes names, or the fault if there is no magic
unfoldable pub opened : List ℕ → InputEnding → Result Version Fault
opened bytes ending =
    if nat_lt (length bytes) 4 then Err (cut_by ending BadMagic)
    else if starts_with nat_eq bytes (stream_magic One) then Ok One
    else if starts_with nat_eq bytes (stream_magic Two) then Ok Two
    else Err BadMagic

-- the length in a record's head
abbrev pub length_field : List ℕ → ℕ
length_field bytes = little_from 16 4 bytes

-- and its reason
abbrev pub reason_field : Version → List ℕ → ℕ
reason_field One bytes = 0
reason_field Two bytes = little_from 20 4 bytes

-- why no record begins with these bytes, after `number` records and at `offset`, if none does
unfoldable pub stop_at : Version → ℕ → ℕ → List ℕ → InputEnding → Option Finish
stop_at version number offset [] ByEnd = Some finish.End
stop_at version number offset [] ByError = Some (finish.Fault ReadFailed offset)
stop_at version number offset (b ∷ bytes) ending =
    let all = b ∷ bytes in
    if number == max_frames then Some (finish.Fault TooManyRecords offset)
    else if nat_lt (length all) (head_size version)
    then Some (finish.Fault (cut_by ending TruncatedHead) offset)
    else if nat_lt (max_body version) (length_field all) then Some (finish.Fault TooLong offset)
    else if nat_lt (length all) (head_size version + length_field all)
    then Some (finish.Fault (cut_by ending TruncatedBody) offset)
    else None

-- the packet frame whose record is at the front of the bytes
abbrev pub packet_frame_of : Version → List ℕ → PacketFrame
packet_frame_of version bytes = record {
  head =
      record {
        time = little_from 0 8 bytes;
        interface = little_from 8 4 bytes;
        queue = little_from 12 4 bytes;
      };
  body = take (length_field bytes) (drop (head_size version) bytes);
  reason = reason_field version bytes;
}

-- how many bytes a frame's record has
abbrev pub record_size : Version → PacketFrame → ℕ
record_size version f = head_size version + length f.body

-- the frames whose records the bytes begin with, after `number` others and at `offset`, and how
-- these end; `fuel` is more than the number of bytes
unfoldable pub frames_from : ℕ → Version → ℕ → ℕ → List ℕ → InputEnding → List PacketFrame × Finish
frames_from zero version number offset bytes ending = ([], finish.End)
frames_from (suc fuel) version number offset bytes ending =
    elim (stop_at version number offset bytes ending) [
      | Some stop ↦ ([], stop)
      | None ↦
          let f = packet_frame_of version bytes in
          let size = record_size version f in
          let more = frames_from fuel version (number + 1) (offset + size)
          (drop size bytes) ending in
          (f ∷ more.0, more.1)
    ]

-- ---- streams

-- the version, the frames, and the end or fault
pub record Stream : Type 0 where
  pub version : Version
  pub frames : List PacketFrame
  pub finish : Finish

abbrev pub stream_with : Version → List PacketFrame × Finish → Stream
stream_with version found = record { version = version; frames = found.0; finish = found.1 }

-- the records after the magic; where no magic can be read the stream counts as one of the first
-- version
abbrev pub stream_opened : Input → Result Version Fault → Stream
stream_opened input (Ok version) =
    stream_with version
    (frames_from (suc (length input.bytes)) version 0 4 (drop 4 input.bytes) input.ending)
stream_opened input (Err fault) = stream_with One ([], finish.Fault fault 0)

-- the stream of an input
abbrev pub stream_of : Input → Stream
stream_of input = stream_opened input (opened input.bytes input.ending)

-- ---- streams as bytes

-- these frames are allowed in a stream of the version, from the first record on
pub record AreOpen (v : Version) (frames : List PacketFrame) : Type 0 where
  pub few : length frames ≤ max_frames
  pub fit : All (IsPacketFrame v) frames

-- the bytes of a stream of these frames
abbrev pub stream_bytes : Version → List PacketFrame → List ℕ
stream_bytes v frames = stream_magic v ++ records_bytes v frames
