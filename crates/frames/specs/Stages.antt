-- The stages of a frame reader: the position of each, and which comes next.
use Rattle.std.specs.Prelude.{◌≡◌, ℕ, ◌+◌, ◌*◌, ◌<◌, ◌≤◌}
use Rattle.isa_model.specs.declared.streams.Finish.TheVariants as finish
use Rattle.isa_model.specs.declared.versions.Version.{Version}
use Rattle.isa_model.specs.declared.versions.Version.TheVariants.{Two}
use Rattle.isa_model.specs.Code.Versions.{head_size}
use Rattle.isa_model.specs.Code.Limits.{max_packet}
use Rattle.isa_model.specs.Reporting.Streams.{max_frames}
use Rattle.frames.specs.Readers.{Position, Fresh, At, Done}
use Rattle.frames.specs.declared.reader.Next.{Next}
use Rattle.frames.specs.declared.reader.Next.TheVariants as next
use Rattle.frames.specs.declared.reader.Stage.{Stage}
use Rattle.frames.specs.declared.reader.Stage.TheVariants as stage

abbrev pub position_of : Stage → Position
position_of stage.Fresh = Fresh
position_of (stage.At version number offset) = At version number offset
position_of (stage.Done version stop) = Done version stop

-- how many bytes the longest record has
abbrev pub max_record : ℕ
max_record = head_size Two + max_packet

-- the offset is at most where the stream ends that has the magic and `number` longest records
abbrev pub OffsetFits : Stage → Type 0
OffsetFits stage.Fresh = Unit {0}
OffsetFits (stage.At version number offset) = offset ≤ 4 + max_record * number
OffsetFits (stage.Done version stop) = Unit {0}

-- a record is found only where the stream may have one more, and its body fits
abbrev pub HasRoomForRecord : ℕ → Next → Type 0
HasRoomForRecord number (next.Frame head n reason) = (number < max_frames) × (n ≤ max_packet)
HasRoomForRecord number next.End = Unit {0}
HasRoomForRecord number (next.Fault f offset) = Unit {0}

-- the stage of a reader after it found this where a record may begin
abbrev pub IsStageAfter : Version → ℕ → ℕ → Next → Stage → Type 0
IsStageAfter version number offset (next.Frame head n reason) after =
    after ≡ stage.At version (number + 1) (offset + (head_size version + n))
IsStageAfter version number offset next.End after = after ≡ stage.Done version finish.End
IsStageAfter version number offset (next.Fault f at) after =
    after ≡ stage.Done version (finish.Fault f at)
