-- What a writer of captures has written for the stream that it was handed.
use Rattle.std.specs.Prelude.{◌≡◌, ℕ, ◌+◌, ◌<◌, ◌≤◌, List, [], ◌++◌, length, take, Option, Some, None, Result, Ok, Err}
use Rattle.std.specs.Io.KnownBytes.{Appends}
use Rattle.std.specs.declared.io.ErrorKind.{ErrorKind}
use Rattle.isa_model.specs.declared.versions.Version.{Version}
use Rattle.isa_model.specs.Code.Versions.{stream_magic, head_size}
use Rattle.isa_model.specs.Code.Limits.{max_packet}
use Rattle.isa_model.specs.Reporting.Streams.{PacketFrame, records_bytes, record_bytes}
use Rattle.captures.specs.declared.kinds.CaptureForm.{CaptureForm}
use Rattle.captures.specs.declared.kinds.LostCounts.{LostCounts}
use Rattle.captures.specs.declared.taking.PartTaken.{PartTaken}
use Rattle.captures.specs.declared.taking.PartTaken.TheVariants as taken
use Rattle.captures.specs.CaptureBytes.{CaptureSoFar, capture_of, file_start, none_lost, with_frame}

-- what was handed on of a stream: its magic, the records of these frames, and a part of what is
-- next
abbrev pub handed_bytes : Option Version → List PacketFrame → List ℕ → List ℕ
handed_bytes None frames part = part
handed_bytes (Some v) frames part = stream_magic v ++ (records_bytes v frames ++ part)

-- the capture of these frames; of a stream that has not begun it has nothing
abbrev pub capture_by : CaptureForm → Option Version → List PacketFrame → CaptureSoFar
capture_by form None frames = record { bytes = []; described = 1; lost = none_lost }
capture_by form (Some v) frames = capture_of form frames

-- known bytes grew by the first of some bytes, or by all
abbrev pub AppendsFront : Option (List ℕ) → Option (List ℕ) → List ℕ → Type 0
AppendsFront old new bytes = (n : ℕ) × Appends old new (take n bytes)

-- What was handed on from `origin` to `handed` are the bytes of a stream, up to these of its next
-- record, and the output, which had `before`, got the capture of the frames.
pub record HasWritten (form : CaptureForm) (version : Option Version) (part : List ℕ)
    (described : ℕ) (lost : LostCounts) (origin handed before reached : Option (List ℕ))
    : Type 0 where
  pub frames : List PacketFrame
  pub stream : Appends origin handed (handed_bytes version frames part)
  pub describes : described ≡ (capture_by form version frames).described
  pub loses : lost ≡ (capture_by form version frames).lost
  pub wrote : Appends before reached (capture_by form version frames).bytes

-- the output got a beginning of the capture of some frames, the first of which were handed on
pub record HasWrittenPart (form : CaptureForm) (origin handed before reached : Option (List ℕ))
    : Type 0 where
  pub frames : List PacketFrame
  pub more : List PacketFrame
  pub version : Option Version
  pub part : List ℕ
  pub stream : Appends origin handed (handed_bytes version frames part)
  pub wrote : AppendsFront before reached (capture_of form (frames ++ more)).bytes

-- the same by whether the output failed
abbrev pub IsWrittenSoFar : CaptureForm → Option ErrorKind → Option Version → List ℕ → ℕ
    → LostCounts → (origin handed before reached : Option (List ℕ)) → Type 0
IsWrittenSoFar form None version part described lost origin handed before reached =
    HasWritten form version part described lost origin handed before reached
IsWrittenSoFar form (Some kind) version part described lost origin handed before reached =
    HasWrittenPart form origin handed before reached

-- ---- steps

-- a capture of which the bytes are not asked for
abbrev pub no_bytes : ℕ → LostCounts → CaptureSoFar
no_bytes described lost = record { bytes = []; described = described; lost = lost }

-- a record was taken, and its packet written
pub record WritesRecord (form : CaptureForm) (version : Option Version) (described : ℕ)
    (lost : LostCounts) (part : List ℕ) (after : ℕ) (loses : LostCounts)
    (old new : Option (List ℕ)) : Type 0 where
  pub v : Version
  pub frame : PacketFrame
  pub has_version : version ≡ Some v
  pub is_record : part ≡ record_bytes v frame
  pub describes : after ≡ (with_frame form (no_bytes described lost) frame).described
  pub lost_is : loses ≡ (with_frame form (no_bytes described lost) frame).lost
  pub wrote : Appends old new (with_frame form (no_bytes described lost) frame).bytes

abbrev pub FailsAt : CaptureForm → Option Version → ℕ → LostCounts → Option (List ℕ)
    → Option (List ℕ) → Type 0
FailsAt form None described lost old new = AppendsFront old new (file_start form.kind)
FailsAt form (Some v) described lost old new =
    (frame : PacketFrame)
    × AppendsFront old new (with_frame form (no_bytes described lost) frame).bytes

-- what taking a record with this frame comes to
abbrev pub TakesFrame : CaptureForm → ℕ → LostCounts → PacketFrame → Option (List ℕ)
    → Option (List ℕ) → Result PartTaken ErrorKind → Type 0
TakesFrame form described lost frame old new (Ok (taken.Written after loses)) =
    let c = with_frame form (no_bytes described lost) frame in
    (after ≡ c.described) × (loses ≡ c.lost) × Appends old new c.bytes
TakesFrame form described lost frame old new (Ok taken) = ⊥
TakesFrame form described lost frame old new (Err kind) =
    AppendsFront old new (with_frame form (no_bytes described lost) frame).bytes

-- the fewest bytes of a part: those of the magic, or of a record's head
abbrev pub least_part : Option Version → ℕ
least_part None = 4
least_part (Some v) = head_size v

-- what taking a part that is whole comes to
abbrev pub TakesPart : CaptureForm → Option Version → ℕ → LostCounts → List ℕ
    → Option (List ℕ) → Option (List ℕ) → Result PartTaken ErrorKind → Type 0
TakesPart form version described lost part old new (Ok (taken.Begun v)) =
    (version ≡ None) × (part ≡ stream_magic v) × Appends old new (file_start form.kind)
TakesPart form version described lost part old new (Ok (taken.Longer size)) =
    (new ≡ old) × (length part < size) × (size ≤ 24 + max_packet)
TakesPart form version described lost part old new (Ok (taken.Written after loses)) =
    WritesRecord form version described lost part after loses old new
TakesPart form version described lost part old new (Err kind) =
    FailsAt form version described lost old new
