-- What is written of the frames that a source has.
use Rattle.std.specs.Prelude.{◌≡◌, ◌⊎◌, ℕ, List, [], ◌++◌, if◌then◌else◌, Option, Result, Ok, Err}
use Rattle.std.specs.List.{flat_map}
use Rattle.std.specs.Io.KnownBytes.{Appends}
use Rattle.exact_io.specs.Transfers.{AppendsBeginning}
use Rattle.isa_model.specs.declared.streams.Finish.{Finish}
use Rattle.isa_model.specs.declared.versions.Version.{Version}
use Rattle.isa_model.specs.declared.versions.Version.TheVariants.{One, Two}
use Rattle.isa_model.specs.Code.Versions.{stream_magic}
use Rattle.isa_model.specs.Reporting.Streams.{PacketFrame, Stream, record_bytes, stream_with}
use Rattle.frames.specs.declared.writer.Unwritten.{Unwritten}
use Rattle.frames.specs.Sources.{Origin}
use Rattle.frames.specs.Inputs.{AreReadFrom, IsBegunBy}
use Rattle.captures.specs.declared.frame_forms.FrameForm.{FrameForm}
use Rattle.captures.specs.declared.frame_forms.FrameForm.TheVariants.{Records, Plain, Reasoned, Text}
use Rattle.captures.specs.declared.frame_forms.StreamEnd.{StreamEnd}
use Rattle.captures.specs.declared.placing.Placing.{Placing}
use Rattle.captures.specs.CopyCounts.{counts_of, is_left_out}
use Rattle.captures.specs.Placing.{placed}
use Rattle.captures.specs.Texts.{frame_text}

-- what stands before the frames
abbrev pub start_as : FrameForm → Version → List ℕ
start_as Records v = stream_magic v
start_as Plain v = stream_magic One
start_as Reasoned v = stream_magic Two
start_as Text v = []

-- a frame, or nothing of one that is left out
abbrev pub frame_as : FrameForm → Version → PacketFrame → List ℕ
frame_as Records v f = record_bytes v f
frame_as Plain v f = if is_left_out Plain f.body f.reason then [] else record_bytes One f
frame_as Reasoned v f = record_bytes Two f
frame_as Text v f = frame_text f

-- these frames, each with the interface and the queue of the placing, where it has them
abbrev pub frames_as : FrameForm → Placing → Version → List PacketFrame → List ℕ
frames_as form placing v frames =
    start_as form v ++ flat_map (λ f. frame_as form v (placed placing f)) frames

-- The stream was read to its end, or to a fault: it is the stream of the source's bytes, where they
-- are known. Its frames were written, with the interface and the queue of the placing.
pub record CopiesWhole (form : FrameForm) (placing : Placing) (source : Origin)
    (before after : Option (List ℕ)) (ended : StreamEnd) : Type 0 where
  pub found : Stream
  pub read : AreReadFrom source found
  pub wrote : Appends before after (frames_as form placing found.version found.frames)
  pub counts : ended.counts ≡ counts_of form found.frames
  pub finish : ended.finish ≡ found.finish

-- The output failed at what stands before the frames, or at the last of these frames. The source
-- begins with them, where its bytes are known; or nothing of it is a frame.
pub record CopiesFront (form : FrameForm) (placing : Placing) (source : Origin)
    (before after : Option (List ℕ)) : Type 0 where
  pub version : Version
  pub frames : List PacketFrame
  pub read : IsBegunBy source version frames
      ⊎ ((finish : Finish) × AreReadFrom source (stream_with version (frames, finish)))
  pub wrote : AppendsBeginning before after (frames_as form placing version frames)

abbrev pub CopiesFrames : FrameForm → Placing → Origin → Option (List ℕ) → Option (List ℕ)
    → Result StreamEnd Unwritten → Type 0
CopiesFrames form placing source before after (Ok ended) =
    CopiesWhole form placing source before after ended
CopiesFrames form placing source before after (Err failed) =
    CopiesFront form placing source before after
