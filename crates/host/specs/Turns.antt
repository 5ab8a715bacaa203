-- How far a machine got in a stream: the packet frames that it took, one after another, and what
-- was written of them.
use Rattle.std.specs.Prelude.{◌≡◌, List, ◌∷◌, length, Result, Ok, Err, ◌⊎◌}
use Rattle.isa_model.specs.declared.streams.Finish.{Finish}
use Rattle.isa_model.specs.declared.versions.Version.{Version}
use Rattle.isa_model.specs.Code.Versions.{stream_magic}
use Rattle.isa_model.specs.Machine.States.{KeyValues}
use Rattle.isa_model.specs.Reporting.Streams.{PacketFrame, Stream, stream_with, AreOpen}
use Rattle.isa_model.specs.Reporting.Reports.{OutputPiece, ToFrames, ReportForm, Rule, turns_pieces, checked_rule, contents_after}
use Rattle.bounds.specs.Bounds.{Bounded}
use Rattle.frames.specs.Sources.{Origin}
use Rattle.frames.specs.Inputs.{AreReadFrom, IsBegunBy}
use Rattle.host.specs.declared.endings.StreamEnded.{StreamEnded}
use Rattle.host.specs.declared.errors.HostError.{HostError}
use Rattle.host.specs.Stops.{Noting, noted_after}
use Rattle.host.specs.Writing.{Outputs, Wrote, WroteBefore}

-- a program's runs, each stopped at the bound
abbrev pub rule_of : Bounded → Rule
rule_of a = checked_rule a.program a.bound

-- the form of its report over a stream of this version
abbrev pub form_on : Bounded → Version → ReportForm
form_on a stream = record { limit = a.bound; program = a.program.version; stream = stream }

-- the magic and the frames' pieces
abbrev pub front_in : ReportForm → Rule → List KeyValues → List PacketFrame → List OutputPiece
front_in form rule contents frames =
    ToFrames (stream_magic form.stream) ∷ turns_pieces form rule 0 contents frames

-- a machine: its program and bound, what the maps hold, what it noted so far and what it notes of
-- one more frame
pub record RunnerState (N : Type 0) : Type 0 where
  pub bounded : Bounded
  pub contents : List KeyValues
  pub noted : N
  pub notes : Noting N

-- a machine has taken these frames
pub record HasTaken {N : Type 0} (old : RunnerState N) (frames : List PacketFrame)
    (new : RunnerState N) : Type 0 where
  pub bounded : new.bounded ≡ old.bounded
  pub notes : new.notes ≡ old.notes
  pub contents : new.contents ≡ contents_after (rule_of old.bounded) old.contents frames
  pub noted : new.noted
      ≡ noted_after old.notes (rule_of old.bounded) old.noted 0 old.contents frames

-- The stream was read to its end, or to a fault: it is the stream of the source's bytes, where they
-- are known. The machine took its frames, and their pieces were written.
pub record TakesWhole {N : Type 0} (source : Origin) (before : Outputs) (old : RunnerState N)
    (after : Outputs) (new : RunnerState N) (ended : StreamEnded) : Type 0 where
  pub found : Stream
  pub are_open : AreOpen found.version found.frames
  pub read : AreReadFrom source found
  pub wrote : Wrote before after
      (front_in (form_on old.bounded found.version) (rule_of old.bounded) old.contents found.frames)
  pub taken : HasTaken old found.frames new
  pub count : ended.frames ≡ length found.frames
  pub finish : ended.finish ≡ found.finish

-- An output failed at the magic, or at the line or the record of the last of these frames. The
-- source begins with them, where its bytes are known; or nothing of it is a frame.
pub record TakesFront {N : Type 0} (source : Origin) (before : Outputs) (old : RunnerState N)
    (after : Outputs) (new : RunnerState N) (error : HostError) : Type 0 where
  pub version : Version
  pub frames : List PacketFrame
  pub are_open : AreOpen version frames
  pub read : IsBegunBy source version frames
      ⊎ ((finish : Finish) × AreReadFrom source (stream_with version (frames, finish)))
  pub wrote : WroteBefore before after
      (front_in (form_on old.bounded version) (rule_of old.bounded) old.contents frames) error
  pub taken : HasTaken old frames new

abbrev pub TakesFrames : {N : Type 0} → Origin → Outputs → RunnerState N → Outputs → RunnerState N
    → Result StreamEnded HostError → Type 0
TakesFrames source before old after new (Ok ended) = TakesWhole source before old after new ended
TakesFrames source before old after new (Err error) = TakesFront source before old after new error
