-- What an output gets of frames that are copied to it, and how the task ends where it fails.
use Rattle.std.specs.Prelude.{◌≡◌, ◌⊎◌, ℕ, true, List, Option, Result, Ok, Err}
use Rattle.std.specs.Io.KnownBytes.{Keeps}
use Rattle.std.specs.declared.io.ErrorKind.{ErrorKind}
use Rattle.frames.specs.declared.writer.Unwritten.{Unwritten}
use Rattle.frames.specs.Sources.{Origin}
use Rattle.captures.specs.declared.kinds.CaptureForm.{CaptureForm}
use Rattle.captures.specs.declared.kinds.CaptureKind.{CaptureKind}
use Rattle.captures.specs.declared.kinds.LostCounts.{LostCounts}
use Rattle.captures.specs.declared.frame_forms.FrameForm.{FrameForm}
use Rattle.captures.specs.declared.frame_forms.StreamEnd.{StreamEnd}
use Rattle.captures.specs.declared.placing.Placing.{Placing}
use Rattle.captures.specs.declared.frame_forms.FrameForm.TheVariants.{Records}
use Rattle.captures.specs.Copies.{CopiesFrames, CopiesWhole}
use Rattle.commands.specs.declared.outcomes.TaskOutcome.{TaskOutcome}
use Rattle.commands.specs.Statuses.{IsWriteFailureBy}
use Rattle.commands.specs.Streams.{IsBeginningOf}
use Rattle.filtering.specs.Capturing.{HasCaptured}

-- a capture of all frames, also of those with a reason
abbrev pub all_frames : CaptureKind → CaptureForm
all_frames kind = record { kind = kind; has_reasons = true }

-- `handed` is what was written to the buffer of an output. Its file got all of it, and the result
-- is how the stream ended; or the output failed by this cause, and the file got a beginning.
abbrev pub DeliversCopy : List ℕ → Option ErrorKind → Result StreamEnd Unwritten
    → (handed got : Option (List ℕ)) → Result StreamEnd TaskOutcome → Type 0
DeliversCopy name cause ended handed got result =
    ((end : StreamEnd) × (ended ≡ Ok end) × (result ≡ Ok end) × Keeps handed got)
    ⊎ ((o : TaskOutcome) × (result ≡ Err o) × IsWriteFailureBy name cause o
    × IsBeginningOf got handed)

-- What is handed to the buffer of an output of this name is exactly the records, or the text, of
-- the frames that the source's bytes spell, if those are known, up to the end or the fault of the
-- result; each of them has the interface and the queue of the placing, where it has them.
pub record Copies (form : FrameForm) (placing : Placing) (source : Origin) (name : List ℕ)
    (cause : Option ErrorKind) (old got : Option (List ℕ)) (result : Result StreamEnd TaskOutcome)
    : Type 0 where
  pub ended : Result StreamEnd Unwritten
  pub handed : Option (List ℕ)
  pub copies : CopiesFrames form placing source old handed ended
  pub ends : DeliversCopy name cause ended handed got result

-- the frames of a source are copied to some output of this name
pub record CopiesSome (form : FrameForm) (placing : Placing) (source : Origin) (name : List ℕ)
    (result : Result StreamEnd TaskOutcome) : Type 0 where
  pub cause : Option ErrorKind
  pub before : Option (List ℕ)
  pub after : Option (List ℕ)
  pub copies : Copies form placing source name cause before after result

-- All frames of a source were captured: what was handed on, from `old` to `handed`, is exactly the
-- stream of the frames that the source's bytes spell, if those are known, up to the end or the
-- fault of `end`, placed; and the file, which had `before`, got the capture of that stream
-- (`HasCaptured`).
pub record CapturesAll (known : Option CaptureForm) (placing : Placing) (source : Origin)
    (old origin before got : Option (List ℕ)) (lost : LostCounts) (end : StreamEnd) : Type 0 where
  pub handed : Option (List ℕ)
  pub copies : CopiesWhole Records placing source old handed end
  pub captures : ∥ HasCaptured known lost origin handed before got ∥₁
