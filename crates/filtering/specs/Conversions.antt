-- What is done with frames that are written again. No contract can say what the files hold.
use Rattle.std.specs.Prelude.{◌≡◌, ◌⊎◌, ℕ, Bool, true, false, List, Option, Some, None, Result, Ok, Err, bytes_eq, codes}
use Rattle.isa_model.specs.declared.streams.Finish.{Finish}
use Rattle.isa_model.specs.declared.streams.Finish.TheVariants as finish
use Rattle.exact_io.specs.declared.buffering.PromptWriter.{PromptWriter}
use Rattle.exact_io.specs.Waiting.{behind, failure_of, held}
use Rattle.frames.specs.Sources.{Origin, read_from}
use Rattle.captures.specs.declared.counts.CaptureCounts.{CaptureCounts}
use Rattle.captures.specs.declared.forms.Reasons.TheVariants.{Read}
use Rattle.captures.specs.declared.packets.CaptureDamage.{CaptureDamage}
use Rattle.captures.specs.Choices.{IsFramesOf}
use Rattle.captures.specs.declared.kinds.CaptureKind.{CaptureKind}
use Rattle.captures.specs.declared.frame_forms.FrameForm.{FrameForm}
use Rattle.captures.specs.declared.frame_forms.FrameForm.TheVariants.{Records}
use Rattle.captures.specs.declared.frame_forms.StreamEnd.{StreamEnd}
use Rattle.captures.specs.declared.placing.Placing.{Placing}
use Rattle.messages.specs.declared.forms.FileForm.{FileForm}
use Rattle.words.specs.declared.filter_tasks.FramesKind.{FramesKind}
use Rattle.words.specs.FilterRequests.{ConvertRequest}
use Rattle.commands.specs.declared.outcomes.TaskOutcome.{TaskOutcome}
use Rattle.commands.specs.declared.outcomes.TaskOutcome.TheVariants.{Done, Faulted}
use Rattle.commands.specs.declared.endings.Ending.{Ending}
use Rattle.commands.specs.Known.{Plainly}
use Rattle.commands.specs.Statuses.{IsMakeFailure, IsReadFailure}
use Rattle.filtering.specs.declared.conversions.Conversion.{Conversion}
use Rattle.filtering.specs.declared.conversions.Conversion.TheVariants.{Ended, Unnamed}
use Rattle.filtering.specs.declared.frame_kinds.WrittenForm.{WrittenForm}
use Rattle.filtering.specs.declared.frame_kinds.WrittenForm.TheVariants.{Plain, Capture}
use Rattle.captures.specs.declared.losing.Loss.{Loss}
use Rattle.filtering.specs.Copying.{Copies, CopiesSome}
use Rattle.filtering.specs.FrameKinds.{kind_of, written_as}
use Rattle.captures.specs.declared.losing.Lost.{Lost}
use Rattle.captures.specs.declared.losing.Lost.TheVariants as lost
use Rattle.captures.specs.Losing.{TellsUnsaid}
use Rattle.filtering.specs.Opening.{IsToldForm, frames_path, is_capture, output_name}

-- ---- how the task ends

abbrev pub outcome_by : Finish → FileForm → TaskOutcome
outcome_by finish.End form = Done
outcome_by (finish.Fault fault at) form = Faulted fault form

-- as the stream did, or by what failed
abbrev pub outcome_of : Result StreamEnd TaskOutcome → FileForm → TaskOutcome
outcome_of (Ok end) form = outcome_by end.finish form
outcome_of (Err o) form = o

-- what a stream or a text does not say of the frames that were copied to it
abbrev pub copied_by : Result StreamEnd TaskOutcome → Lost
copied_by (Ok end) = lost.Stream end.counts
copied_by (Err o) = lost.Nothing

-- where all frames came in by, as a request says it
abbrev pub placing_of : ConvertRequest → Placing
placing_of request = record { interface = request.interface; queue = request.queue }

-- The frames are copied to an output of this name, which is `old` before and `new` afterwards. The
-- message has at its end where a capture is damaged, and what is not kept of the frames.
pub record CopiesTo {W : Type 0} (contents : W → Option (List ℕ)) (source : Origin)
    (form : FileForm) (frame_form : FrameForm) (placing : Placing) (name : List ℕ)
    (old new : PromptWriter W) (result : Ending) : Type 0 where
  pub ended : Result StreamEnd TaskOutcome
  pub copies : Copies frame_form placing source name (failure_of new) (held contents old)
      (contents (behind new)) ended
  pub outcome : result.outcome ≡ outcome_of ended form
  pub captured : CaptureCounts
  pub damage : Option CaptureDamage
  pub tells : TellsUnsaid
      (record { damage = damage; captured = captured; lost = copied_by ended }) result.why

-- The frames are copied to some output of this name, as a capture. The message has at its end where
-- a capture that is read is damaged, and what is not kept of the frames.
pub record CapturesTo (source : Origin) (form : FileForm) (kind : CaptureKind) (placing : Placing)
    (name : List ℕ) (result : Ending) : Type 0 where
  pub ended : Result StreamEnd TaskOutcome
  pub loss : Loss
  pub copies : CopiesSome Records placing source name ended
  pub is_kind : loss.kind ≡ kind
  pub outcome : result.outcome ≡ outcome_of ended form
  pub captured : CaptureCounts
  pub damage : Option CaptureDamage
  pub tells : TellsUnsaid
      (record { damage = damage; captured = captured; lost = lost.Capture loss }) result.why

-- P holds of a stream with the frames of a file with this path, these bytes and this form: its own
-- stream, or that which a capture becomes, with the reasons of its packets; or memory ran out
-- before
abbrev pub OnFrames : List ℕ → Option (List ℕ) → FileForm → (Origin → Type 0) → Ending → Type 0
OnFrames path known form P result =
    Plainly (IsReadFailure path) result
    ⊎ ((left : Option (List ℕ)) × IsFramesOf Read known (is_capture form) left × P (read_from left))

abbrev pub CopiesFrom : {W : Type 0} → (W → Option (List ℕ)) → List ℕ → Option (List ℕ)
    → FileForm → FrameForm → Placing → List ℕ → PromptWriter W → PromptWriter W → Ending → Type 0
CopiesFrom contents path known form frame_form placing name old new result =
    OnFrames path known form
    (λ source. (told : FileForm) × IsToldForm form told
    × CopiesTo contents source told frame_form placing name old new result) result

abbrev pub CapturesFrom : List ℕ → Option (List ℕ) → FileForm → CaptureKind → Placing → List ℕ
    → Ending → Type 0
CapturesFrom path known form kind placing name result =
    OnFrames path known form
    (λ source. (told : FileForm) × IsToldForm form told
    × CapturesTo source told kind placing name result) result

-- ---- the outputs

-- standard output must not be written to; or the frames are copied to it
abbrev pub PrintsBegun : {W : Type 0} → (W → Option (List ℕ)) → List ℕ → Option (List ℕ)
    → FileForm → FrameForm → Placing → List ℕ → PromptWriter W → PromptWriter W → Ending → Type 0
PrintsBegun contents path known form frame_form placing name old new result =
    (Plainly (IsMakeFailure (codes "standard output")) result × (new ≡ old))
    ⊎ CopiesFrom contents path known form frame_form placing name old new result

-- the output cannot be made, or must not be overwritten; or the frames are copied to it
abbrev pub CopiesBegun : {F : Type 0} → (F → Option (List ℕ)) → List ℕ → Option (List ℕ)
    → FileForm → FrameForm → Placing → List ℕ → Ending → Type 0
CopiesBegun {F = F} files path known form frame_form placing output result =
    Plainly (IsMakeFailure (output_name output)) result
    ⊎ ((made : PromptWriter F) × (written : PromptWriter F)
    × CopiesFrom files path known form frame_form placing (output_name output) made written result)

-- by whether they are printed: standard output is `old` before and `new` afterwards
abbrev pub WritesBegun : {W F : Type 0} → Bool → (W → Option (List ℕ)) → (F → Option (List ℕ))
    → List ℕ → Option (List ℕ) → FileForm → FrameForm → Placing → List ℕ → PromptWriter W
    → PromptWriter W → Ending → Type 0
WritesBegun true contents files path known form frame_form placing output old new result =
    PrintsBegun contents path known form frame_form placing (output_name output) old new result
WritesBegun false contents files path known form frame_form placing output old new result =
    CopiesBegun files path known form frame_form placing output result × (new ≡ old)

-- the same of a capture
abbrev pub CapturesBegun : List ℕ → Option (List ℕ) → FileForm → CaptureKind → Placing → List ℕ
    → Ending → Type 0
CapturesBegun path known form kind placing output result =
    Plainly (IsMakeFailure (output_name output)) result
    ⊎ CapturesFrom path known form kind placing (output_name output) result

-- by how they are written; `contents` has the bytes of standard output, and `files` those of files
abbrev pub ConvertsBegun : {W F : Type 0} → (W → Option (List ℕ)) → (F → Option (List ℕ))
    → List ℕ → Option (List ℕ) → FileForm → WrittenForm → Placing → List ℕ → PromptWriter W
    → PromptWriter W → Ending → Type 0
ConvertsBegun contents files path known form (Plain frame_form) placing output old new result =
    WritesBegun (bytes_eq output (codes "-")) contents files path known form frame_form placing
    output old new result
ConvertsBegun contents files path known form (Capture kind) placing output old new result =
    CapturesBegun path known form kind placing output result × (new ≡ old)

-- ---- the files

-- the frames cannot be opened; or they are copied
abbrev pub ConvertsTo : {W F : Type 0} → (W → Option (List ℕ)) → (F → Option (List ℕ))
    → ConvertRequest → PromptWriter W → PromptWriter W → Ending → Type 0
ConvertsTo contents files request old new result =
    (Plainly (IsReadFailure (frames_path request.frames)) result × (new ≡ old))
    ⊎ ((known : Option (List ℕ)) × (form : FileForm) × (kind : FramesKind)
    × (kind_of request form ≡ Some kind)
    × ConvertsBegun contents files (frames_path request.frames) known form (written_as kind)
    (placing_of request) request.out old new result)

-- what a request does; or nothing says what the frames are to become
abbrev pub ConvertsFiles : {W F : Type 0} → (W → Option (List ℕ)) → (F → Option (List ℕ))
    → ConvertRequest → PromptWriter W → PromptWriter W → Conversion → Type 0
ConvertsFiles contents files request old new (Ended ending) =
    ConvertsTo contents files request old new ending
ConvertsFiles contents files request old new Unnamed =
    ((form : FileForm) × (kind_of request form ≡ None)) × (new ≡ old)
