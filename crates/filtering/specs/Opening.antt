-- The names of a run's files, and how a task ends if one cannot be opened.
use Rattle.std.specs.Prelude.{◌≡◌, ◌⊎◌, ℕ, Bool, true, false, List, Option, Some, None, bytes_eq, codes, nat_eq, if◌then◌else◌}
use Rattle.std.specs.List.{ends_with}
use Rattle.captures.specs.declared.kinds.CaptureKind.{CaptureKind}
use Rattle.captures.specs.declared.kinds.CaptureKind.TheVariants as kind
use Rattle.words.specs.FilterRequests.{FilterRequest}
use Rattle.messages.specs.declared.forms.FileForm.{FileForm}
use Rattle.messages.specs.declared.forms.FileForm.TheVariants.{Pcap, Pcapng, UnreadCapture}
use Rattle.captures.specs.declared.choices.FramesOf.{FramesOf}
use Rattle.captures.specs.declared.choices.FramesOf.TheVariants as frames
use Rattle.commands.specs.declared.outcomes.TaskOutcome.{TaskOutcome}
use Rattle.commands.specs.Statuses.{IsMakeFailure, IsReadFailure}

-- where the frames are read: `-` is standard input
abbrev pub frames_path : List ℕ → List ℕ
frames_path path = if bytes_eq path (codes "-") then codes "/dev/stdin" else path

-- how messages name the output of the frames out: `-` is standard output
abbrev pub output_name : List ℕ → List ℕ
output_name path = if bytes_eq path (codes "-") then codes "standard output" else path

-- a file with these first bytes is a capture that is read
abbrev pub is_capture : FileForm → Bool
is_capture Pcap = true
is_capture Pcapng = true
is_capture form = false

-- whether a name has this ending
abbrev pub has_ending : List ℕ → List ℕ → Bool
has_ending name ending = ends_with nat_eq name ending

-- the form of a file by what became of it: one of its own for a capture that is not read
abbrev pub told_form : {S : Type 0} → FramesOf S → FileForm → FileForm
told_form frames.Refused form = UnreadCapture
told_form other form = form

-- a file of this form is told as this
abbrev pub IsToldForm : FileForm → FileForm → Type 0
IsToldForm form told = (told ≡ form) ⊎ (told ≡ UnreadCapture)

-- the format that the end of a name says: of a capture, or else that of a frame stream
abbrev pub kind_by_name : List ℕ → Option (Option CaptureKind)
kind_by_name name =
    if has_ending name (codes ".pcapng") then Some (Some kind.Pcapng)
    else if has_ending name (codes ".pcap") then Some (Some kind.Pcap)
    else if has_ending name (codes ".cap") then Some (Some kind.Pcap)
    else if has_ending name (codes ".frames") then Some None
    else None

-- the format of a capture in a file of this form
abbrev pub kind_by_form : FileForm → Option CaptureKind
kind_by_form Pcap = Some kind.Pcap
kind_by_form Pcapng = Some kind.Pcapng
kind_by_form form = None

abbrev pub kind_or : Option (Option CaptureKind) → Option CaptureKind → Option CaptureKind
kind_or (Some named) other = named
kind_or None other = other

-- the format of the capture that the frames out become, if they become one: by the end of their
-- name, or else that in which the frames are read
abbrev pub kind_of_out : List ℕ → FileForm → Option CaptureKind
kind_of_out name form = kind_or (kind_by_name name) (kind_by_form form)

-- an output that is wanted cannot be made, or must not be overwritten
abbrev pub MakesNot : Option (List ℕ) → TaskOutcome → Type 0
MakesNot None o = ⊥
MakesNot (Some path) o = IsMakeFailure path o

-- an output is a file that is read, or another output
abbrev pub IsOutputConflict : FilterRequest → TaskOutcome → Type 0
IsOutputConflict request o =
    IsMakeFailure (output_name request.files.out) o
    ⊎ (MakesNot request.report o ⊎ MakesNot request.maps_out o)

-- the frames cannot be opened, or an output cannot be made
abbrev pub IsOpenFailure : FilterRequest → TaskOutcome → Type 0
IsOpenFailure request o =
    IsReadFailure (frames_path request.files.frames) o ⊎ IsOutputConflict request o
