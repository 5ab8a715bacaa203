-- What frames become that are written again.
use Rattle.std.specs.Prelude.{ℕ, List, Option, Some, None, codes, if◌then◌else◌, Bool, true, option_map}
use Rattle.captures.specs.declared.kinds.CaptureKind.TheVariants as capture
use Rattle.captures.specs.declared.frame_forms.FrameForm.TheVariants as form
use Rattle.messages.specs.declared.forms.FileForm.{FileForm}
use Rattle.messages.specs.declared.forms.FileForm.TheVariants.{Frames}
use Rattle.words.specs.declared.filter_tasks.FramesKind.{FramesKind}
use Rattle.words.specs.declared.filter_tasks.FramesKind.TheVariants.{Pcap, Pcapng, Stream, Reasoned, Text}
use Rattle.words.specs.FilterRequests.{ConvertRequest}
use Rattle.filtering.specs.declared.frame_kinds.WrittenForm.{WrittenForm}
use Rattle.filtering.specs.declared.frame_kinds.WrittenForm.TheVariants.{Plain, Capture}
use Rattle.filtering.specs.Opening.{has_ending}

-- by the end of the output's name
abbrev pub kind_by_end : List ℕ → Option FramesKind
kind_by_end name =
    if has_ending name (codes ".pcapng") then Some Pcapng
    else if has_ending name (codes ".pcap") then Some Pcap
    else if has_ending name (codes ".cap") then Some Pcap
    else if has_ending name (codes ".frames") then Some Stream
    else if has_ending name (codes ".txt") then Some Text
    else None

-- by the form of the file that they are read from, which is no frame stream
abbrev pub kind_unnamed : FileForm → Option FramesKind
kind_unnamed Frames = None
kind_unnamed form = Some Stream

-- the first of them that says something
abbrev pub kind_first : Option FramesKind → Option FramesKind → Option FramesKind
kind_first (Some kind) other = Some kind
kind_first None other = other

-- what is asked for, or else what the name says, or else the form
abbrev pub first_kind : ConvertRequest → FileForm → Option FramesKind
first_kind request form =
    kind_first request.kind (kind_first (kind_by_end request.out) (kind_unnamed form))

-- a frame stream has reasons, if they are asked for
abbrev pub reasoned : Bool → FramesKind → FramesKind
reasoned true Stream = Reasoned
reasoned has_reasons kind = kind

abbrev pub kind_of : ConvertRequest → FileForm → Option FramesKind
kind_of request form = option_map (reasoned request.has_reasons) (first_kind request form)

-- how they are written
abbrev pub written_as : FramesKind → WrittenForm
written_as Pcap = Capture capture.Pcap
written_as Pcapng = Capture capture.Pcapng
written_as Stream = Plain form.Plain
written_as Reasoned = Plain form.Reasoned
written_as Text = Plain form.Text
