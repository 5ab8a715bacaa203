-- What running a program over a frame stream writes: the report and the frames out, as pieces of a
-- report in their order. docs/FORMATS.md.
use Rattle.std.specs.Prelude.{◌≡◌, ℕ, ◌+◌, ◌/◌, ◌^◌, ◌==◌, if◌then◌else◌, Bool, true, false, List, [], ◌∷◌, ◌++◌, length, map, fold, replicate, codes, decimal, Option, Some, None}
use Rattle.std.specs.List.{flat_map, filter_map, range_with_len}
use Rattle.std.specs.Option.{option_map}
use Rattle.std.specs.Ordering.{nat_cmp}
use Rattle.std.specs.Cmp.Lexicographic.{slice_cmp}
use Rattle.std.specs.FinMap.Entries.{find, put as put_pair}
use Rattle.byteorder.specs.Endian.{little_bytes}
use Rattle.hex.specs.Hex.{encode_lower}
use Rattle.isa_model.specs.declared.map_defs.MapType.{MapType}
use Rattle.isa_model.specs.declared.map_defs.MapType.TheVariants.{Hash, Array}
use Rattle.isa_model.specs.declared.map_defs.MapDef.{MapDef}
use Rattle.isa_model.specs.declared.frames.FrameHead.{FrameHead}
use Rattle.isa_model.specs.declared.frames.Action.{Action}
use Rattle.isa_model.specs.declared.frames.Action.TheVariants as action
use Rattle.isa_model.specs.declared.streams.Finish.{Finish}
use Rattle.isa_model.specs.declared.streams.Finish.TheVariants as finish
use Rattle.isa_model.specs.declared.ends.TrapReason.{TrapReason}
use Rattle.isa_model.specs.declared.ends.TrapReason.TheVariants.{NoCode, UnsetRead, ReadOnly, BadPointer, OutOfRange, BadAccess, BadCompare, BadHelper, TooManyCallFrames, NoResult, BadAction}
use Rattle.isa_model.specs.declared.ends.End.{End}
use Rattle.isa_model.specs.declared.ends.End.TheVariants.{Exit, Trap, Limit}
use Rattle.isa_model.specs.Reporting.Frames.{action_of}
use Rattle.isa_model.specs.Code.Instructions.{Program}
use Rattle.isa_model.specs.Machine.States.{KeyValues}
use Rattle.isa_model.specs.declared.versions.Version.{Version}
use Rattle.isa_model.specs.declared.versions.Version.TheVariants.{One, Two}
use Rattle.isa_model.specs.Code.Versions.{stream_magic}
use Rattle.isa_model.specs.Reporting.Streams.{PacketFrame, Stream, record_bytes}
use Rattle.isa_model.specs.Reporting.Messages.{code_of}
use Rattle.isa_model.specs.Running.Runs.{Outcome, HasOutcome, Turn, turn}
use Rattle.isa_model.specs.Code.Limits.{max_steps}

-- ---- names

abbrev pub action_name : Action → List ℕ
action_name action.Aborted = codes "ABORTED"
action_name action.Drop = codes "DROP"
action_name action.Pass = codes "PASS"
action_name action.Tx = codes "TX"
action_name action.Redirect = codes "REDIRECT"
action_name action.Invalid = codes "INVALID"

abbrev pub trap_reason_name : TrapReason → List ℕ
trap_reason_name NoCode = codes "code"
trap_reason_name UnsetRead = codes "unset"
trap_reason_name ReadOnly = codes "readonly"
trap_reason_name BadPointer = codes "pointer"
trap_reason_name OutOfRange = codes "range"
trap_reason_name BadAccess = codes "access"
trap_reason_name BadCompare = codes "compare"
trap_reason_name BadHelper = codes "helper"
trap_reason_name TooManyCallFrames = codes "frames"
trap_reason_name NoResult = codes "exit"
trap_reason_name BadAction = codes "action"

-- ---- what is done with a frame, and why

abbrev pub is_forwarded : Action → Bool
is_forwarded action.Pass = true
is_forwarded action.Tx = true
is_forwarded other = false

-- the reason of a dropped frame: in version 2 the upper half of the answer, and 1 where that is 0
abbrev pub drop_reason : Version → ℕ → ℕ
drop_reason One answer = 1
drop_reason Two answer = if answer / 2 ^ 32 == 0 then 1 else answer / 2 ^ 32

-- the reason of a frame, by the program's version and answer; 0 where the frame is forwarded
abbrev pub reason_of : Version → ℕ → ℕ
reason_of v answer = if is_forwarded (action_of answer) then 0 else drop_reason v answer

-- ---- lines, each ended by one line feed

-- what the lines depend on beside the runs: the limit of steps, and the versions of the program and
-- of the stream
pub record ReportForm : Type 0 where
  pub limit : ℕ
  pub program : Version
  pub stream : Version

-- the field of a line that has the reason, where the stream has reasons
abbrev pub reason_text : Version → ℕ → List ℕ
reason_text One reason = []
reason_text Two reason = codes " " ++ decimal reason

-- a frame's line, by its number, how its run ended, and the length of its body
unfoldable pub frame_line : ReportForm → ℕ → End → ℕ → List ℕ
frame_line form number (Exit answer steps) len =
    decimal number ++ codes " " ++ action_name (action_of answer) ++ codes " " ++ decimal len
    ++ codes " " ++ decimal steps
    ++ reason_text form.stream (reason_of form.program answer) ++ codes "\n"
frame_line form number (Trap trap_reason steps) len =
    decimal number ++ codes " TRAP " ++ trap_reason_name trap_reason ++ codes " " ++ decimal len
    ++ codes " " ++ decimal steps ++ codes "\n"
frame_line form number Limit len =
    decimal number ++ codes " LIMIT " ++ decimal len ++ codes " " ++ decimal form.limit
    ++ codes "\n"

-- the line of a frame that has a reason already, and is not run
unfoldable pub skip_line : ℕ → ℕ → ℕ → List ℕ
skip_line number len reason =
    decimal number ++ codes " SKIP " ++ decimal len ++ codes " 0 " ++ decimal reason ++ codes "\n"

-- the line of a key and its value, by the map's index, in lower-case hexadecimal
unfoldable pub map_line : ℕ → (List ℕ × List ℕ) → List ℕ
map_line index e =
    codes "map " ++ decimal index ++ codes " " ++ encode_lower e.0 ++ codes " " ++ encode_lower e.1
    ++ codes "\n"

-- the last line, by how many frames there are and how the stream ended
unfoldable pub last_line : ℕ → Finish → List ℕ
last_line count finish.End = codes "end " ++ decimal count ++ codes "\n"
last_line count (finish.Fault f offset) =
    codes "fault " ++ code_of f ++ codes " at " ++ decimal offset ++ codes "\n"

-- ---- pieces of a report: each is written whole, or a beginning of it is the last that is written

pub data OutputPiece : Type 0 where
  ToReport : List ℕ → OutputPiece
  ToFrames : List ℕ → OutputPiece

abbrev pub report_part : OutputPiece → List ℕ
report_part (ToReport bytes) = bytes
report_part (ToFrames bytes) = []

abbrev pub frames_part : OutputPiece → List ℕ
frames_part (ToReport bytes) = []
frames_part (ToFrames bytes) = bytes

-- the report, and the frames out
abbrev pub report_bytes : List OutputPiece → List ℕ
report_bytes pieces = flat_map report_part pieces

abbrev pub frames_out : List OutputPiece → List ℕ
frames_out pieces = flat_map frames_part pieces

-- ---- frames

-- PASS and TX frames are written out, and where the stream has reasons all frames whose runs exit
abbrev pub is_sent : Version → End → Bool
is_sent One (Exit answer steps) = is_forwarded (action_of answer)
is_sent Two (Exit answer steps) = true
is_sent stream end = false

-- the reason that a frame is written out with
abbrev pub end_reason : Version → End → ℕ
end_reason program (Exit answer steps) = reason_of program answer
end_reason program end = 0

abbrev pub record_pieces : ReportForm → FrameHead → Turn → List OutputPiece
record_pieces form head t =
    if is_sent form.stream t.ends
    then ToFrames
    (record_bytes form.stream
    (record { head = head; body = t.packet; reason = end_reason form.program t.ends })) ∷ []
    else []

-- a frame's line, and then its record if it has one
unfoldable pub frame_pieces : ReportForm → ℕ → PacketFrame → Turn → List OutputPiece
frame_pieces form number f t =
    ToReport (frame_line form number t.ends (length f.body)) ∷ record_pieces form f.head t

-- a frame that is not run is written out as it was read
unfoldable pub skip_pieces : ReportForm → ℕ → PacketFrame → List OutputPiece
skip_pieces form number f =
    ToReport (skip_line number (length f.body) f.reason)
    ∷ ToFrames (record_bytes form.stream f) ∷ []

-- the turn of the run on a packet frame, by the map contents at its start
abbrev pub Rule : Type 0
Rule = FrameHead → List ℕ → List KeyValues → Turn

-- a frame is run unless it has a reason
abbrev pub turn_on : Rule → List KeyValues → PacketFrame → Option Turn
turn_on rule contents f = if f.reason == 0 then Some (rule f.head f.body contents) else None

abbrev pub turn_pieces : ReportForm → ℕ → PacketFrame → Option Turn → List OutputPiece
turn_pieces form number f (Some t) = frame_pieces form number f t
turn_pieces form number f None = skip_pieces form number f

abbrev pub contents_left : List KeyValues → Option Turn → List KeyValues
contents_left contents (Some t) = t.contents
contents_left contents None = contents

-- the frames' pieces of the report, the maps' contents carried along
abbrev pub turns_pieces : ReportForm → Rule → ℕ → List KeyValues → List PacketFrame
    → List OutputPiece
turns_pieces form rule number contents [] = []
turns_pieces form rule number contents (f ∷ frames) =
    let t = turn_on rule contents f in
    turn_pieces form number f t
    ++ turns_pieces form rule (number + 1) (contents_left contents t) frames

abbrev pub contents_after : Rule → List KeyValues → List PacketFrame → List KeyValues
contents_after rule contents [] = contents
contents_after rule contents (f ∷ frames) =
    contents_after rule (contents_left contents (turn_on rule contents f)) frames

-- ---- maps

-- a key of an array with its value, by the index that the key spells
abbrev pub key_value_by_index : KeyValues → ℕ → Option (List ℕ × List ℕ)
key_value_by_index es i =
    option_map (λ value. (little_bytes 4 i, value)) (find (slice_cmp nat_cmp) (little_bytes 4 i) es)

-- hash maps in the order of key bytes, arrays by rising index
abbrev pub in_report_order : MapType → ℕ → KeyValues → KeyValues
in_report_order Hash entries es = es
in_report_order Array entries es = filter_map (key_value_by_index es) (range_with_len 0 entries)

abbrev pub map_pieces : ℕ → MapDef → KeyValues → List OutputPiece
map_pieces index row es =
    map (λ e. ToReport (map_line index e)) (in_report_order row.kind row.entries es)

-- the maps' lines, map by map
abbrev pub maps_pieces : ℕ → List MapDef → List KeyValues → List OutputPiece
maps_pieces index [] contents = []
maps_pieces index (row ∷ rows) [] = []
maps_pieces index (row ∷ rows) (es ∷ contents) =
    map_pieces index row es ++ maps_pieces (index + 1) rows contents

-- an array's values exist from the start, zero-filled; a hash map starts empty
abbrev pub starting_key_values : MapType → MapDef → KeyValues
starting_key_values Hash row = []
starting_key_values Array row =
    fold (λ es i. put_pair (slice_cmp nat_cmp) (little_bytes 4 i) (replicate row.value_size 0) es)
    [] (range_with_len 0 row.entries)

abbrev pub starting_contents : List MapDef → List KeyValues
starting_contents rows = map (λ row. starting_key_values row.kind row) rows

-- ---- reports

-- the magic, each frame's pieces of the report, the maps' lines, and the last line
abbrev pub report_of : ℕ → Version → List MapDef → Rule → List KeyValues → Stream → List OutputPiece
report_of limit program rows rule contents found =
    let form : ReportForm = record { limit = limit; program = program; stream = found.version } in
    (ToFrames (stream_magic found.version) ∷ turns_pieces form rule 0 contents found.frames)
    ++ (maps_pieces 0 rows (contents_after rule contents found.frames)
    ++ ToReport (last_line (length found.frames) found.finish) ∷ [])

-- the turn of a run with checks, stopped at the limit; the clock always answers the frame's time
abbrev pub checked_rule : Program → ℕ → Rule
checked_rule p limit head body contents = turn p limit (λ k. head.time) head body contents

-- the checked report of a program, a limit, and a stream, from these contents of the maps on
abbrev pub checked_report_from : Program → ℕ → List KeyValues → Stream → List OutputPiece
checked_report_from p limit contents found =
    report_of limit p.version p.maps (checked_rule p limit) contents found

-- from new maps on
abbrev pub checked_report : Program → ℕ → Stream → List OutputPiece
checked_report p limit found = checked_report_from p limit (starting_contents p.maps) found

-- the turn of a run that has this outcome
abbrev pub turn_by : Outcome → Turn
turn_by o =
    record {
      ends = Exit o.number o.steps;
      packet = o.packet;
      contents = o.contents;
      clock_calls = o.clock_calls;
    }

-- a frame without a reason has the pieces of the report that its run's outcome gives, and that
-- outcome leaves the contents; every other one is skipped
abbrev pub ReportsFrame : ReportForm → Program → ℕ → List KeyValues → PacketFrame → Bool
    → List OutputPiece
    → List KeyValues → Type 0
ReportsFrame form p number contents f true pieces next =
    (o : Outcome) × HasOutcome p f.head f.body contents (λ k. f.head.time) o
    × (pieces ≡ frame_pieces form number f (turn_by o)) × (next ≡ o.contents)
ReportsFrame form p number contents f false pieces next =
    (pieces ≡ skip_pieces form number f) × (next ≡ contents)

-- the frames' pieces of the report, by their runs' outcomes, and the contents that the last leaves
abbrev pub ReportsFrames : ReportForm → Program → ℕ → List KeyValues → List PacketFrame
    → List OutputPiece
    → List KeyValues → Type 0
ReportsFrames form p number contents [] pieces last = (pieces ≡ []) × (last ≡ contents)
ReportsFrames form p number contents (f ∷ frames) pieces last =
    (front : List OutputPiece) × (rest : List OutputPiece) × (next : List KeyValues)
    × ReportsFrame form p number contents f (f.reason == 0) front next
    × (pieces ≡ front ++ rest) × ReportsFrames form p (number + 1) next frames rest last

-- what a report looks like; no line of it has the limit, since every run exits
abbrev pub report_form_of : Program → Stream → ReportForm
report_form_of p found = record { limit = max_steps; program = p.version; stream = found.version }

-- the report of a program and a stream, from these contents of the maps on: every run exits;
-- `turns` are the turns' pieces of it
pub record IsReportFrom (p : Program) (contents : List KeyValues) (found : Stream)
    (pieces : List OutputPiece) : Type 0 where
  pub turns : List OutputPiece
  pub last : List KeyValues
  pub frames : ReportsFrames (report_form_of p found) p 0 contents found.frames turns last
  pub whole : pieces ≡ (ToFrames (stream_magic found.version) ∷ turns)
      ++ (maps_pieces 0 p.maps last ++ ToReport (last_line (length found.frames) found.finish) ∷ [])

-- the report of a program and a stream, from new maps on
abbrev pub IsReport : Program → Stream → List OutputPiece → Type 0
IsReport p found pieces = IsReportFrom p (starting_contents p.maps) found pieces
