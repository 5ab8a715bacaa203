-- Worked examples of reports, computed from the definitions. docs/FORMATS.md.
use Rattle.std.specs.Prelude.{◌≡◌, ℕ, pos, negsuc, true, false, List, [], ◌∷◌, ◌++◌, length, map, take, slice_index_or, codes, refl}
use Rattle.std.specs.List.{range_with_len}
use Rattle.std.specs.Fmt.{digits}
use Rattle.hex.specs.Hex.{encode_with}
use Rattle.isa_model.specs.declared.registers.Reg.TheVariants.{R0, R1, R2}
use Rattle.isa_model.specs.declared.sizes.Size.TheVariants.{U8, U32}
use Rattle.isa_model.specs.declared.instructions.Insn.TheVariants as insn
use Rattle.isa_model.specs.declared.map_defs.MapType.TheVariants.{Hash, Array}
use Rattle.isa_model.specs.declared.map_defs.MapDef.{MapDef}
use Rattle.isa_model.specs.declared.frames.Action.TheVariants as action
use Rattle.isa_model.specs.declared.ends.End.TheVariants.{Exit, Trap, Limit}
use Rattle.isa_model.specs.declared.ends.TrapReason.TheVariants.{NoCode, UnsetRead, ReadOnly, BadPointer, OutOfRange, BadAccess, BadCompare, BadHelper, TooManyCallFrames, NoResult, BadAction}
use Rattle.isa_model.specs.declared.streams.Fault.TheVariants.{BadMagic, TruncatedHead, TooLong, TruncatedBody, ReadFailed, TooManyRecords}
use Rattle.isa_model.specs.declared.streams.Finish.TheVariants as finish
use Rattle.isa_model.specs.Code.Numbers.{alu}
use Rattle.isa_model.specs.Reporting.Frames.{action_of}
use Rattle.isa_model.specs.Code.Instructions.{Program, slots}
use Rattle.isa_model.specs.Machine.States.{new_call_frame}
use Rattle.isa_model.specs.Machine.Steps.{act, step}
use Rattle.isa_model.specs.Running.Runs.{start_state, progress, turn}
use Rattle.isa_model.specs.Code.Versions.{stream_magic}
use Rattle.isa_model.specs.Reporting.Streams.{ByEnd, head_bytes, opened, stop_at, frames_from, stream_of}
use Rattle.isa_model.specs.Reporting.Reports.{ReportForm, frame_line, skip_line, skip_pieces, map_line, last_line, report_bytes, frames_out, is_sent, frame_pieces, reason_of, Rule, in_report_order, starting_contents, report_of, checked_report}
use Rattle.isa_model.specs.Worked.StreamExamples.{head_of}
use Rattle.isa_model.specs.Worked.Examples.{set, copy, above, zeros}
use Rattle.isa_model.specs.declared.versions.Version.{Version}
use Rattle.isa_model.specs.declared.versions.Version.TheVariants.{One, Two}

-- ---- whole reports

-- r0 = 2; exit
abbrev pub passes : Program
passes = record { insns = slots (set R0 (pos 2) ∷ insn.Exit ∷ []); maps = []; version = One }

-- the report, and below it the frames out, of a stream that ends after these bytes
abbrev pub report_on : Program → List ℕ → List ℕ
report_on p bytes =
    report_bytes (checked_report p 100 (stream_of (record { bytes = bytes; ending = ByEnd })))

abbrev pub out_on : Program → List ℕ → List ℕ
out_on p bytes =
    frames_out (checked_report p 100 (stream_of (record { bytes = bytes; ending = ByEnd })))

-- the magic and a record without a body
abbrev pub one_frame_stream : List ℕ
one_frame_stream = stream_magic One ++ zeros 20

pub passes_an_empty_frame : report_on passes one_frame_stream ≡ codes "0 PASS 0 2\nend 1\n"
unfolding frames_from opened stop_at turn progress start_state new_call_frame step act alu
    frame_pieces frame_line last_line digits
passes_an_empty_frame = refl

pub passed_frame_is_written_out : out_on passes one_frame_stream ≡ one_frame_stream
unfolding frames_from opened stop_at turn progress start_state new_call_frame step act alu
    frame_pieces frame_line last_line head_bytes digits
passed_frame_is_written_out = refl

pub too_long_a_body : report_on passes (one_frame_stream ++ head_of 4097)
    ≡ codes "0 PASS 0 2\nfault F3 at 24\n"
unfolding frames_from opened stop_at turn progress start_state new_call_frame step act alu
    frame_pieces frame_line last_line digits
too_long_a_body = refl

pub body_cut_off : report_on passes (one_frame_stream ++ head_of 10 ++ zeros 9)
    ≡ codes "0 PASS 0 2\nfault F4 at 24\n"
unfolding frames_from opened stop_at turn progress start_state new_call_frame step act alu
    frame_pieces frame_line last_line digits
body_cut_off = refl

pub head_cut_off : report_on passes (one_frame_stream ++ zeros 5)
    ≡ codes "0 PASS 0 2\nfault F2 at 24\n"
unfolding frames_from opened stop_at turn progress start_state new_call_frame step act alu
    frame_pieces frame_line last_line digits
head_cut_off = refl

pub longest_body : report_on passes (one_frame_stream ++ head_of 4096 ++ zeros 4096)
    ≡ codes "0 PASS 0 2\n1 PASS 4096 2\nend 2\n"
unfolding frames_from opened stop_at turn progress start_state new_call_frame step act alu
    frame_pieces frame_line last_line digits
longest_body = refl

pub empty_stream : report_on passes [] ≡ codes "fault F1 at 0\n"
unfolding frames_from opened stop_at last_line digits
empty_stream = refl

pub empty_stream_out : out_on passes [] ≡ codes "XPF1"
unfolding frames_from opened stop_at last_line digits
empty_stream_out = refl

-- r0 = r2; exit: the run traps, and the frame is not written out
pub trap_line : report_on
    (record { insns = slots (copy R0 R2 ∷ insn.Exit ∷ []); maps = []; version = One })
    one_frame_stream ≡ codes "0 TRAP unset 0 0\nend 1\n"
unfolding frames_from opened stop_at turn progress start_state new_call_frame step act alu
    frame_pieces frame_line last_line digits
trap_line = refl

pub trapped_frame_is_not_written_out : out_on
    (record { insns = slots (copy R0 R2 ∷ insn.Exit ∷ []); maps = []; version = One })
    one_frame_stream ≡ codes "XPF1"
unfolding frames_from opened stop_at turn progress start_state new_call_frame step act alu
    frame_pieces frame_line last_line digits
trapped_frame_is_not_written_out = refl

-- goto +0; goto -1
pub limit_line : report_on
    (record {
      insns = slots (insn.Jump (pos 0) ∷ insn.Jump (negsuc 0) ∷ []);
      maps = [];
      version = One;
    }) one_frame_stream ≡ codes "0 LIMIT 0 100\nend 1\n"
unfolding frames_from opened stop_at turn progress start_state new_call_frame step act alu
    frame_pieces frame_line last_line digits
limit_line = refl

-- ---- actions and lines

-- a program and a stream of the first version
abbrev report_form : ℕ → ReportForm
report_form limit = record { limit = limit; program = One; stream = One }

-- 0 to 5, and answers whose low 32 bits are 2, 4 and 2^32 - 1
pub actions : map action_of (0 ∷ 1 ∷ 2 ∷ 3 ∷ 4 ∷ 5 ∷ 0x700000002 ∷ 0x100000004 ∷ 0xffffffff ∷ [])
    ≡ action.Aborted ∷ action.Drop ∷ action.Pass ∷ action.Tx ∷ action.Redirect ∷ action.Invalid
    ∷ action.Pass ∷ action.Redirect ∷ action.Invalid ∷ []
actions = refl

-- frame 12 of 60 bytes, by runs that answer 0 to 5 after 7 steps
pub lines_of_actions : map (λ n. frame_line (report_form 100) 12 (Exit n 7) 60)
    (0 ∷ 1 ∷ 2 ∷ 3 ∷ 4 ∷ 5 ∷ [])
    ≡ codes "12 ABORTED 60 7\n" ∷ codes "12 DROP 60 7\n" ∷ codes "12 PASS 60 7\n"
    ∷ codes "12 TX 60 7\n" ∷ codes "12 REDIRECT 60 7\n" ∷ codes "12 INVALID 60 7\n" ∷ []
unfolding frame_line digits
lines_of_actions = refl

pub lines_of_traps : map (λ trap_reason. frame_line (report_form 100) 12 (Trap trap_reason 7) 60)
    (NoCode ∷ UnsetRead ∷ ReadOnly ∷ BadPointer ∷ OutOfRange ∷ BadAccess ∷ BadCompare ∷ BadHelper
    ∷ TooManyCallFrames ∷ NoResult ∷ BadAction ∷ [])
    ≡ codes "12 TRAP code 60 7\n" ∷ codes "12 TRAP unset 60 7\n" ∷ codes "12 TRAP readonly 60 7\n"
    ∷ codes "12 TRAP pointer 60 7\n" ∷ codes "12 TRAP range 60 7\n"
    ∷ codes "12 TRAP access 60 7\n" ∷ codes "12 TRAP compare 60 7\n" ∷ codes "12 TRAP helper 60 7\n"
    ∷ codes "12 TRAP frames 60 7\n" ∷ codes "12 TRAP exit 60 7\n" ∷ codes "12 TRAP action 60 7\n"
    ∷ []
unfolding frame_line digits
lines_of_traps = refl

pub line_at_the_limit : frame_line (report_form 1000000) 12 Limit 60 ≡ codes "12 LIMIT 60 1000000\n"
unfolding frame_line digits
line_at_the_limit = refl

pub last_lines : last_line 7 finish.End
    ∷ map (λ f. last_line 7 (finish.Fault f 24))
    (BadMagic ∷ TruncatedHead ∷ TooLong ∷ TruncatedBody ∷ ReadFailed ∷ TooManyRecords ∷ [])
    ≡ codes "end 7\n" ∷ codes "fault F1 at 24\n" ∷ codes "fault F2 at 24\n"
    ∷ codes "fault F3 at 24\n" ∷ codes "fault F4 at 24\n" ∷ codes "fault F5 at 24\n"
    ∷ codes "fault F6 at 24\n" ∷ []
unfolding last_line digits
last_lines = refl

-- PASS and TX frames are written out
pub frames_sent : map (is_sent One)
    (Exit 0 1 ∷ Exit 1 1 ∷ Exit 2 1 ∷ Exit 3 1 ∷ Exit 4 1 ∷ Exit 5 1 ∷ Exit 0x700000003 1
    ∷ Trap NoResult 2 ∷ Limit ∷ [])
    ≡ false ∷ false ∷ true ∷ true ∷ false ∷ false ∷ true ∷ false ∷ false ∷ []
frames_sent = refl

-- ---- frames out

-- r2 = *(u32 *)(r1 + 0); *(u8 *)(r2 + 1) = 7; r0 = 3; exit
abbrev pub writes_and_sends_back : Program
writes_and_sends_back =
    record {
      insns = slots
          (insn.Load U32 R2 (above R1 0) ∷ insn.StoreConstant U8 (above R2 1) (pos 7)
          ∷ set R0 (pos 3) ∷ insn.Exit ∷ []);
      maps = [];
      version = One;
    }

-- a record whose head begins with the bytes 1 to 16, before the length
abbrev pub record_of : List ℕ → List ℕ
record_of body = range_with_len 1 16 ++ length body ∷ 0 ∷ 0 ∷ 0 ∷ body

abbrev pub three_frame_stream : List ℕ
three_frame_stream =
    stream_magic One ++ record_of (8 ∷ 9 ∷ []) ++ record_of (8 ∷ []) ++ record_of (5 ∷ 5 ∷ 5 ∷ [])

-- a frame is written out as its run left it, with its head;
-- the run on the second one, of one byte, traps, and the third is run
pub frames_out_as_they_are_left : report_on writes_and_sends_back three_frame_stream
    ∷ out_on writes_and_sends_back three_frame_stream ∷ []
    ≡ codes "0 TX 2 4\n1 TRAP access 1 1\n2 TX 3 4\nend 3\n"
    ∷ (stream_magic One ++ record_of (8 ∷ 7 ∷ []) ++ record_of (5 ∷ 7 ∷ 5 ∷ [])) ∷ []
unfolding frames_from opened stop_at turn progress start_state new_call_frame step act alu
    frame_pieces frame_line last_line head_bytes digits
frames_out_as_they_are_left = refl

-- ---- maps

pub hexadecimal_is_lower_case : map_line 1 (0 ∷ 171 ∷ [], 255 ∷ []) ≡ codes "map 1 00ab ff\n"
unfolding map_line encode_with digits
hexadecimal_is_lower_case = refl

-- an array's keys are little-endian, so 256 is before 1 in the order of key bytes, and after it by
-- index
pub arrays_go_by_index : map (λ e. e.1)
    (in_report_order Array 257
    ((0 ∷ 0 ∷ 0 ∷ 0 ∷ [], 7 ∷ []) ∷ (0 ∷ 1 ∷ 0 ∷ 0 ∷ [], 9 ∷ []) ∷ (1 ∷ 0 ∷ 0 ∷ 0 ∷ [], 8 ∷ [])
    ∷ []))
    ≡ (7 ∷ []) ∷ (8 ∷ []) ∷ (9 ∷ []) ∷ []
arrays_go_by_index = refl

-- an array of two values of 3 bytes and a hash map: the first has all its values from the start,
-- zero-filled, the second none
abbrev pub rows : List MapDef
rows = record { kind = Array; key_size = 4; value_size = 3; entries = 2 }
    ∷ record { kind = Hash; key_size = 1; value_size = 1; entries = 9 } ∷ []

pub contents_at_the_start : starting_contents rows
    ≡ ((0 ∷ 0 ∷ 0 ∷ 0 ∷ [], 0 ∷ 0 ∷ 0 ∷ []) ∷ (1 ∷ 0 ∷ 0 ∷ 0 ∷ [], 0 ∷ 0 ∷ 0 ∷ []) ∷ []) ∷ [] ∷ []
contents_at_the_start = refl

-- a made-up rule: a run puts the packet into the hash map under its first byte, and traps
abbrev pub remembers : Rule
remembers head body contents = record {
  ends = Trap NoCode 5;
  packet = body;
  contents = take 1 contents ++ (slice_index_or contents 1 [] ++ (take 1 body, body) ∷ []) ∷ [];
  clock_calls = 0;
}

-- contents are carried from frame to frame, also where a run traps, and then each map's lines
-- follow, map by map
pub contents_carried_along : report_bytes
    (report_of 100 One rows remembers (starting_contents rows) (record {
      version = One;
      frames =
          map (λ body.
          record { head = record { time = 0; interface = 0; queue = 0 }; body = body; reason = 0 })
          ((8 ∷ []) ∷ (9 ∷ 10 ∷ []) ∷ []);
      finish = finish.Fault ReadFailed 70;
    }))
    ≡ codes "0 TRAP code 1 5\n1 TRAP code 2 5\nmap 0 00000000 000000\nmap 0 01000000 000000\n"
    ++ codes "map 1 08 08\nmap 1 09 090a\nfault F5 at 70\n"
unfolding frame_pieces frame_line map_line last_line encode_with digits
contents_carried_along = refl

-- ---- streams and programs of version 2

-- r0 = n ll; exit
abbrev pub answering : Version → ℕ → Program
answering version n =
    record { insns = slots (insn.LoadNumber R0 n ∷ insn.Exit ∷ []); maps = []; version = version }

-- the head of a record whose body has n bytes, with a reason, all other fields 0
abbrev pub head_with_reason : ℕ → ℕ → List ℕ
head_with_reason n reason = zeros 16 ++ n ∷ 0 ∷ 0 ∷ 0 ∷ reason ∷ 0 ∷ 0 ∷ 0 ∷ []

-- a frame that is dropped is written out with the reason in the run's answer
pub reason_goes_out : report_on (answering Two 0x700000001)
    (stream_magic Two ++ head_with_reason 3 0 ++ 170 ∷ 187 ∷ 204 ∷ [])
    ∷ out_on (answering Two 0x700000001)
    (stream_magic Two ++ head_with_reason 3 0 ++ 170 ∷ 187 ∷ 204 ∷ []) ∷ []
    ≡ codes "0 DROP 3 2 7\nend 1\n"
    ∷ (stream_magic Two ++ head_with_reason 3 7 ++ 170 ∷ 187 ∷ 204 ∷ []) ∷ []
unfolding frames_from opened stop_at turn progress start_state new_call_frame step act alu
    frame_pieces frame_line last_line head_bytes digits
reason_goes_out = refl

-- on a stream without reasons it is not written
pub no_reason_goes_out : report_on (answering Two 0x700000001)
    (stream_magic One ++ head_of 3 ++ 170 ∷ 187 ∷ 204 ∷ [])
    ∷ out_on (answering Two 0x700000001)
    (stream_magic One ++ head_of 3 ++ 170 ∷ 187 ∷ 204 ∷ []) ∷ []
    ≡ codes "0 DROP 3 2\nend 1\n" ∷ codes "XPF1" ∷ []
unfolding frames_from opened stop_at turn progress start_state new_call_frame step act alu
    frame_pieces frame_line last_line head_bytes digits
no_reason_goes_out = refl

-- a frame that has a reason is not run, and is written out as it was read
pub frame_with_a_reason_is_skipped : report_on (answering One 0x700000001)
    (stream_magic Two ++ head_with_reason 0 0 ++ head_with_reason 2 5 ++ 1 ∷ 2 ∷ [])
    ∷ out_on (answering One 0x700000001)
    (stream_magic Two ++ head_with_reason 0 0 ++ head_with_reason 2 5 ++ 1 ∷ 2 ∷ []) ∷ []
    ≡ codes "0 DROP 0 2 1\n1 SKIP 2 0 5\nend 2\n"
    ∷ (stream_magic Two ++ head_with_reason 0 1 ++ head_with_reason 2 5 ++ 1 ∷ 2 ∷ []) ∷ []
unfolding frames_from opened stop_at turn progress start_state new_call_frame step act alu
    frame_pieces frame_line skip_pieces skip_line last_line head_bytes digits
frame_with_a_reason_is_skipped = refl

-- a program of version 2 has to answer with an action; one of version 1 may answer any number
pub action_over_4 : map
    (λ version. report_on (answering version 6) (stream_magic Two ++ head_with_reason 0 0))
    (One ∷ Two ∷ [])
    ≡ codes "0 INVALID 0 2 1\nend 1\n" ∷ codes "0 TRAP action 0 1\nend 1\n" ∷ []
unfolding frames_from opened stop_at turn progress start_state new_call_frame step act alu
    frame_pieces frame_line last_line digits
action_over_4 = refl

-- a trapped frame is not written out
pub trapped_frame_has_no_record : out_on (answering Two 6)
    (stream_magic Two ++ head_with_reason 0 0)
    ≡ codes "XPF2"
unfolding frames_from opened stop_at turn progress start_state new_call_frame step act alu
    frame_pieces frame_line last_line digits
trapped_frame_has_no_record = refl

-- the reason is 0 for PASS and TX; else it is the upper half of the answer, or 1 where that half is
-- 0 or the program is of version 1
pub reasons : map (reason_of Two)
    (0x700000002 ∷ 0x700000003 ∷ 0x700000004 ∷ 0xffffffff00000000 ∷ 1 ∷ [])
    ++ map (reason_of One) (0x700000002 ∷ 0x700000001 ∷ 9 ∷ [])
    ≡ 0 ∷ 0 ∷ 7 ∷ 0xffffffff ∷ 1 ∷ 0 ∷ 1 ∷ 1 ∷ []
reasons = refl
