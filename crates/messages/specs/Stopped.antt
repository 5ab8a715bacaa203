-- The message on standard error about packet frames whose runs ended without an action.
use Rattle.std.specs.Prelude.{◌≡◌, ℕ, ◌+◌, ◌-◌, ◌==◌, nat_lt, List, [], ◌∷◌, ◌++◌, length, sum_by, Option, Some, None, String, Result, Ok, Err, IfSome, codes, decimal, if◌then◌else◌}
use Rattle.std.specs.declared.alloc.Global.{Global}
use Rattle.std.specs.String.{string_bytes}
use Rattle.isa_model.specs.declared.values.Value.{Value}
use Rattle.isa_model.specs.declared.instructions.Insn.{Insn}
use Rattle.isa_model.specs.declared.ends.TrapReason.{TrapReason}
use Rattle.isa_model.specs.declared.ends.TrapReason.TheVariants.{NoCode, UnsetRead, ReadOnly, BadPointer, OutOfRange, BadAccess, BadCompare, BadHelper, TooManyCallFrames, NoResult, BadAction}
use Rattle.isa_model.specs.declared.ends.End.{End}
use Rattle.isa_model.specs.declared.ends.End.TheVariants.{Exit, Trap, Limit}
use Rattle.isa_model.specs.Text.CanonicalText.{line_of}
use Rattle.explanations.specs.Values.{value_lines}
use Rattle.host.specs.declared.errors.HostError.{HostError}
use Rattle.host.specs.declared.stops.FrameStop.{FrameStop}
use Rattle.host.specs.declared.stops.Stops.{Stops}
use Rattle.host.specs.declared.traced.Traced.{Traced}
use Rattle.host.specs.Stops.{Noted, noted_of}

-- the instruction that begins at the slot, and the values of the registers that it reads
abbrev pub insn_lines : Option Insn → List Value → List ℕ
insn_lines None registers = codes "no instruction begins there\n"
insn_lines (Some insn) registers = line_of insn ++ value_lines registers insn

-- a hint for a trap
abbrev pub trap_line : TrapReason → List ℕ
trap_line NoCode = codes "end each path by exit, and jump to where an instruction begins\n"
trap_line UnsetRead =
    codes "a register or a stack byte is read that was not written: write it first\n"
trap_line ReadOnly = codes "r10 is written, and it is read-only: copy it and change the copy\n"
trap_line BadPointer =
    codes "stack, packet and value pointers move by += and -= of a number, at 64 bits\n"
trap_line OutOfRange = codes "a pointer moves by at most 536870912 bytes\n"
trap_line BadAccess =
    codes "bytes are not there: test the packet's length or a look-up's r0, or correct the offset\n"
trap_line BadCompare =
    codes "compare a packet pointer with the packet end, a value pointer with 0, at 64 bits\n"
trap_line BadHelper =
    codes "there are helpers 1, 2, 3 and 5; r1 is a map, r2 points to a key, r3 to a value\n"
trap_line TooManyCallFrames =
    codes "8 functions are running: write this one's instructions in place of the call\n"
trap_line NoResult = codes "r0 has to be a number: 0 ABORTED, 1 DROP, 2 PASS, 3 TX\n"
trap_line BadAction = codes "the low half of r0 has to be 0 to 4: mask it (r0 &= 3) or test it\n"

-- a hint for an answer that names no action
abbrev pub no_action_line : List ℕ
no_action_line = codes "r0 names no action: 0 ABORTED, 1 DROP, 2 PASS, 3 TX, 4 REDIRECT\n"

-- a hint for how a run ended
abbrev pub end_line : End → List ℕ
end_line (Exit value steps) = no_action_line
end_line (Trap reason steps) = trap_line reason
end_line Limit = codes "the limit of steps is reached: give more by --limit, or end a loop\n"

-- how many frames more there are
abbrev pub others_words : ℕ → List ℕ
others_words count =
    if nat_lt 1 count then codes " and " ++ (decimal (count - 1) ++ codes " more") else []

-- the first packet frame whose run stopped at a slot, and where
abbrev pub stop_line : FrameStop → List ℕ
stop_line f =
    codes "frame " ++ (decimal f.frame ++ (others_words f.count ++ (codes ", slot "
    ++ (decimal f.stop.slot ++ (codes ": "
    ++ (insn_lines f.stop.insn f.stop.registers ++ end_line f.stop.end))))))

abbrev pub first_lines : List FrameStop → List ℕ
first_lines [] = []
first_lines (f ∷ fs) = stop_line f ++ first_lines fs

-- how many frames are counted with one of the first ones
abbrev pub told_at : FrameStop → ℕ
told_at f = f.count

-- how many more runs ended without an action
abbrev pub more_line : ℕ → List ℕ
more_line more = if more == 0 then []
    else codes "and " ++ (decimal more ++ codes " more frames that ended without an action\n")

abbrev pub stop_lines : Noted → List ℕ
stop_lines noted = first_lines noted.first ++ more_line (noted.count - sum_by told_at noted.first)

-- ---- the message of a trace

-- the text, if there is one, has these lines; there is none if no frame is noted, and there may be
-- none if memory ran out
abbrev pub TellsStops : Stops → Option (String Global) → Type 0
TellsStops stops why = (stops.count ≡ 0 → why ≡ None)
    × IfSome why (λ text. string_bytes text ≡ stop_lines (noted_of stops))

abbrev pub TellsStopsOf : Result Traced HostError → Option (String Global) → Type 0
TellsStopsOf (Ok traced) why = TellsStops traced.stops why
TellsStopsOf (Err error) why = why ≡ None
