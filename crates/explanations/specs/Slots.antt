-- What is known of the eight bytes of a stack slot, as text.
use Rattle.std.specs.Prelude.{ℕ, zero, suc, ◌+◌, ◌-◌, ◌*◌, ◌==◌, nat_lt, ℤ, pos, negsuc, ◌+ℤ◌, ◌-ℤ◌, List, [], ◌++◌, length, Option, Some, None, codes, if◌then◌else◌}
use Rattle.std.specs.Fmt.{signed_decimal}
use Rattle.std.specs.Int.{bit_at}
use Rattle.isa_model.specs.Code.Limits.{stack_size}
use Rattle.stack_state.specs.declared.slots.StackSlot.{StackSlot}
use Rattle.stack_state.specs.declared.slots.StackSlot.TheVariants.{Written, Spilled}
use Rattle.stack_state.specs.declared.states.State.{State}
use Rattle.stack_state.specs.Meaning.{stack_slots_of}
use Rattle.stack_state.specs.Slots.{slot_at, marks_of}
use Rattle.explanations.specs.Kinds.{calls_up, kind_words}

-- the offset of a byte of the stack slot, counted from the end of the call frame
abbrev pub offset_of : ℕ → ℕ → ℤ
offset_of slot byte = pos (8 * slot + byte) -ℤ pos stack_size

-- the byte's offset, if it is a written number byte
abbrev pub byte_word : ℕ → ℕ → ℕ → List ℕ
byte_word slot marks byte =
    if bit_at marks byte == 1 then codes " " ++ signed_decimal (offset_of slot byte) else []

-- the offsets of those among this count of its last bytes
abbrev pub written_words : ℕ → ℕ → ℕ → List ℕ
written_words slot marks zero = []
written_words slot marks (suc n) = byte_word slot marks (7 - n) ++ written_words slot marks n

-- what is known of the stack slot, where the innermost frame has this index
abbrev pub slot_words : ℕ → ℕ → StackSlot → List ℕ
slot_words innermost slot (Written marks) =
    if marks == 0 then codes "unset"
    else if marks == 255 then codes "written"
    else codes "written bytes" ++ written_words slot marks 8
slot_words innermost slot (Spilled k) = kind_words innermost k

-- a stack slot: where it begins, counted from the end of its frame, and what is known of it
abbrev pub slot_line : State → ℕ → ℕ → List ℕ
slot_line a frame slot =
    codes "stack " ++ (signed_decimal (offset_of slot 0)
    ++ (calls_up (length a.callers.items - frame)
    ++ (codes ": "
    ++ (slot_words (length a.callers.items) slot (slot_at (stack_slots_of a frame) slot)
    ++ codes "\n"))))

-- the byte of a frame at that distance from its end
abbrev pub in_frame : ℤ → Option ℕ
in_frame (pos n) = if nat_lt n stack_size then Some n else None
in_frame (negsuc n) = None

abbrev pub byte_at : ℤ → Option ℕ
byte_at z = in_frame (z +ℤ pos stack_size)

-- the first stack slot among this count of them that has a byte which is no written number byte
abbrev pub first_open : List StackSlot → ℕ → ℕ → Option ℕ
first_open slots slot zero = None
first_open slots slot (suc n) =
    if marks_of (slot_at slots slot) == 255 then first_open slots (slot + 1) n else Some slot
