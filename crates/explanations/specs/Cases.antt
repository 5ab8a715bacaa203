-- What a refused instruction needs, or what helps.
use Rattle.std.specs.Prelude.{ℕ, ◌==◌, ℤ, pos, int_lt, ◌+ℤ◌, ◌-ℤ◌, List, [], ◌++◌, length, slice_get, Bool, true, false, ◌&&◌, not, codes, decimal, if◌then◌else◌}
use Rattle.std.specs.Fmt.{signed_decimal}
use Rattle.std.specs.Option.{option_map_or}
use Rattle.isa_model.specs.declared.instructions.Insn.{Insn}
use Rattle.isa_model.specs.declared.instructions.Insn.TheVariants.{CallHelper}
use Rattle.isa_model.specs.declared.instructions.Place.{Place}
use Rattle.isa_model.specs.declared.sizes.Size.{Size}
use Rattle.isa_model.specs.Code.Registers.{reg_number}
use Rattle.isa_model.specs.Code.Sizes.{size_bytes}
use Rattle.isa_model.specs.declared.helpers.Helper.{Helper}
use Rattle.isa_model.specs.declared.helpers.Helper.TheVariants.{MapLookupElem, MapUpdateElem, MapDeleteElem, KtimeGetNs}
use Rattle.isa_model.specs.Code.Helpers.{helper_numbered}
use Rattle.isa_model.specs.declared.registers.Reg.TheVariants.{R1, R2, R3}
use Rattle.isa_model.specs.declared.map_defs.MapDef.{MapDef}
use Rattle.reg_state.specs.declared.kinds.Kind.{Kind}
use Rattle.reg_state.specs.declared.kinds.Kind.TheVariants as kind
use Rattle.stack_state.specs.declared.states.State.{State}
use Rattle.stack_state.specs.Places.{kind_of}
use Rattle.transfer.specs.HelperCalls.{points_to_bytes}
use Rattle.transfer.specs.declared.refusals.Refusal.{Refusal as StepRefusal}
use Rattle.transfer.specs.declared.refusals.Refusal.TheVariants.{ReadOnlyRegister, PointerOperand, PointerOffset, NotMemory, StackPlace, StackBytes, ContextAccess, PacketBytes, MapValueBytes, NullNotTested, PointerStored, Comparison, HelperArgument, HelperBytes, TooManyFrames, ExitValue, PacketAtomic}
use Rattle.walks.specs.declared.refusals.Refusal.{Refusal}
use Rattle.walks.specs.declared.refusals.Refusal.TheVariants.{Step, Repeats}
use Rattle.explanations.specs.Pointers.{access, operand_line, offset_line, memory_line}

-- ---- places

abbrev pub needs_words : (first last : ℤ) → List ℕ
needs_words first last =
    codes "needs bytes " ++ (signed_decimal first ++ (codes " to " ++ signed_decimal last))

-- the last byte of an access by an offset, where its base is at this one
abbrev pub last_byte : ℤ → ℤ → Size → ℤ
last_byte base by size = ((base +ℤ by) +ℤ pos (size_bytes size)) -ℤ pos 1

-- the bytes of an access by an offset, where its base is at one of these
abbrev pub span_words : ℤ → ℤ → ℤ → Size → List ℕ
span_words least greatest by size = needs_words (least +ℤ by) (last_byte greatest by size)

-- from where on the bytes of the packet are counted
abbrev pub behind_words : ℕ → List ℕ
behind_words identity = if identity == 0 then codes "" else codes " after the part"

-- how large the values of a map are
abbrev pub value_size : List MapDef → ℕ → ℕ
value_size rows m = option_map_or (λ row. row.value_size) (slice_get rows m) 0

-- which bytes are needed, and which there are: of a call frame, of the packet, of a map value
abbrev pub frame_line : (span : List ℕ) → (bytes : ℕ) → List ℕ
frame_line span bytes =
    span ++ (codes ", and the first at a multiple of "
    ++ (decimal bytes ++ codes "; a frame has bytes -512 to -1\n"))

-- a test for the packet's bytes up to this offset from a base register
abbrev pub test_words : (base : ℕ) → (until : ℤ) → List ℕ
test_words base until =
    codes "r5 = r" ++ (decimal base ++ (codes "; r5 += " ++ (signed_decimal until
    ++ codes "; if r5 > packet end goto short")))

-- of the packet, with the test that is missing
abbrev pub packet_line : (span behind : List ℕ) → (proved base : ℕ) → (test : List ℕ) → List ℕ
packet_line span behind proved base test =
    span ++ (behind ++ (codes "; " ++ (decimal proved ++ (codes
    " are proved: test before this, and after the last move of r"
    ++ (decimal base ++ (codes ": " ++ (test ++ codes "\n")))))))

-- where the first byte is before the point from which the packet's bytes are counted
abbrev pub before_line : (span : List ℕ) → (identity : ℕ) → List ℕ
before_line span identity =
    span ++ (if identity == 0
    then codes ": none are before the packet's beginning: correct the offset\n"
    else codes " after the part: read what is before it through a copy that was made earlier\n")

-- how far after its base register an access ends
abbrev pub access_end : Place → Size → ℤ
access_end place size = place.offset +ℤ pos (size_bytes size)

abbrev pub after_line : (span : List ℕ) → (identity proved : ℕ) → Place → Size → List ℕ
after_line span identity proved place size =
    packet_line span (behind_words identity) proved
    (reg_number place.base) (test_words (reg_number place.base) (access_end place size))

abbrev pub packet_case : ℤ → (identity proved : ℕ) → Place → Size → List ℕ
packet_case fixed identity proved place size =
    if int_lt (fixed +ℤ place.offset) (pos 0)
    then before_line (span_words fixed fixed place.offset size) identity
    else after_line (span_words fixed fixed place.offset size) identity proved place size

abbrev pub map_value_line : (span : List ℕ) → (bytes : ℕ) → List ℕ
map_value_line span bytes =
    span ++ (codes "; the value has " ++ (decimal bytes
    ++ codes ": correct the offset, or limit it (r2 &= 7)\n"))

-- which bytes an access that is refused for its place needs, and which there are
abbrev pub access_line : List MapDef → Kind → Place → Size → List ℕ
access_line rows (kind.Stack frame offset) place size =
    frame_line (span_words offset offset place.offset size) (size_bytes size)
access_line rows (kind.Packet fixed identity least greatest proved) place size =
    packet_case fixed identity proved place size
access_line rows (kind.MapValue m least greatest) place size =
    map_value_line (span_words least greatest place.offset size) (value_size rows m)
access_line rows k place size = []

abbrev pub place_line : List MapDef → State → Insn → List ℕ
place_line rows a i =
    option_map_or (λ at. access_line rows (kind_of a at.1.base) at.1 at.0) (access i) []

-- ---- helpers

abbrev pub is_map : Kind → Bool
is_map (kind.Map m) = true
is_map k = false

-- what a look-up and a delete need, by the kind of r1
abbrev pub key_line : Kind → List ℕ
key_line map =
    if is_map map then codes "r2 has to point to the key: into a frame, the packet or a value\n"
    else codes "r1 has to be a map: r1 = map_by_idx(0)\n"

-- what an update needs, by the kinds of r1, r2 and r3
abbrev pub update_line : (map key value : Kind) → List ℕ
update_line map key value =
    if not (is_map map && points_to_bytes key) then key_line map
    else if points_to_bytes value then codes "r4 has to be a number, the flags: r4 = 0\n"
    else codes "r3 has to point to the value: into a frame, the packet or a value\n"

-- which argument of a helper is wrong
abbrev pub argument_line : State → Helper → List ℕ
argument_line a MapLookupElem = key_line (kind_of a R1)
argument_line a MapUpdateElem = update_line (kind_of a R1) (kind_of a R2) (kind_of a R3)
argument_line a MapDeleteElem = key_line (kind_of a R1)
argument_line a KtimeGetNs = codes "helper 5, the time, has no arguments\n"

-- which helpers there are, or which argument is wrong
abbrev pub helper_line : State → Insn → List ℕ
helper_line a (CallHelper number) =
    option_map_or (argument_line a) (helper_numbered number) (codes "helper "
    ++ (signed_decimal number
    ++ codes " is not known: there are 1 look-up, 2 update, 3 delete and 5 time\n"))
helper_line a i = []

-- the sizes of a map's keys and values
abbrev pub sizes_by : List MapDef → Kind → List ℕ
sizes_by rows (kind.Map m) =
    option_map_or (λ row. codes "a key of map " ++ (decimal m ++ (codes " has "
    ++ (decimal row.key_size ++ (codes " bytes, a value " ++ (decimal row.value_size
    ++ codes ": write all of them to the stack first, and point to the lowest\n"))))))
    (slice_get rows m) []
sizes_by rows k = []

abbrev pub sizes_line : List MapDef → State → List ℕ
sizes_line rows a = sizes_by rows (kind_of a R1)

-- ---- ends

-- what r0 has to be at an exit, by how many callers there are
abbrev pub exit_line : ℕ → List ℕ
exit_line callers =
    if callers == 0 then codes "r0 has to be a number: 0 ABORTED, 1 DROP, 2 PASS, 3 TX\n"
    else codes "a function hands back no pointer to its own stack bytes\n"

-- ---- what helps, whatever the state is

abbrev pub hint_line : StepRefusal → List ℕ
hint_line ReadOnlyRegister = codes "copy it and change the copy: r2 = r10\n"
hint_line StackBytes = codes
    "write the bytes first; read a stored pointer whole, with 8 bytes, and one to a value before a delete\n"
hint_line ContextAccess = codes
    "load 4 bytes: r2 = *(u32 *)(r1 + 0) is the packet, + 4 its end, + 12 the interface, + 16 the queue\n"
hint_line NullNotTested =
    codes "test it first, as by if r0 == 0 goto .., and use it where it is not 0\n"
hint_line PointerStored =
    codes "store it with 8 bytes into the function's own stack: *(u64 *)(r10 - 8) = r1\n"
hint_line Comparison = codes
    "compare a packet pointer with the packet end by < <= > >=, a value pointer with 0, at 64 bits\n"
hint_line TooManyFrames = codes
    "write the function's instructions in place of the call; in place of a recursion, a loop\n"
hint_line PacketAtomic = codes "load, compute and store instead\n"
hint_line refusal = []

-- ---- cases

abbrev pub case_line : List MapDef → State → Insn → Refusal → List ℕ
case_line rows a i (Step PointerOperand) = operand_line a i
case_line rows a i (Step PointerOffset) = offset_line a i
case_line rows a i (Step NotMemory) = memory_line a i
case_line rows a i (Step StackPlace) = place_line rows a i
case_line rows a i (Step PacketBytes) = place_line rows a i
case_line rows a i (Step MapValueBytes) = place_line rows a i
case_line rows a i (Step HelperArgument) = helper_line a i
case_line rows a i (Step HelperBytes) = sizes_line rows a
case_line rows a i (Step ExitValue) = exit_line (length a.callers.items)
case_line rows a i (Step refusal) = hint_line refusal
case_line rows a i Repeats = codes "change a register in the loop that its test reads\n"
case_line rows a i e = []
