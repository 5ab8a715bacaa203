-- Instructions that do to a pointer what is not defined, and what helps.
use Rattle.std.specs.Prelude.{List, ℕ, [], Option, Some, None, Bool, true, false, ◌||◌, codes, if◌then◌else◌}
use Rattle.std.specs.Option.{option_map_or}
use Rattle.isa_model.specs.declared.instructions.Insn.{Insn}
use Rattle.isa_model.specs.declared.instructions.Insn.TheVariants.{Alu, Load, LoadSx, StoreConstant, Store, Atomic, Exchange, CompareExchange}
use Rattle.isa_model.specs.declared.instructions.Operand.{Operand}
use Rattle.isa_model.specs.declared.instructions.Operand.TheVariants.{Constant, Register}
use Rattle.isa_model.specs.declared.instructions.Place.{Place}
use Rattle.isa_model.specs.declared.sizes.Size.{Size}
use Rattle.isa_model.specs.Code.Sizes.{width_size, unsigned_size}
use Rattle.reg_state.specs.declared.kinds.Kind.{Kind}
use Rattle.reg_state.specs.declared.kinds.Kind.TheVariants as kind
use Rattle.stack_state.specs.declared.states.State.{State}
use Rattle.stack_state.specs.Places.{kind_of}

-- the size and the place of an access
abbrev pub access : Insn → Option (Size × Place)
access (Load size d place) = Some (size, place)
access (LoadSx size d place) = Some (unsigned_size size, place)
access (StoreConstant size place constant) = Some (size, place)
access (Store size place r) = Some (size, place)
access (Atomic w op fetched place r) = Some (width_size w, place)
access (Exchange w place r) = Some (width_size w, place)
access (CompareExchange w place r) = Some (width_size w, place)
access i = None

abbrev pub is_packet_end : Kind → Bool
is_packet_end kind.PacketEnd = true
is_packet_end k = false

abbrev pub is_end_in : State → Operand → Bool
is_end_in a (Register r) = is_packet_end (kind_of a r)
is_end_in a (Constant k) = false

-- whether the instruction computes with the packet end
abbrev pub computes_with_end : State → Insn → Bool
computes_with_end a (Alu w op d source) = is_packet_end (kind_of a d) || is_end_in a source
computes_with_end a i = false

-- what helps instead of an operation that is not defined for a pointer
abbrev pub operand_by : Kind → List ℕ
operand_by kind.Context =
    codes "the context takes no arithmetic: load with an offset: r2 = *(u32 *)(r1 + 12)\n"
operand_by k = codes "stack, packet and value pointers move by += and -= of a number, at 64 bits\n"

abbrev pub operand_at : State → Insn → List ℕ
operand_at a (Alu w op d source) = operand_by (kind_of a d)
operand_at a i = operand_by kind.Unset

abbrev pub operand_line : State → Insn → List ℕ
operand_line a i =
    if computes_with_end a i then codes
    "no length is computed: compare with the packet end: r5 = packet; r5 += 14; if r5 > packet end goto short\n"
    else operand_at a i

-- what helps where a pointer would move too far, by what it points to
abbrev pub offset_by : Kind → List ℕ
offset_by (kind.Stack frame offset) = codes
    "a frame pointer moves by constants: keep what a number selects in a map's value\n"
offset_by k = codes
    "limit the number first (r3 &= 1023): a pointer moves by at most 536870912 bytes\n"

abbrev pub offset_line : State → Insn → List ℕ
offset_line a (Alu w op d source) = offset_by (kind_of a d)
offset_line a i = []

-- what reaches memory, in place of a value of this kind
abbrev pub memory_by : Kind → List ℕ
memory_by (kind.Map m) = codes
    "a map is no memory: look a key up (call 1), and use r0 where it is not 0\n"
memory_by kind.PacketEnd = codes
    "read through the packet pointer, the load at r1 + 0, and compare it with this\n"
memory_by (kind.Number numbers) = codes
    "a number is no address, and 0 is a look-up that found nothing: use a pointer, or the other branch\n"
memory_by k = codes "memory is reached by r1 of the start, r10, a packet or a value pointer\n"

abbrev pub memory_line : State → Insn → List ℕ
memory_line a i = option_map_or (λ at. memory_by (kind_of a at.1.base)) (access i) []
