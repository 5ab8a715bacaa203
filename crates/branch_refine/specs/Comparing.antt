-- What a condition compares, by the kinds of its operands: two numbers, a packet pointer and the
-- packet end, or null and what may point to a map's value. No other comparison has an outcome.
-- Linux, Documentation/bpf/verifier.rst (direct packet access; null tests of what a look-up
-- answered).
use Rattle.std.specs.Prelude.{ℕ, ◌==◌, ℤ, pos, negsuc, ◌+ℤ◌, Bool, true, false, not, if◌then◌else◌}
use Rattle.isa_model.specs.declared.sizes.Width.{Width}
use Rattle.isa_model.specs.declared.sizes.Width.TheVariants.{Low32, Full64}
use Rattle.isa_model.specs.declared.instructions.Comparison.{Comparison}
use Rattle.isa_model.specs.declared.instructions.Comparison.TheVariants.{Equal, NotEqual, Greater, GreaterEqual, Less, LessEqual}
use Rattle.isa_model.specs.declared.instructions.Cond.{Cond}
use Rattle.isa_model.specs.declared.instructions.Operand.{Operand}
use Rattle.isa_model.specs.declared.instructions.Operand.TheVariants.{Constant, Register}
use Rattle.reg_state.specs.declared.kinds.Kind.{Kind}
use Rattle.reg_state.specs.declared.kinds.Kind.TheVariants.{Number, Packet, PacketEnd, MapValue, MapValueOrNull}
use Rattle.reg_state.specs.Going.{exchanged}
use Rattle.stack_state.specs.declared.states.State.{State}
use Rattle.stack_state.specs.Places.{kind_of}
use Rattle.branch_refine.specs.declared.comparing.Compared.{Compared}
use Rattle.branch_refine.specs.declared.comparing.Compared.TheVariants as compared
use Rattle.branch_refine.specs.declared.comparing.Compared.TheVariants.{Numbers, OrNull, Live, Undefined}

-- ---- a packet pointer and the packet end

-- the bytes between the variable part and an offset
abbrev pub bytes_before : ℤ → ℕ
bytes_before (pos n) = n
bytes_before (negsuc n) = 0

-- the pointer on the left: one outcome says that it is at or before the end, or that it is before
-- the end
abbrev pub packet_by : Comparison → ℕ → ℤ → Compared
packet_by Greater identity fixed = compared.Packet identity false (bytes_before fixed)
packet_by GreaterEqual identity fixed =
    compared.Packet identity false (bytes_before (fixed +ℤ pos 1))
packet_by Less identity fixed = compared.Packet identity true (bytes_before (fixed +ℤ pos 1))
packet_by LessEqual identity fixed = compared.Packet identity true (bytes_before fixed)
packet_by c identity fixed = Undefined

abbrev pub with_end : Comparison → ℕ → ℤ → Kind → Compared
with_end c identity fixed PacketEnd = packet_by c identity fixed
with_end c identity fixed k = Undefined

abbrev pub with_packet : Comparison → Kind → Compared
with_packet c (Packet fixed identity least greatest proved) = packet_by (exchanged c) identity fixed
with_packet c k = Undefined

-- ---- null

-- this outcome says that the value is 0
abbrev pub null_by : Bool → Kind → Compared
null_by null (MapValueOrNull m identity) = OrNull identity null
null_by null (MapValue m least greatest) = Live null
null_by null k = Undefined

abbrev pub zero_by : Comparison → Kind → Compared
zero_by Equal k = null_by true k
zero_by NotEqual k = null_by false k
zero_by c k = Undefined

-- ---- what a condition compares

abbrev pub with_number : Kind → Compared
with_number (Number numbers) = Numbers
with_number k = Undefined

abbrev pub pointers_by : Comparison → Kind → Kind → Compared
pointers_by c (Packet fixed identity least greatest proved) k = with_end c identity fixed k
pointers_by c PacketEnd k = with_packet c k
pointers_by c j k = Undefined

-- two registers; pointers at 64 bits only
abbrev pub registers_by : Comparison → Width → Kind → Kind → Compared
registers_by c w (Number numbers) k = with_number k
registers_by c Full64 j k = pointers_by c j k
registers_by c Low32 j k = Undefined

-- a register and a constant
abbrev pub constant_by : Comparison → Width → Kind → ℤ → Compared
constant_by c w (Number numbers) n = Numbers
constant_by c Full64 k (pos n) = if n == 0 then zero_by c k else Undefined
constant_by c w k n = Undefined

abbrev pub operand_by : State → Cond → Operand → Compared
operand_by a cond (Constant n) = constant_by cond.comparison cond.width (kind_of a cond.register) n
operand_by a cond (Register r) =
    registers_by cond.comparison cond.width (kind_of a cond.register) (kind_of a r)

abbrev pub compared_by : State → Cond → Compared
compared_by a cond = operand_by a cond cond.operand

-- the comparison has an outcome
abbrev pub IsDefined : Compared → Type 0
IsDefined Undefined = ⊥
IsDefined c = Unit {0}

-- whether two outcomes are the same
abbrev pub same : Bool → Bool → Bool
same true b = b
same false b = not b
