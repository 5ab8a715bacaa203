-- How instructions are spelled. RFC 9669, sections 3.1 (basic encoding),
-- 3.2 (wide encoding) and 4 to 5.4 (the tables).
-- Each form has the fields of its first slot here, in the order opcode, dst_reg, src_reg, offset,
-- imm; unused fields are 0.
use Rattle.std.specs.Prelude.{ℕ, ◌+◌, ◌*◌, ◌/◌, ◌%◌, ◌^◌, ◌<◌, Bool, true, false, ℤ, List, [], ◌∷◌, ◌++◌, Option, Some, None}
use Rattle.std.specs.Int.{w16, w32, cast_unsigned}
use Rattle.std.specs.Int.RustNames.{FitsSigned}
use Rattle.byteorder.specs.Endian.{little_bytes}
use Rattle.isa_model.specs.declared.sizes.Width.{Width}
use Rattle.isa_model.specs.declared.sizes.Width.TheVariants.{Low32, Full64}
use Rattle.isa_model.specs.declared.sizes.Size.{Size}
use Rattle.isa_model.specs.declared.sizes.Size.TheVariants.{U8, U16, U32, U64}
use Rattle.isa_model.specs.declared.sizes.SignedSize.{SignedSize}
use Rattle.isa_model.specs.declared.sizes.SignedSize.TheVariants.{S8, S16, S32}
use Rattle.isa_model.specs.declared.sizes.Extension.{Extension}
use Rattle.isa_model.specs.declared.sizes.Extension.TheVariants.{Low8, Low16, Full8, Full16, Full32}
use Rattle.isa_model.specs.declared.sizes.ByteOrder.{ByteOrder}
use Rattle.isa_model.specs.declared.sizes.ByteOrder.TheVariants.{Little, Big, Swap}
use Rattle.isa_model.specs.declared.instructions.AluOp.{AluOp}
use Rattle.isa_model.specs.declared.instructions.AluOp.TheVariants.{Add, Sub, Mul, Div, SignedDiv, Or, And, Lsh, Rsh, Mod, SignedMod, Xor, Mov, Arsh}
use Rattle.isa_model.specs.declared.instructions.AtomicOp.{AtomicOp}
use Rattle.isa_model.specs.declared.instructions.AtomicOp.TheVariants as atomic
use Rattle.isa_model.specs.declared.instructions.Comparison.{Comparison}
use Rattle.isa_model.specs.declared.instructions.Comparison.TheVariants.{Equal, NotEqual, Greater, GreaterEqual, Less, LessEqual, AnyBit, SignedGreater, SignedGreaterEqual, SignedLess, SignedLessEqual}
use Rattle.isa_model.specs.declared.instructions.Operand.{Operand}
use Rattle.isa_model.specs.declared.instructions.Operand.TheVariants.{Constant, Register}
use Rattle.isa_model.specs.declared.instructions.Insn.{Insn}
use Rattle.isa_model.specs.declared.instructions.Insn.TheVariants.{Alu, Neg, MovSx, ByteSwap, LoadNumber, LoadMap, LoadMapValue, Load, LoadSx, StoreConstant, Store, Atomic, Exchange, CompareExchange, Jump, JumpLong, JumpIf, CallHelper, CallLocal, Exit}
use Rattle.isa_model.specs.declared.slots.Slot.{Slot}
use Rattle.isa_model.specs.Code.Registers.{reg_number}
use Rattle.isa_model.specs.Code.Sizes.{span_bits}

-- ---- the parts of an opcode

-- the classes ALU and ALU64
abbrev pub alu_class : Width → ℕ
alu_class Low32 = 0x04
alu_class Full64 = 0x07

-- the classes JMP32 and JMP
abbrev pub jump_class : Width → ℕ
jump_class Low32 = 0x06
jump_class Full64 = 0x05

-- the code in the high four bits
abbrev pub alu_code : AluOp → ℕ
alu_code Add = 0x00
alu_code Sub = 0x10
alu_code Mul = 0x20
alu_code Div = 0x30
alu_code SignedDiv = 0x30
alu_code Or = 0x40
alu_code And = 0x50
alu_code Lsh = 0x60
alu_code Rsh = 0x70
alu_code Mod = 0x90
alu_code SignedMod = 0x90
alu_code Xor = 0xa0
alu_code Mov = 0xb0
alu_code Arsh = 0xc0

-- the selector in offset
abbrev pub alu_offset : AluOp → ℕ
alu_offset SignedDiv = 1
alu_offset SignedMod = 1
alu_offset op = 0

abbrev pub jump_code : Comparison → ℕ
jump_code Equal = 0x10
jump_code Greater = 0x20
jump_code GreaterEqual = 0x30
jump_code AnyBit = 0x40
jump_code NotEqual = 0x50
jump_code SignedGreater = 0x60
jump_code SignedGreaterEqual = 0x70
jump_code Less = 0xa0
jump_code LessEqual = 0xb0
jump_code SignedLess = 0xc0
jump_code SignedLessEqual = 0xd0

-- the source bit: clear for K, set for X
abbrev pub operand_bit : Operand → ℕ
operand_bit (Constant k) = 0x00
operand_bit (Register r) = 0x08

abbrev pub operand_src : Operand → ℕ
operand_src (Constant k) = 0
operand_src (Register r) = reg_number r

abbrev pub operand_imm : Operand → ℕ
operand_imm (Constant k) = cast_unsigned w32 k
operand_imm (Register r) = 0

abbrev pub extension_class : Extension → ℕ
extension_class Low8 = 0x04
extension_class Low16 = 0x04
extension_class Full8 = 0x07
extension_class Full16 = 0x07
extension_class Full32 = 0x07

-- the selector in offset: how many bits are extended
abbrev pub extension_offset : Extension → ℕ
extension_offset Low8 = 8
extension_offset Low16 = 16
extension_offset Full8 = 8
extension_offset Full16 = 16
extension_offset Full32 = 32

abbrev pub order_opcode : ByteOrder → ℕ
order_opcode Little = 0xd4
order_opcode Big = 0xdc
order_opcode Swap = 0xd7

abbrev pub size_code : Size → ℕ
size_code U32 = 0x00
size_code U16 = 0x08
size_code U8 = 0x10
size_code U64 = 0x18

abbrev pub signed_code : SignedSize → ℕ
signed_code S32 = 0x00
signed_code S16 = 0x08
signed_code S8 = 0x10

abbrev pub atomic_opcode : Width → ℕ
atomic_opcode Low32 = 0xc3
atomic_opcode Full64 = 0xdb

-- the selector in imm
abbrev pub atomic_code : AtomicOp → ℕ
atomic_code atomic.Add = 0x00
atomic_code atomic.Or = 0x40
atomic_code atomic.And = 0x50
atomic_code atomic.Xor = 0xa0

abbrev pub fetch_bit : Bool → ℕ
fetch_bit false = 0x00
fetch_bit true = 0x01

-- ---- the slots

abbrev pub slot : ℕ → ℕ → ℕ → ℕ → ℕ → Slot
slot opcode dst src offset imm =
    record { opcode = opcode; dst = dst; src = src; offset = offset; imm = imm }

-- an offset of 16 bits, and an imm of 32, by two's complement
abbrev pub offset16 : ℤ → ℕ
offset16 z = cast_unsigned w16 z

abbrev pub imm32 : ℤ → ℕ
imm32 z = cast_unsigned w32 z

abbrev pub first_slot : Insn → Slot
first_slot (Alu w op d x) =
    slot (alu_code op + operand_bit x + alu_class w) (reg_number d) (operand_src x) (alu_offset op)
    (operand_imm x)
first_slot (Neg w d) = slot (0x80 + alu_class w) (reg_number d) 0 0 0
first_slot (MovSx e d s) =
    slot (0xb8 + extension_class e) (reg_number d) (reg_number s) (extension_offset e) 0
first_slot (ByteSwap order span d) = slot (order_opcode order) (reg_number d) 0 0 (span_bits span)
first_slot (LoadNumber d n) = slot 0x18 (reg_number d) 0 0 (n % 2 ^ 32)
first_slot (LoadMap d m) = slot 0x18 (reg_number d) 5 0 m
first_slot (LoadMapValue d m offset) = slot 0x18 (reg_number d) 6 0 m
first_slot (Load size d p) =
    slot (0x61 + size_code size) (reg_number d) (reg_number p.base) (offset16 p.offset) 0
first_slot (LoadSx size d p) =
    slot (0x81 + signed_code size) (reg_number d) (reg_number p.base) (offset16 p.offset) 0
first_slot (StoreConstant size p k) =
    slot (0x62 + size_code size) (reg_number p.base) 0 (offset16 p.offset) (imm32 k)
first_slot (Store size p s) =
    slot (0x63 + size_code size) (reg_number p.base) (reg_number s) (offset16 p.offset) 0
first_slot (Atomic w op fetched p s) =
    slot (atomic_opcode w) (reg_number p.base) (reg_number s) (offset16 p.offset)
    (atomic_code op + fetch_bit fetched)
first_slot (Exchange w p s) =
    slot (atomic_opcode w) (reg_number p.base) (reg_number s) (offset16 p.offset) 0xe1
first_slot (CompareExchange w p s) =
    slot (atomic_opcode w) (reg_number p.base) (reg_number s) (offset16 p.offset) 0xf1
first_slot (Jump by) = slot 0x05 0 0 (offset16 by) 0
first_slot (JumpLong by) = slot 0x06 0 0 0 (imm32 by)
first_slot (JumpIf c by) =
    slot (jump_code c.comparison + operand_bit c.operand + jump_class c.width)
    (reg_number c.register) (operand_src c.operand) (offset16 by) (operand_imm c.operand)
first_slot (CallHelper number) = slot 0x85 0 0 0 (imm32 number)
first_slot (CallLocal by) = slot 0x85 0 1 0 (imm32 by)
first_slot Exit = slot 0x95 0 0 0 0

-- next_imm, the immediate in the second slot of a wide load
abbrev pub next_imm : Insn → Option ℕ
next_imm (LoadNumber d n) = Some (n / 2 ^ 32)
next_imm (LoadMap d m) = Some 0
next_imm (LoadMapValue d m offset) = Some offset
next_imm i = None

-- ---- bytes

-- opcode, the register byte, and then offset and imm, the lowest byte first
abbrev pub slot_bytes : Slot → List ℕ
slot_bytes s = s.opcode ∷ (s.dst + 16 * s.src) ∷ (little_bytes 2 s.offset ++ little_bytes 4 s.imm)

-- 32 reserved zero bits, and next_imm
abbrev pub second_bytes : Option ℕ → List ℕ
second_bytes None = []
second_bytes (Some n) = 0 ∷ 0 ∷ 0 ∷ 0 ∷ little_bytes 4 n

-- the 8 or 16 bytes of an instruction
abbrev pub spelling_of : Insn → List ℕ
spelling_of i = slot_bytes (first_slot i) ++ second_bytes (next_imm i)

-- ---- the numbers in an instruction are of their types

abbrev pub OperandFits : Operand → Type 0
OperandFits (Constant k) = FitsSigned w32 k
OperandFits (Register r) = Unit {0}

abbrev pub InsnFits : Insn → Type 0
InsnFits (Alu w op d x) = OperandFits x
InsnFits (LoadNumber d n) = n < 2 ^ 64
InsnFits (LoadMap d m) = m < 2 ^ 32
InsnFits (LoadMapValue d m offset) = (m < 2 ^ 32) × (offset < 2 ^ 32)
InsnFits (Load size d p) = FitsSigned w16 p.offset
InsnFits (LoadSx size d p) = FitsSigned w16 p.offset
InsnFits (StoreConstant size p k) = FitsSigned w16 p.offset × FitsSigned w32 k
InsnFits (Store size p s) = FitsSigned w16 p.offset
InsnFits (Atomic w op fetched p s) = FitsSigned w16 p.offset
InsnFits (Exchange w p s) = FitsSigned w16 p.offset
InsnFits (CompareExchange w p s) = FitsSigned w16 p.offset
InsnFits (Jump by) = FitsSigned w16 by
InsnFits (JumpLong by) = FitsSigned w32 by
InsnFits (JumpIf c by) = OperandFits c.operand × FitsSigned w16 by
InsnFits (CallHelper number) = FitsSigned w32 number
InsnFits (CallLocal by) = FitsSigned w32 by
InsnFits i = Unit {0}
