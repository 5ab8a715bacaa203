-- Canonical text: the one text of a program, a line for its version where it is not the first, one
-- for each map row and then for each instruction. docs/FORMATS.md. Numbers are decimal, those of
-- wide loads hexadecimal. Jump distances count slots from the one after the instruction.
--
-- Signs and words have no spaces: each space is written out in the definition of its line.
use Rattle.std.specs.Prelude.{ℕ, suc, ℤ, pos, negsuc, true, false, List, [], ◌∷◌, ◌++◌, Option, Some, None, codes, decimal}
use Rattle.std.specs.List.{flat_map}
use Rattle.std.specs.Fmt.{digits, signed_decimal}
use Rattle.isa_model.specs.declared.registers.Reg.{Reg}
use Rattle.isa_model.specs.declared.registers.Reg.TheVariants.{R0, R1, R2, R3, R4, R5, R6, R7, R8, R9, R10}
use Rattle.isa_model.specs.declared.sizes.Width.{Width}
use Rattle.isa_model.specs.declared.sizes.Width.TheVariants.{Low32, Full64}
use Rattle.isa_model.specs.declared.sizes.Size.{Size}
use Rattle.isa_model.specs.declared.sizes.Size.TheVariants.{U8, U16, U32, U64}
use Rattle.isa_model.specs.declared.sizes.SignedSize.{SignedSize}
use Rattle.isa_model.specs.declared.sizes.SignedSize.TheVariants.{S8, S16, S32}
use Rattle.isa_model.specs.declared.sizes.Extension.{Extension}
use Rattle.isa_model.specs.declared.sizes.Extension.TheVariants.{Low8, Low16, Full8, Full16, Full32}
use Rattle.isa_model.specs.declared.sizes.SwapWidth.{SwapWidth}
use Rattle.isa_model.specs.declared.sizes.SwapWidth.TheVariants.{B16, B32, B64}
use Rattle.isa_model.specs.declared.sizes.ByteOrder.{ByteOrder}
use Rattle.isa_model.specs.declared.sizes.ByteOrder.TheVariants.{Little, Big, Swap}
use Rattle.isa_model.specs.declared.instructions.AluOp.{AluOp}
use Rattle.isa_model.specs.declared.instructions.AluOp.TheVariants.{Add, Sub, Mul, Div, SignedDiv, Or, And, Lsh, Rsh, Mod, SignedMod, Xor, Mov, Arsh}
use Rattle.isa_model.specs.declared.instructions.AtomicOp.{AtomicOp}
use Rattle.isa_model.specs.declared.instructions.AtomicOp.TheVariants as atomic
use Rattle.isa_model.specs.declared.instructions.Comparison.{Comparison}
use Rattle.isa_model.specs.declared.instructions.Comparison.TheVariants.{Equal, NotEqual, Greater, GreaterEqual, Less, LessEqual, AnyBit, SignedGreater, SignedGreaterEqual, SignedLess, SignedLessEqual}
use Rattle.isa_model.specs.declared.instructions.Operand.{Operand}
use Rattle.isa_model.specs.declared.instructions.Operand.TheVariants.{Constant, Register}
use Rattle.isa_model.specs.declared.instructions.Place.{Place}
use Rattle.isa_model.specs.declared.instructions.Insn.{Insn}
use Rattle.isa_model.specs.declared.instructions.Insn.TheVariants.{Alu, Neg, MovSx, ByteSwap, LoadNumber, LoadMap, LoadMapValue, Load, LoadSx, StoreConstant, Store, Atomic, Exchange, CompareExchange, Jump, JumpLong, JumpIf, CallHelper, CallLocal, Exit}
use Rattle.isa_model.specs.declared.map_defs.MapType.{MapType}
use Rattle.isa_model.specs.declared.map_defs.MapType.TheVariants.{Hash, Array}
use Rattle.isa_model.specs.declared.map_defs.MapDef.{MapDef}
use Rattle.isa_model.specs.declared.versions.Version.{Version}
use Rattle.isa_model.specs.declared.versions.Version.TheVariants.{One, Two}
use Rattle.isa_model.specs.Code.Instructions.{Program}
use Rattle.isa_model.specs.Code.Sizes.{width_size}

-- ---- registers

abbrev pub reg_digits : Reg → List ℕ
reg_digits R0 = codes "0"
reg_digits R1 = codes "1"
reg_digits R2 = codes "2"
reg_digits R3 = codes "3"
reg_digits R4 = codes "4"
reg_digits R5 = codes "5"
reg_digits R6 = codes "6"
reg_digits R7 = codes "7"
reg_digits R8 = codes "8"
reg_digits R9 = codes "9"
reg_digits R10 = codes "10"

-- `w` is the low half of a register, `r` all of it
abbrev pub letter : Width → List ℕ
letter Low32 = codes "w"
letter Full64 = codes "r"

abbrev pub reg_text : Width → Reg → List ℕ
reg_text w r = letter w ++ reg_digits r

-- ---- sizes

abbrev pub size_text : Size → List ℕ
size_text U8 = codes "u8"
size_text U16 = codes "u16"
size_text U32 = codes "u32"
size_text U64 = codes "u64"

abbrev pub signed_text : SignedSize → List ℕ
signed_text S8 = codes "s8"
signed_text S16 = codes "s16"
signed_text S32 = codes "s32"

-- what is extended
abbrev pub extension_text : Extension → List ℕ
extension_text Low8 = codes "s8"
extension_text Low16 = codes "s16"
extension_text Full8 = codes "s8"
extension_text Full16 = codes "s16"
extension_text Full32 = codes "s32"

-- what it is extended to
abbrev pub extension_width : Extension → Width
extension_width Low8 = Low32
extension_width Low16 = Low32
extension_width Full8 = Full64
extension_width Full16 = Full64
extension_width Full32 = Full64

abbrev pub span_text : SwapWidth → List ℕ
span_text B16 = codes "16"
span_text B32 = codes "32"
span_text B64 = codes "64"

abbrev pub order_text : ByteOrder → List ℕ
order_text Little = codes "le"
order_text Big = codes "be"
order_text Swap = codes "bswap"

abbrev pub width_text : Width → List ℕ
width_text Low32 = codes "32"
width_text Full64 = codes "64"

-- ---- signs

abbrev pub op_text : AluOp → List ℕ
op_text Add = codes "+="
op_text Sub = codes "-="
op_text Mul = codes "*="
op_text Div = codes "/="
op_text SignedDiv = codes "s/="
op_text Or = codes "|="
op_text And = codes "&="
op_text Lsh = codes "<<="
op_text Rsh = codes ">>="
op_text Mod = codes "%="
op_text SignedMod = codes "s%="
op_text Xor = codes "^="
op_text Mov = codes "="
op_text Arsh = codes "s>>="

abbrev pub comparison_text : Comparison → List ℕ
comparison_text Equal = codes "=="
comparison_text NotEqual = codes "!="
comparison_text Greater = codes ">"
comparison_text GreaterEqual = codes ">="
comparison_text Less = codes "<"
comparison_text LessEqual = codes "<="
comparison_text AnyBit = codes "&"
comparison_text SignedGreater = codes "s>"
comparison_text SignedGreaterEqual = codes "s>="
comparison_text SignedLess = codes "s<"
comparison_text SignedLessEqual = codes "s<="

-- without FETCH
abbrev pub atomic_text : AtomicOp → List ℕ
atomic_text atomic.Add = codes "+="
atomic_text atomic.Or = codes "|="
atomic_text atomic.And = codes "&="
atomic_text atomic.Xor = codes "^="

-- with FETCH
abbrev pub fetch_text : AtomicOp → List ℕ
fetch_text atomic.Add = codes "atomic_fetch_add_"
fetch_text atomic.Or = codes "atomic_fetch_or_"
fetch_text atomic.And = codes "atomic_fetch_and_"
fetch_text atomic.Xor = codes "atomic_fetch_xor_"

-- ---- operands, places and distances

abbrev pub operand_text : Width → Operand → List ℕ
operand_text w (Constant k) = signed_decimal k
operand_text w (Register r) = reg_text w r

-- how far from a register: `+ 0`, `+ 8`, `- 8`
abbrev pub offset_text : ℤ → List ℕ
offset_text (pos n) = codes "+ " ++ decimal n
offset_text (negsuc n) = codes "- " ++ decimal (suc n)

abbrev pub place_text : Place → List ℕ
place_text p = reg_text Full64 p.base ++ codes " " ++ offset_text p.offset

-- how many slots: `+0`, `+3`, `-2`
abbrev pub distance_text : ℤ → List ℕ
distance_text (pos n) = codes "+" ++ decimal n
distance_text (negsuc n) = codes "-" ++ decimal (suc n)

-- ---- lines, each ended by one line feed

-- an instruction's line
unfoldable pub line_of : Insn → List ℕ
line_of (Alu w op d x) =
    reg_text w d ++ codes " " ++ op_text op ++ codes " " ++ operand_text w x ++ codes "\n"
line_of (Neg w d) = reg_text w d ++ codes " = -" ++ reg_text w d ++ codes "\n"
line_of (MovSx e d s) =
    reg_text (extension_width e) d ++ codes " = (" ++ extension_text e ++ codes ")"
    ++ reg_text (extension_width e) s ++ codes "\n"
line_of (ByteSwap order span d) =
    reg_text Full64 d ++ codes " = " ++ order_text order ++ span_text span ++ codes " "
    ++ reg_text Full64 d ++ codes "\n"
line_of (LoadNumber d n) = reg_text Full64 d ++ codes " = 0x" ++ digits 16 false n ++ codes " ll\n"
line_of (LoadMap d m) = reg_text Full64 d ++ codes " = map_by_idx(" ++ decimal m ++ codes ")\n"
line_of (LoadMapValue d m offset) =
    reg_text Full64 d ++ codes " = map_val(map_by_idx(" ++ decimal m ++ codes ")) + "
    ++ decimal offset ++ codes "\n"
line_of (Load size d p) = reg_text Full64 d ++ codes " = *(" ++ size_text size ++ codes " *)("
    ++ place_text p ++ codes ")\n"
line_of (LoadSx size d p) = reg_text Full64 d ++ codes " = *(" ++ signed_text size ++ codes " *)("
    ++ place_text p ++ codes ")\n"
line_of (StoreConstant size p k) =
    codes "*(" ++ size_text size ++ codes " *)(" ++ place_text p ++ codes ") = " ++ signed_decimal k
    ++ codes "\n"
line_of (Store size p s) =
    codes "*(" ++ size_text size ++ codes " *)(" ++ place_text p ++ codes ") = "
    ++ reg_text Full64 s ++ codes "\n"
line_of (Atomic w op false p s) =
    codes "lock *(" ++ size_text (width_size w) ++ codes " *)(" ++ place_text p ++ codes ") "
    ++ atomic_text op
    ++ codes " " ++ reg_text Full64 s ++ codes "\n"
line_of (Atomic w op true p s) =
    reg_text Full64 s ++ codes " = " ++ fetch_text op ++ width_text w ++ codes "(" ++ place_text p
    ++ codes ", "
    ++ reg_text Full64 s ++ codes ")\n"
line_of (Exchange w p s) =
    reg_text Full64 s ++ codes " = xchg_" ++ width_text w ++ codes "(" ++ place_text p ++ codes ", "
    ++ reg_text Full64 s ++ codes ")\n"
line_of (CompareExchange w p s) =
    codes "r0 = cmpxchg_" ++ width_text w ++ codes "(" ++ place_text p ++ codes ", r0, "
    ++ reg_text Full64 s ++ codes ")\n"
line_of (Jump by) = codes "goto " ++ distance_text by ++ codes "\n"
line_of (JumpLong by) = codes "gotol " ++ distance_text by ++ codes "\n"
line_of (JumpIf c by) =
    codes "if " ++ reg_text c.width c.register ++ codes " " ++ comparison_text c.comparison
    ++ codes " "
    ++ operand_text c.width c.operand ++ codes " goto " ++ distance_text by ++ codes "\n"
line_of (CallHelper number) = codes "call " ++ signed_decimal number ++ codes "\n"
line_of (CallLocal by) = codes "call pc" ++ distance_text by ++ codes "\n"
line_of Exit = codes "exit\n"

abbrev pub map_type_text : MapType → List ℕ
map_type_text Hash = codes "hash"
map_type_text Array = codes "array"

-- a map row's line: the type, the key's size, the value's size and the most keys
unfoldable pub row_line : MapDef → List ℕ
row_line row =
    codes "map " ++ map_type_text row.kind ++ codes " " ++ decimal row.key_size ++ codes " "
    ++ decimal row.value_size
    ++ codes " " ++ decimal row.entries ++ codes "\n"

-- ---- programs

-- the instructions in order, without the second halves
abbrev pub instructions : List (Option Insn) → List Insn
instructions [] = []
instructions (None ∷ xs) = instructions xs
instructions (Some i ∷ xs) = i ∷ instructions xs

abbrev pub rows_text : List MapDef → List ℕ
rows_text rows = flat_map row_line rows

abbrev pub code_text : List Insn → List ℕ
code_text insns = flat_map line_of insns

-- a program of the first version does not say it
abbrev pub version_line : Version → List ℕ
version_line One = []
version_line Two = codes "version 2\n"

unfoldable pub canonical_text : Program → List ℕ
canonical_text p = version_line p.version ++ (rows_text p.maps ++ code_text (instructions p.insns))
