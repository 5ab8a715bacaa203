-- The forms that opcodes name, and the fields that each form uses. RFC 9669, sections 4 and 5.
use Rattle.std.specs.Prelude.{ℕ, ◌/◌, ◌%◌, ◌==◌, Bool, true, false, ◌&&◌, ◌||◌, if◌then◌else◌, Option, Some, None}
use Rattle.std.specs.Option.{option_map}
use Rattle.isa_model.specs.declared.registers.Reg.{Reg}
use Rattle.isa_model.specs.declared.registers.Reg.TheVariants.{R0}
use Rattle.isa_model.specs.declared.sizes.Size.{Size}
use Rattle.isa_model.specs.declared.sizes.Size.TheVariants.{U8, U16, U32, U64}
use Rattle.isa_model.specs.declared.sizes.SignedSize.{SignedSize}
use Rattle.isa_model.specs.declared.sizes.SignedSize.TheVariants.{S8, S16, S32}
use Rattle.isa_model.specs.declared.sizes.Width.{Width}
use Rattle.isa_model.specs.declared.sizes.Width.TheVariants.{Low32, Full64}
use Rattle.isa_model.specs.declared.sizes.ByteOrder.TheVariants.{Little, Big, Swap}
use Rattle.isa_model.specs.declared.instructions.Comparison.{Comparison}
use Rattle.isa_model.specs.declared.instructions.Comparison.TheVariants.{Equal, NotEqual, Greater, GreaterEqual, Less, LessEqual, AnyBit, SignedGreater, SignedGreaterEqual, SignedLess, SignedLessEqual}
use Rattle.insn_codec.specs.declared.forms.AluCode.{AluCode}
use Rattle.insn_codec.specs.declared.forms.AluCode.TheVariants as codes
use Rattle.insn_codec.specs.declared.forms.Form.{Form}
use Rattle.insn_codec.specs.declared.forms.Form.TheVariants as form
use Rattle.insn_codec.specs.declared.forms.Uses.{Uses}
use Rattle.insn_codec.specs.declared.fields.Fields.{Fields}

-- ---- arithmetic: the code is in the high four bits, the source bit below it

abbrev pub alu_code_numbered : ℕ → Option AluCode
alu_code_numbered c =
    if c == 0x0 then Some codes.Add
    else if c == 0x1 then Some codes.Sub
    else if c == 0x2 then Some codes.Mul
    else if c == 0x3 then Some codes.Div
    else if c == 0x4 then Some codes.Or
    else if c == 0x5 then Some codes.And
    else if c == 0x6 then Some codes.Lsh
    else if c == 0x7 then Some codes.Rsh
    else if c == 0x9 then Some codes.Mod
    else if c == 0xa then Some codes.Xor
    else if c == 0xb then Some codes.Mov
    else if c == 0xc then Some codes.Arsh
    else None

-- END: le, be and bswap
abbrev pub swap_form : Width → Bool → Option Form
swap_form Low32 register = Some (form.ByteSwap (if register then Big else Little))
swap_form Full64 register = if register then None else Some (form.ByteSwap Swap)

abbrev pub with_source : Width → Bool → AluCode → Form
with_source w register c = if register then form.AluRegister w c else form.AluConstant w c

abbrev pub arithmetic_form : Width → Bool → ℕ → Option Form
arithmetic_form w register c =
    if c == 0x8 then (if register then None else Some (form.Negate w))
    else if c == 0xd then swap_form w register
    else if register && c == 0xb then Some (form.MovRegister w)
    else option_map (with_source w register) (alu_code_numbered c)

-- ---- jumps: the code and the source bit as in arithmetic

abbrev pub comparison_numbered : ℕ → Option Comparison
comparison_numbered c =
    if c == 0x1 then Some Equal
    else if c == 0x2 then Some Greater
    else if c == 0x3 then Some GreaterEqual
    else if c == 0x4 then Some AnyBit
    else if c == 0x5 then Some NotEqual
    else if c == 0x6 then Some SignedGreater
    else if c == 0x7 then Some SignedGreaterEqual
    else if c == 0xa then Some Less
    else if c == 0xb then Some LessEqual
    else if c == 0xc then Some SignedLess
    else if c == 0xd then Some SignedLessEqual
    else None

-- CALL and EXIT are of class JMP only, with a clear source bit
abbrev pub full_only : Width → Bool → Form → Option Form
full_only Low32 register f = None
full_only Full64 register f = if register then None else Some f

abbrev pub jump_always : Width → Form
jump_always Low32 = form.JumpLong
jump_always Full64 = form.Jump

abbrev pub if_source : Width → Bool → Comparison → Form
if_source w register c = if register then form.JumpIfRegister w c else form.JumpIfConstant w c

abbrev pub jump_form : Width → Bool → ℕ → Option Form
jump_form w register c =
    if c == 0x0 then (if register then None else Some (jump_always w))
    else if c == 0x8 then full_only w register form.Call
    else if c == 0x9 then full_only w register form.Exit
    else option_map (if_source w register) (comparison_numbered c)

-- ---- loads and stores: mode and size are in the high five bits

abbrev pub size_numbered : ℕ → Option Size
size_numbered c =
    if c == 0xc then Some U32
    else if c == 0xd then Some U16
    else if c == 0xe then Some U8
    else if c == 0xf then Some U64
    else None

abbrev pub signed_numbered : ℕ → Option SignedSize
signed_numbered c =
    if c == 0x10 then Some S32
    else if c == 0x11 then Some S16
    else if c == 0x12 then Some S8
    else None

abbrev pub load_other : Option Size → ℕ → Option Form
load_other (Some size) c = Some (form.Load size)
load_other None c = option_map form.LoadSx (signed_numbered c)

abbrev pub load_form : ℕ → Option Form
load_form c = load_other (size_numbered c) c

abbrev pub store_constant_form : ℕ → Option Form
store_constant_form c = option_map form.StoreConstant (size_numbered c)

abbrev pub store_form : ℕ → Option Form
store_form c =
    if c == 0x18 then Some (form.Atomic Low32)
    else if c == 0x1b then Some (form.Atomic Full64)
    else option_map form.Store (size_numbered c)

-- ---- the whole: the class is in the low three bits

abbrev pub form_of : ℕ → Option Form
form_of o =
    let register = o / 8 % 2 == 1 in
    if o % 8 == 0 then (if o == 0x18 then Some form.WideLoad else None)
    else if o % 8 == 1 then load_form (o / 8)
    else if o % 8 == 2 then store_constant_form (o / 8)
    else if o % 8 == 3 then store_form (o / 8)
    else if o % 8 == 4 then arithmetic_form Low32 register (o / 16)
    else if o % 8 == 5 then jump_form Full64 register (o / 16)
    else if o % 8 == 6 then jump_form Low32 register (o / 16)
    else arithmetic_form Full64 register (o / 16)

-- ---- which fields are used, as operands or as selectors

-- division and modulo are signed or not by offset
abbrev pub has_selector : AluCode → Bool
has_selector codes.Div = true
has_selector codes.Mod = true
has_selector c = false

abbrev pub used : Bool → Bool → Bool → Bool → Uses
used d r f k = record { dst = d; src = r; offset = f; imm = k }

abbrev pub uses : Form → Uses
uses (form.AluConstant w c) = used true false (has_selector c) true
uses (form.AluRegister w c) = used true true (has_selector c) false
uses (form.MovRegister w) = used true true true false
uses (form.Negate w) = used true false false false
uses (form.ByteSwap order) = used true false false true
uses form.WideLoad = used true true false true
uses (form.Load size) = used true true true false
uses (form.LoadSx size) = used true true true false
uses (form.StoreConstant size) = used true false true true
uses (form.Store size) = used true true true false
uses (form.Atomic w) = used true true true true
uses form.Jump = used false false true false
uses form.JumpLong = used false false false true
uses (form.JumpIfConstant w c) = used true false true true
uses (form.JumpIfRegister w c) = used true true true false
uses form.Call = used false true false true
uses form.Exit = used false false false false

abbrev pub is_r0 : Reg → Bool
is_r0 R0 = true
is_r0 r = false

abbrev pub zero_unused : Uses → Fields → Bool
zero_unused u t =
    (u.dst || is_r0 t.dst) && (u.src || is_r0 t.src) && (u.offset || t.offset == 0)
    && (u.imm || t.imm == 0)
