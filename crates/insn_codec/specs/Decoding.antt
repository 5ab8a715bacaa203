-- What bytes are decoded to. The tests are in this order: length, opcode, registers, unused fields,
-- selectors, and then the second slot of a wide load. RFC 9669, sections 3 to 5; that an unused
-- field is zero is this project's own.
use Rattle.std.specs.Prelude.{ℕ, ◌+◌, ◌*◌, ◌/◌, ◌%◌, ◌^◌, ◌==◌, true, false, not, nat_lt, ℤ, if◌then◌else◌, List, length, take, drop, slice_index, Option, Some, None, Result, Ok, Err}
use Rattle.std.specs.Option.{option_map, ok_or}
use Rattle.std.specs.Int.{w16, w32, cast_signed}
use Rattle.byteorder.specs.Endian.{little_number}
use Rattle.isa_model.specs.declared.registers.Reg.{Reg}
use Rattle.isa_model.specs.declared.registers.Reg.TheVariants.{R0, R1, R5, R6}
use Rattle.isa_model.specs.declared.sizes.SwapWidth.{SwapWidth}
use Rattle.isa_model.specs.declared.sizes.SwapWidth.TheVariants.{B16, B32, B64}
use Rattle.isa_model.specs.declared.sizes.Extension.{Extension}
use Rattle.isa_model.specs.declared.sizes.Extension.TheVariants.{Low8, Low16, Full8, Full16, Full32}
use Rattle.isa_model.specs.declared.sizes.Width.{Width}
use Rattle.isa_model.specs.declared.sizes.Width.TheVariants.{Low32, Full64}
use Rattle.isa_model.specs.declared.sizes.ByteOrder.{ByteOrder}
use Rattle.isa_model.specs.declared.instructions.AluOp.{AluOp}
use Rattle.isa_model.specs.declared.instructions.AluOp.TheVariants as ops
use Rattle.isa_model.specs.declared.instructions.Comparison.{Comparison}
use Rattle.isa_model.specs.declared.instructions.AtomicOp.TheVariants as atomics
use Rattle.isa_model.specs.declared.instructions.Operand.{Operand}
use Rattle.isa_model.specs.declared.instructions.Operand.TheVariants.{Constant, Register}
use Rattle.isa_model.specs.declared.instructions.Place.{Place}
use Rattle.isa_model.specs.declared.instructions.Insn.{Insn}
use Rattle.isa_model.specs.declared.instructions.Insn.TheVariants.{Alu, Neg, MovSx, ByteSwap, LoadNumber, LoadMap, LoadMapValue, Load, LoadSx, StoreConstant, Store, Atomic, Exchange, CompareExchange, Jump, JumpLong, JumpIf, CallHelper, CallLocal, Exit}
use Rattle.isa_model.specs.declared.slots.Slot.{Slot}
use Rattle.isa_model.specs.Code.Registers.{reg_numbered}
use Rattle.isa_model.specs.Code.Instructions.{slots_filled}
use Rattle.insn_codec.specs.declared.errors.CodecError.{CodecError}
use Rattle.insn_codec.specs.declared.errors.CodecError.TheVariants.{Short, UnknownOpcode, UnknownRegister, UnusedField, UnknownSelector, SecondSlot}
use Rattle.insn_codec.specs.declared.forms.AluCode.{AluCode}
use Rattle.insn_codec.specs.declared.forms.AluCode.TheVariants as codes
use Rattle.insn_codec.specs.declared.forms.Form.{Form}
use Rattle.insn_codec.specs.declared.forms.Form.TheVariants as form
use Rattle.insn_codec.specs.declared.fields.Fields.{Fields}
use Rattle.insn_codec.specs.Forms.{form_of, uses, zero_unused}

-- ---- selectors

abbrev pub op_selected : AluCode → ℕ → Option AluOp
op_selected codes.Add f = Some ops.Add
op_selected codes.Sub f = Some ops.Sub
op_selected codes.Mul f = Some ops.Mul
op_selected codes.Div f =
    if f == 0 then Some ops.Div else if f == 1 then Some ops.SignedDiv else None
op_selected codes.Or f = Some ops.Or
op_selected codes.And f = Some ops.And
op_selected codes.Lsh f = Some ops.Lsh
op_selected codes.Rsh f = Some ops.Rsh
op_selected codes.Mod f =
    if f == 0 then Some ops.Mod else if f == 1 then Some ops.SignedMod else None
op_selected codes.Xor f = Some ops.Xor
op_selected codes.Mov f = Some ops.Mov
op_selected codes.Arsh f = Some ops.Arsh

abbrev pub extension_selected : Width → ℕ → Option Extension
extension_selected Low32 f = if f == 8 then Some Low8 else if f == 16 then Some Low16 else None
extension_selected Full64 f =
    if f == 8 then Some Full8 else if f == 16 then Some Full16 else if f == 32 then Some Full32
    else None

abbrev pub span_selected : ℕ → Option SwapWidth
span_selected k =
    if k == 16 then Some B16 else if k == 32 then Some B32 else if k == 64 then Some B64 else None

abbrev pub selected : Option Insn → Result Insn CodecError
selected i = ok_or i UnknownSelector

-- ---- operands

abbrev pub constant_in : Fields → ℤ
constant_in t = cast_signed w32 t.imm

abbrev pub offset_in : Fields → ℤ
offset_in t = cast_signed w16 t.offset

abbrev pub place_in : Fields → Reg → Place
place_in t r = record { base = r; offset = offset_in t }

-- ---- forms with a selector

abbrev pub arithmetic : Width → AluCode → Fields → Operand → Result Insn CodecError
arithmetic w c t x = selected (option_map (λ op. Alu w op t.dst x) (op_selected c t.offset))

-- MOV of a register, or MOVSX
abbrev pub moved : Width → Fields → Result Insn CodecError
moved w t =
    if t.offset == 0 then Ok (Alu w ops.Mov t.dst (Register t.src))
    else selected (option_map (λ e. MovSx e t.dst t.src) (extension_selected w t.offset))

abbrev pub swapped : ByteOrder → Fields → Result Insn CodecError
swapped order t = selected (option_map (λ span. ByteSwap order span t.dst) (span_selected t.imm))

abbrev pub atomic : Width → Fields → Result Insn CodecError
atomic w t =
    let at = place_in t t.dst in
    if t.imm == 0xe1 then Ok (Exchange w at t.src)
    else if t.imm == 0xf1 then Ok (CompareExchange w at t.src)
    else if t.imm == 0x00 then Ok (Atomic w atomics.Add false at t.src)
    else if t.imm == 0x01 then Ok (Atomic w atomics.Add true at t.src)
    else if t.imm == 0x40 then Ok (Atomic w atomics.Or false at t.src)
    else if t.imm == 0x41 then Ok (Atomic w atomics.Or true at t.src)
    else if t.imm == 0x50 then Ok (Atomic w atomics.And false at t.src)
    else if t.imm == 0x51 then Ok (Atomic w atomics.And true at t.src)
    else if t.imm == 0xa0 then Ok (Atomic w atomics.Xor false at t.src)
    else if t.imm == 0xa1 then Ok (Atomic w atomics.Xor true at t.src)
    else Err UnknownSelector

-- next_imm, if the second slot is there and its reserved bits are zero
abbrev pub next_imm_read : List ℕ → Result ℕ CodecError
next_imm_read rest =
    if nat_lt (length rest) 8 then Err SecondSlot
    else if not (little_number 4 rest == 0) then Err SecondSlot
    else Ok (little_number 4 (drop 4 rest))

abbrev pub with_next : Result ℕ CodecError → (ℕ → Result Insn CodecError) → Result Insn CodecError
with_next (Ok next) f = f next
with_next (Err e) f = Err e

-- a number, whose upper half is next_imm; a map, by its index;
-- a pointer into a map's value, at the offset next_imm
abbrev pub wide_by : Reg → Fields → Result ℕ CodecError → Result Insn CodecError
wide_by R0 t second = with_next second (λ next. Ok (LoadNumber t.dst (t.imm + next * 2 ^ 32)))
wide_by R5 t second =
    with_next second (λ next. if next == 0 then Ok (LoadMap t.dst t.imm) else Err SecondSlot)
wide_by R6 t second = with_next second (λ next. Ok (LoadMapValue t.dst t.imm next))
wide_by r t second = Err UnknownSelector

abbrev pub wide : Fields → List ℕ → Result Insn CodecError
wide t rest = wide_by t.src t (next_imm_read rest)

abbrev pub called_by : Reg → Fields → Result Insn CodecError
called_by R0 t = Ok (CallHelper (constant_in t))
called_by R1 t = Ok (CallLocal (constant_in t))
called_by r t = Err UnknownSelector

abbrev pub called : Fields → Result Insn CodecError
called t = called_by t.src t

abbrev pub jump_if : Width → Comparison → Fields → Operand → Insn
jump_if w c t x =
    JumpIf (record { width = w; comparison = c; register = t.dst; operand = x }) (offset_in t)

-- ---- all forms, with the bytes after the first slot

abbrev pub meaning : Form → Fields → List ℕ → Result Insn CodecError
meaning (form.AluConstant w c) t rest = arithmetic w c t (Constant (constant_in t))
meaning (form.AluRegister w c) t rest = arithmetic w c t (Register t.src)
meaning (form.MovRegister w) t rest = moved w t
meaning (form.Negate w) t rest = Ok (Neg w t.dst)
meaning (form.ByteSwap order) t rest = swapped order t
meaning form.WideLoad t rest = wide t rest
meaning (form.Load size) t rest = Ok (Load size t.dst (place_in t t.src))
meaning (form.LoadSx size) t rest = Ok (LoadSx size t.dst (place_in t t.src))
meaning (form.StoreConstant size) t rest =
    Ok (StoreConstant size (place_in t t.dst) (constant_in t))
meaning (form.Store size) t rest = Ok (Store size (place_in t t.dst) t.src)
meaning (form.Atomic w) t rest = atomic w t
meaning form.Jump t rest = Ok (Jump (offset_in t))
meaning form.JumpLong t rest = Ok (JumpLong (constant_in t))
meaning (form.JumpIfConstant w c) t rest = Ok (jump_if w c t (Constant (constant_in t)))
meaning (form.JumpIfRegister w c) t rest = Ok (jump_if w c t (Register t.src))
meaning form.Call t rest = called t
meaning form.Exit t rest = Ok Exit

-- ---- the tests in their order

abbrev pub with_fields : Form → Fields → List ℕ → Result Insn CodecError
with_fields f t rest = if zero_unused (uses f) t then meaning f t rest else Err UnusedField

abbrev pub with_src : Form → Slot → Reg → Option Reg → List ℕ → Result Insn CodecError
with_src f s d None rest = Err UnknownRegister
with_src f s d (Some r) rest =
    with_fields f (record { dst = d; src = r; offset = s.offset; imm = s.imm }) rest

abbrev pub with_dst : Form → Slot → Option Reg → List ℕ → Result Insn CodecError
with_dst f s None rest = Err UnknownRegister
with_dst f s (Some d) rest = with_src f s d (reg_numbered s.src) rest

abbrev pub with_form : Option Form → Slot → List ℕ → Result Insn CodecError
with_form None s rest = Err UnknownOpcode
with_form (Some f) s rest = with_dst f s (reg_numbered s.dst) rest

-- what a slot and the bytes after it spell
unfoldable pub slot_meaning : Slot → List ℕ → Result Insn CodecError
slot_meaning s rest = with_form (form_of s.opcode) s rest

-- the fields of 8 bytes
abbrev pub slot_at : List ℕ → Slot
slot_at bytes = record {
  opcode = slice_index bytes 0;
  dst = slice_index bytes 1 % 16;
  src = slice_index bytes 1 / 16;
  offset = little_number 2 (drop 2 bytes);
  imm = little_number 4 (drop 4 bytes);
}

-- the instruction that a front of the bytes spells, or the first test that fails
unfoldable pub decoded : List ℕ → Result Insn CodecError
decoded bytes = if nat_lt (length bytes) 8 then Err Short
    else slot_meaning (slot_at (take 8 bytes)) (drop 8 bytes)

-- with the number of bytes that it takes
abbrev pub sized : Result Insn CodecError → Result (Insn × ℕ) CodecError
sized (Ok i) = Ok (i, 8 * slots_filled i)
sized (Err e) = Err e
