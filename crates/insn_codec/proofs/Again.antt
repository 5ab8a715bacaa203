-- Laws of decoding again what was spelled: an instruction's spelling is decoded to it.
use Rattle.insn_codec.proofs.Common.{◌≡◌, ℕ, ◌+◌, ◌*◌, ◌/◌, ◌%◌, ◌^◌, ◌<◌, Bool, true, false, cond, ℤ, List, ◌++◌, length, Option, Some, Result, Ok, Err, refl, ap, ◌∙◌, arith, nat_lt, w16, w32, cast_signed, cast_unsigned, FitsSigned, le-ltb, little_number, little_bytes, little_number-reads_back, Reg, R0, R1, R5, R6, SwapWidth, B16, Extension, Low8, Low16, Full8, Full16, Full32, Width, AluOp, Constant, Register, Insn, Alu, Neg, MovSx, ByteSwap, LoadNumber, LoadMap, LoadMapValue, Load, LoadSx, StoreConstant, Store, Atomic, Exchange, CompareExchange, Jump, JumpLong, JumpIf, CallHelper, CallLocal, Exit, Slot, reg_numbered, span_bits, alu_code, alu_offset, alu_class, jump_class, jump_code, extension_class, extension_offset, order_opcode, size_code, signed_code, atomic_opcode, atomic_code, fetch_bit, first_slot, next_imm, second_bytes, InsnFits, OperandFits, CodecError, AluCode, Form, form_of, uses, zero_unused, next_imm_read, wide_by, meaning, slot_meaning, with_form, with_dst, with_src}
use Rattle.std.proofs.lemmas.Int.{to_z-of_z}
use Rattle.isa_model.specs.declared.sizes.Size.{Size}
use Rattle.isa_model.specs.declared.sizes.Size.TheVariants.{U8}
use Rattle.isa_model.specs.declared.sizes.SignedSize.{SignedSize}
use Rattle.isa_model.specs.declared.sizes.SignedSize.TheVariants.{S8}
use Rattle.isa_model.specs.declared.sizes.Width.TheVariants.{Low32, Full64}
use Rattle.isa_model.specs.declared.instructions.AluOp.TheVariants as ops
use Rattle.isa_model.specs.declared.instructions.Comparison.{Comparison}
use Rattle.isa_model.specs.declared.instructions.Comparison.TheVariants.{Equal}
use Rattle.isa_model.specs.declared.sizes.ByteOrder.{ByteOrder}
use Rattle.isa_model.specs.declared.sizes.ByteOrder.TheVariants.{Little}
use Rattle.isa_model.specs.declared.instructions.AtomicOp.{AtomicOp}
use Rattle.isa_model.specs.declared.instructions.AtomicOp.TheVariants as atomics
use Rattle.isa_model.specs.declared.instructions.Operand.{Operand}
use Rattle.isa_model.specs.declared.instructions.Place.{Place}
use Rattle.isa_model.specs.declared.instructions.Cond.{Cond}
use Rattle.isa_model.proofs.RegisterLaws.{reg_numbered-reg_number}
use Rattle.insn_codec.specs.declared.errors.CodecError.TheVariants.{UnusedField, SecondSlot}
use Rattle.insn_codec.specs.declared.forms.AluCode.TheVariants as codes
use Rattle.insn_codec.specs.declared.forms.Form.TheVariants as form
use Rattle.insn_codec.specs.declared.fields.Fields.{Fields}

abbrev fields : Reg → Reg → ℕ → ℕ → Fields
fields d r o k = record { dst = d; src = r; offset = o; imm = k }

-- the five tests passed
through : (s : Slot) (f : Form) (d r : Reg) (rest : List ℕ) (i : Insn) → form_of s.opcode ≡ Some f
    → reg_numbered s.dst ≡ Some d → reg_numbered s.src ≡ Some r
    → zero_unused (uses f) (fields d r s.offset s.imm) ≡ true
    → meaning f (fields d r s.offset s.imm) rest ≡ Ok i → slot_meaning s rest ≡ Ok i
unfolding slot_meaning
through s f d r rest i h1 h2 h3 h4 h5 =
    ap (λ (x : Option Form). with_form x s rest) h1
    ∙ ap (λ (x : Option Reg). with_dst f s x rest) h2
    ∙ ap (λ (x : Option Reg). with_src f s d x rest) h3
    ∙ ap (λ (b : Bool). cond b (meaning f (fields d r s.offset s.imm) rest) (Err UnusedField)) h4
    ∙ h5

-- ---- each opcode names its form

abbrev code_for : AluOp → AluCode
code_for ops.Add = codes.Add
code_for ops.Sub = codes.Sub
code_for ops.Mul = codes.Mul
code_for ops.Div = codes.Div
code_for ops.SignedDiv = codes.Div
code_for ops.Or = codes.Or
code_for ops.And = codes.And
code_for ops.Lsh = codes.Lsh
code_for ops.Rsh = codes.Rsh
code_for ops.Mod = codes.Mod
code_for ops.SignedMod = codes.Mod
code_for ops.Xor = codes.Xor
code_for ops.Mov = codes.Mov
code_for ops.Arsh = codes.Arsh

abbrev register_form : Width → AluOp → Form
register_form w ops.Mov = form.MovRegister w
register_form w op = form.AluRegister w (code_for op)

form_alu_constant : (w : Width) (op : AluOp)
    → form_of (alu_code op + 0x00 + alu_class w) ≡ Some (form.AluConstant w (code_for op))
form_alu_constant Low32 ops.Mov = refl
form_alu_constant Full64 ops.Mov = refl
form_alu_constant w op = refl

form_alu_register : (w : Width) (op : AluOp)
    → form_of (alu_code op + 0x08 + alu_class w) ≡ Some (register_form w op)
form_alu_register Low32 ops.Mov = refl
form_alu_register Full64 ops.Mov = refl
form_alu_register w op = refl

form_if_constant : (w : Width) (c : Comparison)
    → form_of (jump_code c + 0x00 + jump_class w) ≡ Some (form.JumpIfConstant w c)
form_if_constant Low32 Equal = refl
form_if_constant Full64 Equal = refl
form_if_constant w c = refl

form_if_register : (w : Width) (c : Comparison)
    → form_of (jump_code c + 0x08 + jump_class w) ≡ Some (form.JumpIfRegister w c)
form_if_register Low32 Equal = refl
form_if_register Full64 Equal = refl
form_if_register w c = refl

form_negate : (w : Width) → form_of (0x80 + alu_class w) ≡ Some (form.Negate w)
form_negate Low32 = refl
form_negate w = refl

form_end : (order : ByteOrder) → form_of (order_opcode order) ≡ Some (form.ByteSwap order)
form_end Little = refl
form_end order = refl

form_load : (size : Size) → form_of (0x61 + size_code size) ≡ Some (form.Load size)
form_load U8 = refl
form_load size = refl

form_load_signed : (size : SignedSize) → form_of (0x81 + signed_code size) ≡ Some (form.LoadSx size)
form_load_signed S8 = refl
form_load_signed size = refl

form_store_constant : (size : Size)
    → form_of (0x62 + size_code size) ≡ Some (form.StoreConstant size)
form_store_constant U8 = refl
form_store_constant size = refl

form_store_register : (size : Size) → form_of (0x63 + size_code size) ≡ Some (form.Store size)
form_store_register U8 = refl
form_store_register size = refl

form_atomic : (w : Width) → form_of (atomic_opcode w) ≡ Some (form.Atomic w)
form_atomic Low32 = refl
form_atomic w = refl

-- ---- and its selectors

abbrev ok_insn : Insn → Result Insn CodecError
ok_insn i = Ok i

zero_alu_constant : (w : Width) (op : AluOp) (d : Reg) (k : ℕ)
    → zero_unused (uses (form.AluConstant w (code_for op))) (fields d R0 (alu_offset op) k) ≡ true
zero_alu_constant w ops.Mov d k = refl
zero_alu_constant w op d k = refl

zero_alu_register : (w : Width) (op : AluOp) (d r : Reg)
    → zero_unused (uses (register_form w op)) (fields d r (alu_offset op) 0) ≡ true
zero_alu_register w ops.Mov d r = refl
zero_alu_register w op d r = refl

back32 : (k : ℤ) → FitsSigned w32 k → cast_signed w32 (cast_unsigned w32 k) ≡ k
back32 k h = to_z-of_z w32 k h

back16 : (k : ℤ) → FitsSigned w16 k → cast_signed w16 (cast_unsigned w16 k) ≡ k
back16 k h = to_z-of_z w16 k h

meaning-alu_constant : (w : Width) (op : AluOp) (d : Reg) (k : ℕ) (rest : List ℕ)
    → meaning (form.AluConstant w (code_for op)) (fields d R0 (alu_offset op) k) rest
    ≡ Ok (Alu w op d (Constant (cast_signed w32 k)))
meaning-alu_constant w ops.Mov d k rest = refl
meaning-alu_constant w op d k rest = refl

meaning-alu_register : (w : Width) (op : AluOp) (d r : Reg) (rest : List ℕ)
    → meaning (register_form w op) (fields d r (alu_offset op) 0) rest
    ≡ Ok (Alu w op d (Register r))
meaning-alu_register w ops.Mov d r rest = refl
meaning-alu_register w op d r rest = refl

form_extension : (x : Extension)
    → (w : Width) × (form_of (0xb8 + extension_class x) ≡ Some (form.MovRegister w))
    × ((d r : Reg) (rest : List ℕ)
    → meaning (form.MovRegister w) (fields d r (extension_offset x) 0) rest ≡ Ok (MovSx x d r))
form_extension Low8 = (Low32, refl, λ d r rest. refl)
form_extension Low16 = (Low32, refl, λ d r rest. refl)
form_extension Full8 = (Full64, refl, λ d r rest. refl)
form_extension Full16 = (Full64, refl, λ d r rest. refl)
form_extension Full32 = (Full64, refl, λ d r rest. refl)

meaning-end : (order : ByteOrder) (x : SwapWidth) (d : Reg) (rest : List ℕ)
    → meaning (form.ByteSwap order) (fields d R0 0 (span_bits x)) rest ≡ Ok (ByteSwap order x d)
meaning-end order B16 d rest = refl
meaning-end order x d rest = refl

meaning-atomic : (w : Width) (op : AtomicOp) (fetch : Bool) (d r : Reg) (o : ℕ) (rest : List ℕ)
    → meaning (form.Atomic w) (fields d r o (atomic_code op + fetch_bit fetch)) rest
    ≡ Ok (Atomic w op fetch (record { base = d; offset = cast_signed w16 o }) r)
meaning-atomic w atomics.Add true d r o rest = refl
meaning-atomic w atomics.Or true d r o rest = refl
meaning-atomic w atomics.And true d r o rest = refl
meaning-atomic w atomics.Xor true d r o rest = refl
meaning-atomic w op fetch d r o rest = refl

-- ---- wide loads

abbrev zeros_then : ℕ → List ℕ → List ℕ
zeros_then n rest = second_bytes (Some n) ++ rest

abbrev next_is : ℕ → Result ℕ CodecError
next_is n = Ok n

abbrev second_missing : Result ℕ CodecError
second_missing = Err SecondSlot

long_enough : (n : ℕ) (rest : List ℕ) → nat_lt (length (zeros_then n rest)) 8 ≡ false
long_enough n rest = le-ltb _ _ (omega arith)

-- the second slot is read
next_imm_read-second_bytes : (n : ℕ) (rest : List ℕ) → n < 2 ^ 32
    → next_imm_read (zeros_then n rest) ≡ Ok n
next_imm_read-second_bytes n rest h =
    ap (λ (b : Bool). cond b second_missing (next_is (little_number 4 (little_bytes 4 n ++ rest))))
    (long_enough n rest)
    ∙ ap next_is (little_number-reads_back 4 n rest h)

meaning-number : (d : Reg) (n : ℕ) (rest : List ℕ) → n < 2 ^ 64
    → meaning form.WideLoad (fields d R0 0 (n % 2 ^ 32)) (zeros_then (n / 2 ^ 32) rest)
    ≡ Ok (LoadNumber d n)
meaning-number d n rest h =
    let whole : n % 2 ^ 32 + n / 2 ^ 32 * 2 ^ 32 ≡ n = omega arith in
    ap (wide_by R0 (fields d R0 0 (n % 2 ^ 32)))
    (next_imm_read-second_bytes (n / 2 ^ 32) rest (omega arith))
    ∙ ap (λ (m : ℕ). ok_insn (LoadNumber d m)) whole

meaning-map : (d : Reg) (m : ℕ) (rest : List ℕ)
    → meaning form.WideLoad (fields d R5 0 m) (zeros_then 0 rest) ≡ Ok (LoadMap d m)
meaning-map d m rest =
    ap (wide_by R5 (fields d R5 0 m)) (next_imm_read-second_bytes 0 rest (omega arith))

meaning-map_value : (d : Reg) (m o : ℕ) (rest : List ℕ) → o < 2 ^ 32
    → meaning form.WideLoad (fields d R6 0 m) (zeros_then o rest) ≡ Ok (LoadMapValue d m o)
meaning-map_value d m o rest h =
    ap (wide_by R6 (fields d R6 0 m)) (next_imm_read-second_bytes o rest h)

-- ---- all forms

abbrev at_place : Reg → ℤ → Place
at_place r z = record { base = r; offset = z }

abbrev test : Width → Comparison → Reg → Operand → Cond
test w c d x = record { width = w; comparison = c; register = d; operand = x }

-- the same of a conditional jump, by its operand
meaning-if : (x : Operand) (w : Width) (c : Comparison) (d : Reg) (by : ℤ) (rest : List ℕ)
    → OperandFits x → FitsSigned w16 by
    → slot_meaning (first_slot (JumpIf (test w c d x) by)) rest ≡ Ok (JumpIf (test w c d x) by)
meaning-if (Constant k) w c d by rest h0 h1 =
    through _ (form.JumpIfConstant w c) d R0 rest _ (form_if_constant w c)
    (reg_numbered-reg_number d) refl refl
    (ap (λ (z : ℤ). ok_insn
    (JumpIf (test w c d (Constant z)) (cast_signed w16 (cast_unsigned w16 by)))) (back32 k h0)
    ∙ ap (λ (z : ℤ). ok_insn (JumpIf (test w c d (Constant k)) z)) (back16 by h1))
meaning-if (Register r) w c d by rest h0 h1 =
    through _ (form.JumpIfRegister w c) d r rest _ (form_if_register w c)
    (reg_numbered-reg_number d) (reg_numbered-reg_number r) refl
    (ap (λ (z : ℤ). ok_insn (JumpIf (test w c d (Register r)) z)) (back16 by h1))

-- an instruction's slot, with what follows it, is decoded to that instruction
pub slot_meaning-first_slot : (i : Insn) (rest : List ℕ) → InsnFits i
    → slot_meaning (first_slot i) (second_bytes (next_imm i) ++ rest) ≡ Ok i
slot_meaning-first_slot (Alu w op d (Constant k)) rest h =
    through _ (form.AluConstant w (code_for op)) d R0 rest _ (form_alu_constant w op)
    (reg_numbered-reg_number d) refl (zero_alu_constant w op d (cast_unsigned w32 k))
    (meaning-alu_constant w op d (cast_unsigned w32 k) rest
    ∙ ap (λ (z : ℤ). ok_insn (Alu w op d (Constant z))) (back32 k h))
slot_meaning-first_slot (Alu w op d (Register r)) rest h =
    through _ (register_form w op) d r rest _ (form_alu_register w op) (reg_numbered-reg_number d)
    (reg_numbered-reg_number r) (zero_alu_register w op d r) (meaning-alu_register w op d r rest)
slot_meaning-first_slot (Neg w d) rest h =
    through _ (form.Negate w) d R0 rest _ (form_negate w) (reg_numbered-reg_number d) refl refl refl
slot_meaning-first_slot (MovSx x d r) rest h =
    let f = form_extension x in
    through _ (form.MovRegister f.0) d r rest _ f.1 (reg_numbered-reg_number d)
    (reg_numbered-reg_number r) refl (f.2 d r rest)
slot_meaning-first_slot (ByteSwap order x d) rest h =
    through _ (form.ByteSwap order) d R0 rest _ (form_end order)
    (reg_numbered-reg_number d) refl refl (meaning-end order x d rest)
slot_meaning-first_slot (LoadNumber d n) rest h =
    through _ form.WideLoad d R0 _ _ refl (reg_numbered-reg_number d) refl refl
    (meaning-number d n rest h)
slot_meaning-first_slot (LoadMap d m) rest h =
    through _ form.WideLoad d R5 _ _ refl (reg_numbered-reg_number d) refl refl
    (meaning-map d m rest)
slot_meaning-first_slot (LoadMapValue d m o) rest h =
    through _ form.WideLoad d R6 _ _ refl (reg_numbered-reg_number d) refl refl
    (meaning-map_value d m o rest h.1)
slot_meaning-first_slot (Load size d p) rest h =
    through _ (form.Load size) d p.base rest _ (form_load size) (reg_numbered-reg_number d)
    (reg_numbered-reg_number p.base) refl
    (ap (λ (z : ℤ). ok_insn (Load size d (at_place p.base z))) (back16 p.offset h))
slot_meaning-first_slot (LoadSx size d p) rest h =
    through _ (form.LoadSx size) d p.base rest _ (form_load_signed size) (reg_numbered-reg_number d)
    (reg_numbered-reg_number p.base) refl
    (ap (λ (z : ℤ). ok_insn (LoadSx size d (at_place p.base z))) (back16 p.offset h))
slot_meaning-first_slot (StoreConstant size p k) rest h =
    through _ (form.StoreConstant size) p.base R0 rest _ (form_store_constant size)
    (reg_numbered-reg_number p.base) refl refl
    (ap (λ (z : ℤ). ok_insn
    (StoreConstant size (at_place p.base z) (cast_signed w32 (cast_unsigned w32 k))))
    (back16 p.offset h.0) ∙ ap (λ (z : ℤ). ok_insn (StoreConstant size p z)) (back32 k h.1))
slot_meaning-first_slot (Store size p s) rest h =
    through _ (form.Store size) p.base s rest _ (form_store_register size)
    (reg_numbered-reg_number p.base) (reg_numbered-reg_number s) refl
    (ap (λ (z : ℤ). ok_insn (Store size (at_place p.base z) s)) (back16 p.offset h))
slot_meaning-first_slot (Atomic w op fetch p s) rest h =
    through _ (form.Atomic w) p.base s rest _ (form_atomic w) (reg_numbered-reg_number p.base)
    (reg_numbered-reg_number s) refl
    (meaning-atomic w op fetch p.base s _ rest
    ∙ ap (λ (z : ℤ). ok_insn (Atomic w op fetch (at_place p.base z) s)) (back16 p.offset h))
slot_meaning-first_slot (Exchange w p s) rest h =
    through _ (form.Atomic w) p.base s rest _ (form_atomic w) (reg_numbered-reg_number p.base)
    (reg_numbered-reg_number s) refl
    (ap (λ (z : ℤ). ok_insn (Exchange w (at_place p.base z) s)) (back16 p.offset h))
slot_meaning-first_slot (CompareExchange w p s) rest h =
    through _ (form.Atomic w) p.base s rest _ (form_atomic w) (reg_numbered-reg_number p.base)
    (reg_numbered-reg_number s) refl
    (ap (λ (z : ℤ). ok_insn (CompareExchange w (at_place p.base z) s)) (back16 p.offset h))
slot_meaning-first_slot (Jump by) rest h = through _ form.Jump R0 R0 rest _ refl refl refl refl
    (ap (λ (z : ℤ). ok_insn (Jump z)) (back16 by h))
slot_meaning-first_slot (JumpLong by) rest h =
    through _ form.JumpLong R0 R0 rest _ refl refl refl refl
    (ap (λ (z : ℤ). ok_insn (JumpLong z)) (back32 by h))
slot_meaning-first_slot (JumpIf c by) rest h =
    meaning-if c.operand c.width c.comparison c.register by rest h.0 h.1
slot_meaning-first_slot (CallHelper n) rest h =
    through _ form.Call R0 R0 rest _ refl refl refl refl
    (ap (λ (z : ℤ). ok_insn (CallHelper z)) (back32 n h))
slot_meaning-first_slot (CallLocal by) rest h =
    through _ form.Call R0 R1 rest _ refl refl refl refl
    (ap (λ (z : ℤ). ok_insn (CallLocal z)) (back32 by h))
slot_meaning-first_slot Exit rest h = through _ form.Exit R0 R0 rest _ refl refl refl refl refl
