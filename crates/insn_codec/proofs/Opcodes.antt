-- The opcode of each form, and that no other opcode names the form; the same of registers and their
-- numbers. All 256 opcodes and 16 numbers are tried.
use Rattle.insn_codec.proofs.Common.{◌≡◌, ℕ, ◌+◌, ◌<◌, Bool, true, Option, Some, refl, subst, ◌==◌, agree_below_at, eqb-true, Reg, reg_number, reg_numbered, alu_class, jump_class, jump_code, order_opcode, size_code, signed_code, atomic_opcode, AluCode, Form, form_of}
use Rattle.std.specs.Option.{option_map_or}
use Rattle.insn_codec.specs.declared.forms.AluCode.TheVariants as codes
use Rattle.insn_codec.specs.declared.forms.Form.TheVariants as form

abbrev pub code_bits : AluCode → ℕ
code_bits codes.Add = 0x00
code_bits codes.Sub = 0x10
code_bits codes.Mul = 0x20
code_bits codes.Div = 0x30
code_bits codes.Or = 0x40
code_bits codes.And = 0x50
code_bits codes.Lsh = 0x60
code_bits codes.Rsh = 0x70
code_bits codes.Mod = 0x90
code_bits codes.Xor = 0xa0
code_bits codes.Mov = 0xb0
code_bits codes.Arsh = 0xc0

abbrev pub opcode_of : Form → ℕ
opcode_of (form.AluConstant w c) = code_bits c + 0x00 + alu_class w
opcode_of (form.AluRegister w c) = code_bits c + 0x08 + alu_class w
opcode_of (form.MovRegister w) = 0xb8 + alu_class w
opcode_of (form.Negate w) = 0x80 + alu_class w
opcode_of (form.ByteSwap order) = order_opcode order
opcode_of form.Jump = 0x05
opcode_of form.JumpLong = 0x06
opcode_of (form.JumpIfConstant w c) = jump_code c + 0x00 + jump_class w
opcode_of (form.JumpIfRegister w c) = jump_code c + 0x08 + jump_class w
opcode_of form.Call = 0x85
opcode_of form.Exit = 0x95
opcode_of (form.Load size) = 0x61 + size_code size
opcode_of (form.LoadSx size) = 0x81 + signed_code size
opcode_of (form.StoreConstant size) = 0x62 + size_code size
opcode_of (form.Store size) = 0x63 + size_code size
opcode_of (form.Atomic w) = atomic_opcode w
opcode_of form.WideLoad = 0x18

abbrev names_test : ℕ → Bool
names_test o = option_map_or (λ f. opcode_of f == o) (form_of o) true

pub opcode-form_of : (o : ℕ) (f : Form) → o < 256 → form_of o ≡ Some f → opcode_of f ≡ o
opcode-form_of o f lt e =
    let t : names_test o ≡ true = agree_below_at names_test (λ _. true) 256 o refl lt in
    eqb-true _ _ (subst
    (λ (x : Option Form). option_map_or (λ g. opcode_of g == o) x true ≡ true) e t)

abbrev reg_test : ℕ → Bool
reg_test n = option_map_or (λ r. reg_number r == n) (reg_numbered n) true

pub number-reg_numbered : (n : ℕ) (r : Reg) → n < 16 → reg_numbered n ≡ Some r → reg_number r ≡ n
number-reg_numbered n r lt e =
    let t : reg_test n ≡ true = agree_below_at reg_test (λ _. true) 16 n refl lt in
    eqb-true _ _ (subst
    (λ (x : Option Reg). option_map_or (λ q. reg_number q == n) x true ≡ true) e t)
