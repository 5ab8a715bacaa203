-- Guarded programs: packet bytes are loaded where one test has shown that they are there. The body
-- of such a program is what is between that test and its last two instructions, the tail.
use Rattle.std.specs.Prelude.{◌≡◌, ℕ, ◌+◌, ◌<◌, ◌≤◌, ℤ, pos, Some, [], ◌∷◌, length}
use Rattle.isa_model.specs.declared.sizes.Width.TheVariants.{Full64}
use Rattle.isa_model.specs.declared.sizes.Size.TheVariants.{U32}
use Rattle.isa_model.specs.declared.registers.Reg.{Reg}
use Rattle.isa_model.specs.declared.registers.Reg.TheVariants.{R0, R1, R2, R3, R4, R10}
use Rattle.isa_model.specs.declared.instructions.AluOp.TheVariants.{Mov, Add}
use Rattle.isa_model.specs.declared.instructions.Comparison.TheVariants.{Greater}
use Rattle.isa_model.specs.declared.instructions.Operand.{Operand}
use Rattle.isa_model.specs.declared.instructions.Operand.TheVariants.{Constant, Register}
use Rattle.isa_model.specs.declared.instructions.Place.{Place}
use Rattle.isa_model.specs.declared.instructions.Insn.{Insn}
use Rattle.isa_model.specs.declared.instructions.Insn.TheVariants.{Alu, Neg, MovSx, ByteSwap, LoadNumber, Load, LoadSx, Jump, JumpLong, JumpIf, Exit}
use Rattle.isa_model.specs.Code.Sizes.{size_bytes, unsigned_size}
use Rattle.isa_model.specs.Code.Instructions.{Program, fetch}
use Rattle.isa_model.specs.Machine.Steps.{destination}
use Rattle.isa_model.specs.MustAccept.Paths.{IsWhole, IsForward, AreWritten}
use Rattle.isa_model.specs.Code.Limits.{max_guarded_length}

-- ---- forms of the body

-- r1 to r4 and r10 are kept for the test
abbrev pub IsFree : Reg → Type 0
IsFree R1 = ⊥
IsFree R2 = ⊥
IsFree R3 = ⊥
IsFree R4 = ⊥
IsFree R10 = ⊥
IsFree r = Unit {0}

abbrev pub IsFreeOperand : Operand → Type 0
IsFreeOperand (Constant k) = Unit {0}
IsFreeOperand (Register r) = IsFree r

-- a load of size bytes at a constant offset from r2, all of them before the length
abbrev pub IsLoadBefore : ℕ → ℕ → Reg → Place → Type 0
IsLoadBefore size len d place =
    IsFree d × (place.base ≡ R2) × ((at : ℕ) × (place.offset ≡ pos at) × (at + size ≤ len))

abbrev pub IsBodyForm : ℕ → Insn → Type 0
IsBodyForm len (Alu w op d source) = IsFree d × IsFreeOperand source
IsBodyForm len (Neg w d) = IsFree d
IsBodyForm len (MovSx e d r) = IsFree d × IsFree r
IsBodyForm len (ByteSwap order span d) = IsFree d
IsBodyForm len (LoadNumber d n) = IsFree d
IsBodyForm len (Load size d place) = IsLoadBefore (size_bytes size) len d place
IsBodyForm len (LoadSx size d place) = IsLoadBefore (size_bytes (unsigned_size size)) len d place
IsBodyForm len (Jump by) = Unit {0}
IsBodyForm len (JumpLong by) = Unit {0}
IsBodyForm len (JumpIf cond by) = IsFree cond.register × IsFreeOperand cond.operand
IsBodyForm len Exit = Unit {0}
IsBodyForm len i = ⊥

-- ---- the program

-- r2 = the packet; r3 = its end; r4 = r2; r4 += len; if r4 > r3 goto tail; the body; tail:
-- r0 = answer; exit
pub record IsGuarded (p : Program) (len : ℕ) : Type 0 where
  pub some : 1 ≤ len
  pub most : len ≤ max_guarded_length
  pub packet : fetch p 0 ≡ Some (Load U32 R2 (record { base = R1; offset = pos 0 }))
  pub packet_end : fetch p 1 ≡ Some (Load U32 R3 (record { base = R1; offset = pos 4 }))
  pub copy : fetch p 2 ≡ Some (Alu Full64 Mov R4 (Register R2))
  pub ahead : fetch p 3 ≡ Some (Alu Full64 Add R4 (Constant (pos len)))
  pub by : ℤ
  pub test : fetch p 4
      ≡ Some (JumpIf
      (record { width = Full64; comparison = Greater; register = R4; operand = Register R3 }) by)
  pub tail : ℕ
  pub behind : 5 ≤ tail
  pub to_tail : destination p 4 by ≡ tail
  pub answer : ℤ
  pub answers : fetch p tail ≡ Some (Alu Full64 Mov R0 (Constant answer))
  pub exits : fetch p (tail + 1) ≡ Some Exit
  pub ends : length p.insns ≡ tail + 2
  pub body : (slot : ℕ) (i : Insn) → 5 ≤ slot → slot < tail → fetch p slot ≡ Some i
      → IsBodyForm len i
  pub whole : IsWhole p
  pub forward : IsForward p
  pub written : AreWritten p (R1 ∷ [])
