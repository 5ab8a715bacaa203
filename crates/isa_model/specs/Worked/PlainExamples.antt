-- Worked examples of plain programs: a wide load of a number, and jumps ahead.
use Rattle.std.specs.Prelude.{pos, [], ◌∷◌, refl}
use Rattle.std.proofs.Common.{arith}
use Rattle.isa_model.specs.declared.versions.Version.TheVariants.{One}
use Rattle.isa_model.specs.declared.registers.Reg.TheVariants.{R0, R1, R2}
use Rattle.isa_model.specs.declared.sizes.Width.TheVariants.{Low32}
use Rattle.isa_model.specs.declared.instructions.AluOp.TheVariants.{Mod, Mov}
use Rattle.isa_model.specs.declared.instructions.Comparison.TheVariants.{Greater, NotEqual}
use Rattle.isa_model.specs.declared.instructions.Operand.TheVariants.{Constant, Register}
use Rattle.isa_model.specs.declared.instructions.Insn.{Insn}
use Rattle.isa_model.specs.declared.instructions.Insn.TheVariants as insn
use Rattle.isa_model.specs.Code.Instructions.{Program, slots}
use Rattle.isa_model.specs.MustAccept.Paths.{IsPlainForm}
use Rattle.isa_model.specs.MustAccept.Plain.{IsPlain}
use Rattle.isa_model.specs.Worked.Examples.{set, if_constant}
use Rattle.isa_model.specs.Worked.WorkedLaws.{of_each, ahead, IsWhole-tested, AreWritten-tested, never_written}

-- ---- modulo by zero

-- r0 = 0x100000002 ll; w1 = 0; w0 %= w1; exit
abbrev pub modulo_by_zero : Program
modulo_by_zero = record {
  insns =
      slots (insn.LoadNumber R0 0x100000002 ∷ insn.Alu Low32 Mov R1 (Constant (pos 0))
      ∷ insn.Alu Low32 Mod R0 (Register R1) ∷ insn.Exit ∷ []);
  maps = [];
  version = One;
}

pub modulo_by_zero_is_plain : IsPlain modulo_by_zero
modulo_by_zero_is_plain = record {
  forms = of_each modulo_by_zero (λ slot i. IsPlainForm i) (tt, (tt, (tt, (tt, tt))));
  whole = IsWhole-tested modulo_by_zero (0 ∷ 0 ∷ 0 ∷ 2 ∷ 3 ∷ []) refl refl;
  forward = record { forward = ahead modulo_by_zero refl; few = omega arith };
  own = never_written modulo_by_zero refl;
  written =
      AreWritten-tested modulo_by_zero []
      ([] ∷ [] ∷ (R0 ∷ []) ∷ (R0 ∷ R1 ∷ []) ∷ (R0 ∷ R1 ∷ []) ∷ []) refl refl refl;
}

-- ---- two paths that meet

-- if w2 != 7 goto +3
abbrev pub to_other_path : Insn
to_other_path =
    insn.JumpIf (record {
      width = Low32;
      comparison = NotEqual;
      register = R2;
      operand = Constant
          (pos 7);
    }) (pos 3)

-- r2 = 7; if w2 != 7 goto +3; r0 = 0x100000002 ll; gotol +1; r0 = 2; if r0 > 9 goto +1; r0 = 3;
-- exit
abbrev pub two_paths : Program
two_paths = record {
  insns =
      slots (set R2 (pos 7) ∷ to_other_path ∷ insn.LoadNumber R0 0x100000002 ∷ insn.JumpLong (pos 1)
      ∷ set R0 (pos 2) ∷ if_constant Greater R0 (pos 9) (pos 1) ∷ set R0 (pos 3) ∷ insn.Exit ∷ []);
  maps = [];
  version = One;
}

-- the paths part at slot 1 and meet at slot 6
pub two_paths_is_plain : IsPlain two_paths
two_paths_is_plain = record {
  forms =
      of_each two_paths (λ slot i. IsPlainForm i)
      (tt, (tt, (tt, (tt, (tt, (tt, (tt, (tt, tt))))))));
  whole = IsWhole-tested two_paths (0 ∷ 0 ∷ 1 ∷ 0 ∷ 2 ∷ 1 ∷ 4 ∷ 6 ∷ 6 ∷ []) refl refl;
  forward = record { forward = ahead two_paths refl; few = omega arith };
  own = never_written two_paths refl;
  written =
      AreWritten-tested two_paths []
      ([] ∷ (R2 ∷ []) ∷ [] ∷ [] ∷ (R0 ∷ []) ∷ [] ∷ (R0 ∷ []) ∷ (R0 ∷ []) ∷ (R0 ∷ []) ∷ []) refl refl
      refl;
}
