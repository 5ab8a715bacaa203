-- Words of operands represent their values, and conditions test them alike.
use Rattle.machine.proofs.Common.{length, refl, subst, Width, reg_number, holds, Program, State, reg, compared, operand_value, tested, IsValue, IsState, unsigned_fits, reg_fits, Words, word_at, word_operand, Layout, Represents, Related}
use Rattle.isa_model.specs.declared.instructions.Cond.{Cond}
use Rattle.isa_model.specs.declared.instructions.Operand.{Operand}
use Rattle.isa_model.specs.declared.instructions.Operand.TheVariants.{Constant, Register}
use Rattle.isa_model.specs.Code.Spelling.{OperandFits}
use Rattle.machine.proofs.Arithmetic.{OkHolds, shows_compared, shows_compared_constant}

module _ (p : Program) (a : Layout) (s : State) (w : Words) (R : Related p a s w)
    (K : IsState p s) where
  pub shows_operand : (width : Width) (x : Operand)
      → Represents a (operand_value s width x) (word_operand w width x)
  shows_operand width (Constant k) = refl
  shows_operand width (Register r) = R.registers.shown (reg_number r)

  pub operand_fits : (width : Width) (x : Operand) → OperandFits x
      → IsValue (length p.maps) s.next_serial (operand_value s width x)
  operand_fits width (Constant k) h = unsigned_fits width k h
  operand_fits width (Register r) h = reg_fits p s r K

  pub shows_tested : (cond : Cond) (x : Operand) → OperandFits x
      → OkHolds a (length p.maps) s.next_serial R.layout (tested s cond x)
      (holds cond.comparison cond.width (word_at w cond.register) (word_operand w cond.width x))
  shows_tested cond (Constant k) h =
      shows_compared_constant a (length p.maps) s.next_serial R.layout cond.comparison cond.width
      (reg s cond.register) k (word_at w cond.register)
      (reg_fits p s cond.register K) (R.registers.shown (reg_number cond.register))
  shows_tested cond (Register r) h =
      subst (λ n. OkHolds a (length p.maps) s.next_serial R.layout
      (compared n cond.comparison cond.width (reg s cond.register) (reg s r))
      (holds cond.comparison cond.width (word_at w cond.register) (word_at w r))) R.end
      (shows_compared a (length p.maps) s.next_serial R.layout cond.comparison cond.width
      (reg s cond.register) (reg s r) (word_at w cond.register) (word_at w r)
      (reg_fits p s cond.register K) (reg_fits p s r K)
      (R.registers.shown (reg_number cond.register)) (R.registers.shown (reg_number r)))
