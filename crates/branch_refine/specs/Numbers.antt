-- The numbers that a condition compares, and those that are put in their place.
use Rattle.std.specs.Prelude.{◌≡◌, Option, Some, None}
use Rattle.isa_model.specs.declared.sizes.Width.{Width}
use Rattle.isa_model.specs.declared.instructions.Cond.{Cond}
use Rattle.isa_model.specs.declared.instructions.Operand.{Operand}
use Rattle.isa_model.specs.declared.instructions.Operand.TheVariants.{Constant, Register}
use Rattle.isa_model.specs.Code.Numbers.{unsigned}
use Rattle.reg_state.specs.declared.kinds.Kind.{Kind}
use Rattle.reg_state.specs.declared.kinds.Kind.TheVariants.{Number}
use Rattle.reg_state.specs.declared.scalars.Scalar.{Scalar}
use Rattle.reg_state.specs.Scalars.{Has, IsConstant}
use Rattle.stack_state.specs.declared.states.State.{State}
use Rattle.stack_state.specs.Places.{kind_of, with_register}

abbrev pub numbers_in : Kind → Option Scalar
numbers_in (Number numbers) = Some numbers
numbers_in k = None

-- the numbers of an operand; a constant is only one
abbrev pub AreNumbersOf : State → Width → Operand → Option Scalar → Type 0
AreNumbersOf a w (Constant k) (Some numbers) =
    Has numbers (unsigned w k) × IsConstant numbers (unsigned w k)
AreNumbersOf a w (Constant k) None = ⊥
AreNumbersOf a w (Register r) numbers = numbers ≡ numbers_in (kind_of a r)

-- other numbers for an operand; a constant stays one
abbrev pub with_operand : State → Operand → Scalar → State
with_operand a (Constant k) numbers = a
with_operand a (Register r) numbers = with_register a r (Number numbers)

-- other numbers for the two that are compared
abbrev pub with_compared : State → Cond → Scalar → Scalar → State
with_compared a cond left right =
    with_operand (with_register a cond.register (Number left)) cond.operand right
