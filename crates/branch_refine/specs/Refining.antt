-- What is kept of an abstract state on one edge of a conditional jump. Linux,
-- Documentation/bpf/verifier.rst (how the verifier narrows registers at conditional jumps).
use Rattle.std.specs.Prelude.{◌≡◌, ◌≢◌, ℕ, ◌⊎◌, Bool, true, false, not, if◌then◌else◌, IsTrue, Some, Ok}
use Rattle.isa_model.specs.declared.sizes.Width.{Width}
use Rattle.isa_model.specs.declared.registers.Reg.{Reg}
use Rattle.isa_model.specs.declared.instructions.Cond.{Cond}
use Rattle.isa_model.specs.declared.instructions.Operand.{Operand}
use Rattle.isa_model.specs.declared.instructions.Operand.TheVariants.{Constant, Register}
use Rattle.isa_model.specs.declared.values.Value.{Value}
use Rattle.isa_model.specs.Code.Numbers.{unsigned, holds}
use Rattle.isa_model.specs.Code.Instructions.{Program}
use Rattle.isa_model.specs.Machine.Steps.{test_of}
use Rattle.isa_model.specs.Machine.States as Machine
use Rattle.reg_state.specs.declared.kinds.Kind.{Kind}
use Rattle.reg_state.specs.declared.kinds.Kind.TheVariants.{Number}
use Rattle.reg_state.specs.declared.scalars.Scalar.{Scalar}
use Rattle.reg_state.specs.Scalars.{Has, IsConstant}
use Rattle.reg_state.specs.Shown.{NarrowsBoth}
use Rattle.reg_state.specs.Kinds.{Assigned, Allows}
use Rattle.stack_state.specs.declared.states.State.{State}
use Rattle.stack_state.specs.Meaning.{MeansBy}
use Rattle.stack_state.specs.Places.{kind_of}
use Rattle.stack_state.specs.Effects.{map_kinds, proved_kind, tested_kind}
use Rattle.branch_refine.specs.Comparing.{compared_by, same}
use Rattle.branch_refine.specs.Numbers.{numbers_in, AreNumbersOf, with_compared}
use Rattle.branch_refine.specs.declared.comparing.Compared.{Compared}
use Rattle.branch_refine.specs.declared.comparing.Compared.TheVariants.{Numbers, Packet, OrNull, Live, Undefined}
use Rattle.branch_refine.specs.declared.Branch.{Branch}
use Rattle.branch_refine.specs.declared.Branch.TheVariants.{Never, Goes}

-- ---- numbers

abbrev pub IsNumberKind : Kind → Type 0
IsNumberKind (Number numbers) = Unit {0}
IsNumberKind k = ⊥

-- the kind has this one number, known as a constant
abbrev pub IsJust : Kind → ℕ → Type 0
IsJust (Number numbers) x = Has numbers x × IsConstant numbers x
IsJust k x = ⊥

-- a constant of the instruction is a number
abbrev pub IsNumberOperand : State → Operand → Type 0
IsNumberOperand a (Constant k) = Unit {0}
IsNumberOperand a (Register r) = IsNumberKind (kind_of a r)

abbrev pub IsJustOperand : State → Width → Operand → ℕ → Type 0
IsJustOperand a w (Constant k) y = y ≡ unsigned w k
IsJustOperand a w (Register r) y = IsJust (kind_of a r) y

-- two numbers are compared
abbrev pub AreCompared : State → Cond → Type 0
AreCompared a cond = IsNumberKind (kind_of a cond.register) × IsNumberOperand a cond.operand

-- ---- what is kept

-- each member that takes this edge is still one, under the same assignment; if the state has no
-- members left, no member takes this edge
unfoldable pub KeepsMembers : Cond → Bool → State → Bool → State → Type 0
KeepsMembers cond taken a some b =
    (p : Program) (e : Assigned) (s : Machine.State) → MeansBy p e a s → test_of s cond ≡ Ok taken
    → IsTrue some × MeansBy p e b s

-- the condition names the register
abbrev pub NamesRegister : Cond → Reg → Type 0
NamesRegister cond r = (cond.register ≡ r) ⊎ (cond.operand ≡ Register r)

-- b is a but for kinds in registers: no wider ones, and a constant is still that constant
pub record Narrows (a b : State) : Type 0 where
  pub slot : b.slot ≡ a.slot
  pub callers : b.callers ≡ a.callers
  pub returns : b.innermost.return_slot ≡ a.innermost.return_slot
  pub stack : b.innermost.stack ≡ a.innermost.stack
  pub registers : (e : Assigned) (r : Reg) (v : Value) → Allows e (kind_of b r) v
      → Allows e (kind_of a r) v
  pub constants : (r : Reg) (x : ℕ) → IsJust (kind_of a r) x → IsJust (kind_of b r) x

-- registers that the condition does not name have the kinds that they had
abbrev pub KeepsOtherRegisters : Cond → State → State → Type 0
KeepsOtherRegisters cond a b = (r : Reg) → (NamesRegister cond r → ⊥) → kind_of b r ≡ kind_of a r

-- two numbers are compared, and b has in their place those that the comparison leaves of them
pub record Refined (cond : Cond) (taken : Bool) (a b : State) : Type 0 where
  pub left : Scalar
  pub right : Scalar
  pub new_left : Scalar
  pub new_right : Scalar
  pub left_is : Some left ≡ numbers_in (kind_of a cond.register)
  pub right_is : AreNumbersOf a cond.width cond.operand (Some right)
  pub narrows : NarrowsBoth cond.comparison cond.width taken left right new_left new_right
  pub new : b ≡ with_compared a cond new_left new_right

-- ---- pointers

-- every copy of the identity is the number 0, or none is
abbrev pub IsTested : ℕ → Bool → State → State → Type 0
IsTested identity null a b = (zero : Scalar) × Has zero 0 × IsConstant zero 0
    × (b ≡ map_kinds (tested_kind identity null zero) a)

-- what is known of every copy of an identity once the test has this outcome; where the outcome
-- shows nothing, the state is unchanged
abbrev pub LearnsOf : Compared → Bool → State → Bool → State → Type 0
LearnsOf Numbers taken a some b = Unit {0}
LearnsOf (Packet identity shows bytes) taken a some b =
    IsTrue some × (b ≡ (if same taken shows then map_kinds (proved_kind identity bytes) a else a))
LearnsOf (OrNull identity null) taken a some b =
    IsTrue some × IsTested identity (same taken null) a b
LearnsOf (Live null) taken a some b = (some ≡ not (same taken null)) × (b ≡ a)
LearnsOf Undefined taken a some b = IsTrue some × (b ≡ a)

-- all that is promised of the state that is left: b, where some member takes this edge
pub record Refines (cond : Cond) (taken : Bool) (a : State) (some : Bool) (b : State) : Type 0 where
  pub kept : KeepsMembers cond taken a some b
  pub never : some ≡ false → b ≡ a
  pub narrowed : AreCompared a cond → Narrows a b
  pub others : AreCompared a cond → KeepsOtherRegisters cond a b
  pub shown : AreCompared a cond → IsTrue some → Refined cond taken a b
  -- two constants take one edge only
  pub constants : (x y : ℕ) → IsJust (kind_of a cond.register) x
      → IsJustOperand a cond.width cond.operand y
      → holds cond.comparison cond.width x y ≢ taken → some ≡ false
  pub constants_go : (x y : ℕ) → IsJust (kind_of a cond.register) x
      → IsJustOperand a cond.width cond.operand y
      → holds cond.comparison cond.width x y ≡ taken → IsTrue some
  -- no numbers
  pub pointers : LearnsOf (compared_by a cond) taken a some b

-- ---- branches

-- the same, of the result of `refine`
abbrev pub IsRefined : Cond → Bool → State → Branch → Type 0
IsRefined cond taken a Never = Refines cond taken a false a
IsRefined cond taken a (Goes b) = Refines cond taken a true b
