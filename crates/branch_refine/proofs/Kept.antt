-- What is kept where two numbers are compared and other numbers are put in their place.
use Rattle.branch_refine.proofs.Common.{◌≡◌, ◌≢◌, ℕ, ◌<◌, ◌^◌, Bool, true, false, Some, None, Ok, sym, ap, ◌∙◌, subst, inl, inr, refl, Width, Cond, Operand, Constant, Register, Program, operand_value, tested, test_of, Kind, Number, Assigned, Allows, State, MeansBy, kind_of, with_register}
use Rattle.isa_model.specs.declared.registers.Reg.{Reg}
use Rattle.isa_model.specs.declared.registers.Reg.TheVariants.{R10}
use Rattle.isa_model.specs.declared.values.Value.TheVariants.{Num}
use Rattle.isa_model.specs.Code.Numbers.{unsigned, holds}
use Rattle.isa_model.specs.Machine.States.{reg}
use Rattle.isa_model.specs.Machine.States as Machine
use Rattle.reg_state.specs.declared.scalars.Scalar.{Scalar}
use Rattle.reg_state.specs.Scalars.{Has, IsConstant}
use Rattle.reg_state.specs.Constants.{bits_constant_has, range_constant_has}
use Rattle.stack_state.proofs.MeaningLaws.{reg_allowed, MeansBy-narrow}
use Rattle.stack_state.proofs.PlaceLaws.{same_or_other, kind_of-with_same, kind_of-with_other}
use Rattle.branch_refine.specs.Refining.{IsNumberKind, IsNumberOperand, IsJust, IsJustOperand, KeepsMembers, Narrows, KeepsOtherRegisters}
use Rattle.branch_refine.specs.Numbers.{numbers_in, AreNumbersOf, with_operand, with_compared}

-- ---- numbers and kinds

kind_is : (k : Kind) (numbers : Scalar) → Some numbers ≡ numbers_in k → k ≡ Number numbers
kind_is (Number m) numbers h = cc
kind_is k numbers h = absurd (cc)

-- where no numbers are known there is no number
pub no_number : (k : Kind) → None ≡ numbers_in k → IsNumberKind k → ⊥
no_number (Number m) h is = absurd (cc)
no_number k h is = is

pub no_operand : (a : State) (w : Width) (operand : Operand) → AreNumbersOf a w operand None
    → IsNumberOperand a operand → ⊥
no_operand a w (Constant k) h is = h
no_operand a w (Register r) h is = no_number (kind_of a r) h is

-- a register that is known to hold a number is not r10
holder : (a : State) (r : Reg) (numbers : Scalar) → Some numbers ≡ numbers_in (kind_of a r)
    → r ≢ R10
holder a r numbers h = λ same.
    let none : Some numbers ≡ None =
    subst (λ q. Some numbers ≡ numbers_in (kind_of a q)) same h in
    absurd (cc)

holder_operand : (a : State) (w : Width) (operand : Operand) (numbers : Scalar)
    → AreNumbersOf a w operand (Some numbers) → operand ≢ Register R10
holder_operand a w (Constant k) numbers h = λ same. absurd (cc)
holder_operand a w (Register r) numbers h = λ same. holder a r numbers h (cc)

-- a constant in a register, or as an operand
pub just_number : (k : Kind) (numbers : Scalar) (x : ℕ) → Some numbers ≡ numbers_in k → IsJust k x
    → Has numbers x × IsConstant numbers x
just_number k numbers x h just = subst (λ k. IsJust k x) (kind_is k numbers h) just

pub just_operand : (a : State) (w : Width) (operand : Operand) (numbers : Scalar) (y : ℕ)
    → AreNumbersOf a w operand (Some numbers)
    → IsJustOperand a w operand y → Has numbers y × IsConstant numbers y
just_operand a w (Constant k) numbers y h just = rw just h
just_operand a w (Register r) numbers y h just = just_number (kind_of a r) numbers y h just

-- the numbers known as a constant of 64 bits have it
pub constant_has : (numbers : Scalar) (x : ℕ) → x < 2 ^ 64 → IsConstant numbers x → Has numbers x
constant_has numbers x h c =
    (bits_constant_has numbers.bits x h c.0, range_constant_has numbers.range x h c.1)

-- ---- the test of two numbers

tested_says : (s : Machine.State) (cond : Cond) (operand : Operand) (x y : ℕ) (taken : Bool)
    → reg s cond.register ≡ Num x
    → operand_value s cond.width operand ≡ Num y → tested s cond operand ≡ Ok taken
    → holds cond.comparison cond.width x y ≡ taken
tested_says s cond (Constant k) x y taken left right says =
    let told = rw left at says in
    let same : unsigned cond.width k ≡ y = cc in
    cc
tested_says s cond (Register r) x y taken left right says =
    let told = rw (left, right) at says in cc

operand_allowed : (p : Program) (e : Assigned) (a : State) (s : Machine.State) (w : Width)
    (operand : Operand) (numbers : Scalar)
    → MeansBy p e a s → AreNumbersOf a w operand (Some numbers)
    → Allows e (Number numbers) (operand_value s w operand)
operand_allowed p e a s w (Constant k) numbers m h = (unsigned w k, refl, h.0)
operand_allowed p e a s w (Register r) numbers m h =
    subst (λ k. Allows e k (reg s r)) (kind_is (kind_of a r) numbers h) (reg_allowed p e a s m r)

operand_narrowed : (p : Program) (e : Assigned) (a : State) (s : Machine.State) (w : Width)
    (operand : Operand) (new : Scalar)
    → operand ≢ Register R10 → Allows e (Number new) (operand_value s w operand) → MeansBy p e a s
    → MeansBy p e (with_operand a operand new) s
operand_narrowed p e a s w (Constant k) new own allowed m = m
operand_narrowed p e a s w (Register r) new own allowed m =
    MeansBy-narrow p e a s r (Number new) (λ same. own (ap Register same)) allowed m

-- two numbers of a member that takes this edge: the outcome of their comparison
record NumbersCompared (e : Assigned) (s : Machine.State) (cond : Cond) (left right : Scalar)
    (taken : Bool) : Type 0 where
  pub x : ℕ
  pub y : ℕ
  pub left_is : reg s cond.register ≡ Num x
  pub right_is : operand_value s cond.width cond.operand ≡ Num y
  pub left_has : Has left x
  pub right_has : Has right y
  pub outcome : holds cond.comparison cond.width x y ≡ taken

numbers_compared : (p : Program) (e : Assigned) (a : State) (s : Machine.State) (cond : Cond)
    (left right : Scalar) (taken : Bool)
    → Some left ≡ numbers_in (kind_of a cond.register)
    → AreNumbersOf a cond.width cond.operand (Some right)
    → MeansBy p e a s → test_of s cond ≡ Ok taken → NumbersCompared e s cond left right taken
numbers_compared p e a s cond left right taken is_left is_right m says =
    let l : Allows e (Number left) (reg s cond.register) =
    subst (λ k. Allows e k (reg s cond.register)) (kind_is (kind_of a cond.register) left is_left)
    (reg_allowed p e a s m cond.register) in
    let r : Allows e (Number right) (operand_value s cond.width cond.operand) =
    operand_allowed p e a s cond.width cond.operand right m is_right in
    record {
      x = l.0;
      y = r.0;
      left_is = l.1;
      right_is = r.1;
      left_has = l.2;
      right_has = r.2;
      outcome = tested_says s cond cond.operand l.0 r.0 taken l.1 r.1 says;
    }

-- ---- what is kept

pub KeepsMembers-same : (cond : Cond) (taken : Bool) (a : State) → KeepsMembers cond taken a true a
unfolding KeepsMembers
KeepsMembers-same cond taken a = λ p e s m says. (refl, m)

-- the numbers that are left for members that take this edge
pub KeepsMembers-compared : (cond : Cond) (taken : Bool) (a : State)
    (left right new_left new_right : Scalar)
    → Some left ≡ numbers_in (kind_of a cond.register)
    → AreNumbersOf a cond.width cond.operand (Some right)
    → ((x y : ℕ) → Has left x → Has right y → holds cond.comparison cond.width x y ≡ taken
    → Has new_left x × Has new_right y)
    → KeepsMembers cond taken a true (with_compared a cond new_left new_right)
unfolding KeepsMembers
KeepsMembers-compared cond taken a left right new_left new_right is_left is_right common =
    λ p e s m says.
    let c = numbers_compared p e a s cond left right taken is_left is_right m says in
    let both = common c.x c.y c.left_has c.right_has c.outcome in
    let first : MeansBy p e (with_register a cond.register (Number new_left)) s =
    MeansBy-narrow p e a s cond.register (Number new_left) (holder a cond.register left is_left)
    (c.x, c.left_is, both.0) m in (
      refl,
      operand_narrowed p e
          (with_register a cond.register (Number new_left)) s cond.width cond.operand new_right
          (holder_operand a cond.width cond.operand right is_right) (c.y, c.right_is, both.1) first,
    )

-- no member takes this edge
pub KeepsMembers-none : (cond : Cond) (taken : Bool) (a : State) (left right : Scalar)
    → Some left ≡ numbers_in (kind_of a cond.register)
    → AreNumbersOf a cond.width cond.operand (Some right)
    → ((x y : ℕ) → Has left x → Has right y → holds cond.comparison cond.width x y ≡ taken → ⊥)
    → KeepsMembers cond taken a false a
unfolding KeepsMembers
KeepsMembers-none cond taken a left right is_left is_right none = λ p e s m says.
    let c = numbers_compared p e a s cond left right taken is_left is_right m says in
    absurd (none c.x c.y c.left_has c.right_has c.outcome)

-- ---- what stays

pub Narrows-same : (a : State) → Narrows a a
Narrows-same a = record {
  slot = refl;
  callers = refl;
  returns = refl;
  stack = refl;
  registers = λ e r v h. h;
  constants = λ r x h. h;
}

-- a register whose numbers become fewer
Narrows-with : (a b : State) (r : Reg) (old new : Scalar) → Narrows a b → r ≢ R10
    → kind_of a r ≡ Number old → ((x : ℕ) → Has new x → Has old x)
    → ((x : ℕ) → Has old x → IsConstant old x → Has new x × IsConstant new x)
    → Narrows a (with_register b r (Number new))
Narrows-with a b r old new n own is fewer constant =
    record {
      slot = n.slot;
      callers = n.callers;
      returns = n.returns;
      stack = n.stack;
      registers = λ e q v.
          let P : Kind → Type 0 = λ k. Allows e k v → Allows e (kind_of a r) v in
          elim (same_or_other q r) [
            | inl same ↦
                subst (λ q. Allows e (kind_of (with_register b r (Number new)) q) v
                → Allows e (kind_of a q) v) (sym same)
                (kind_of-with_same P b r (Number new) own
                (λ h. subst (λ k. Allows e k v) (sym is) (h.0, h.1, fewer h.0 h.2))
                (n.registers e r v))
            | inr other ↦
                subst (λ k. Allows e k v → Allows e (kind_of a q) v)
                (sym (kind_of-with_other b r q (Number new) other))
                (n.registers e q v)
          ];
      constants = λ q x.
          let P : Kind → Type 0 = λ k. IsJust (kind_of a r) x → IsJust k x in
          elim (same_or_other q r) [
            | inl same ↦
                subst (λ q. IsJust (kind_of a q) x
                → IsJust (kind_of (with_register b r (Number new)) q) x) (sym same)
                (kind_of-with_same P b r (Number new) own
                (λ h. let just = subst (λ k. IsJust k x) is h in constant x just.0 just.1)
                (n.constants r x))
            | inr other ↦
                subst (λ k. IsJust (kind_of a q) x → IsJust k x)
                (sym (kind_of-with_other b r q (Number new) other))
                (n.constants q x)
          ];
    }

Narrows-operand : (a b : State) (w : Width) (operand : Operand) (old new : Scalar) → Narrows a b
    → AreNumbersOf a w operand (Some old) → ((x : ℕ) → Has new x → Has old x)
    → ((x : ℕ) → Has old x → IsConstant old x → Has new x × IsConstant new x)
    → Narrows a (with_operand b operand new)
Narrows-operand a b w (Constant k) old new n is fewer constant = n
Narrows-operand a b w (Register r) old new n is fewer constant =
    Narrows-with a b r old new n (holder a r old is) (kind_is (kind_of a r) old is) fewer constant

kept_constant : (old new : Scalar) → ((x : ℕ) → IsConstant old x → IsConstant new x) → (x : ℕ)
    → Has old x → IsConstant old x → Has new x × IsConstant new x
kept_constant old new kept x has c = (constant_has new x has.0.below (kept x c), kept x c)

pub Narrows-compared : (a : State) (cond : Cond) (left right new_left new_right : Scalar)
    → Some left ≡ numbers_in (kind_of a cond.register)
    → AreNumbersOf a cond.width cond.operand (Some right)
    → ((x : ℕ) → Has new_left x → Has left x) → ((y : ℕ) → Has new_right y → Has right y)
    → ((x : ℕ) → IsConstant left x → IsConstant new_left x)
    → ((y : ℕ) → IsConstant right y → IsConstant new_right y)
    → Narrows a (with_compared a cond new_left new_right)
Narrows-compared a cond left right new_left new_right is_left is_right fewer_left fewer_right
    kept_left kept_right =
    Narrows-operand a
    (with_register a cond.register (Number new_left)) cond.width cond.operand right new_right
    (Narrows-with a a cond.register left new_left (Narrows-same a)
    (holder a cond.register left is_left)
    (kind_is (kind_of a cond.register) left is_left) fewer_left
    (kept_constant left new_left kept_left))
    is_right fewer_right (kept_constant right new_right kept_right)

others_operand : (a : State) (operand : Operand) (new : Scalar) (q : Reg)
    → (operand ≡ Register q → ⊥) → kind_of (with_operand a operand new) q ≡ kind_of a q
others_operand a (Constant k) new q unnamed = refl
others_operand a (Register r) new q unnamed =
    kind_of-with_other a r q (Number new) (λ same. unnamed (ap Register (sym same)))

pub others_compared : (a : State) (cond : Cond) (new_left new_right : Scalar)
    → KeepsOtherRegisters cond a (with_compared a cond new_left new_right)
others_compared a cond new_left new_right q unnamed =
    others_operand (with_register a cond.register (Number new_left)) cond.operand new_right q
    (λ h. unnamed (inr h))
    ∙ kind_of-with_other a cond.register q (Number new_left) (λ same. unnamed (inl (sym same)))
