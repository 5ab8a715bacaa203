-- How a loop over the slots finds the lowest one at which a test fails, and what the tests return.
use Rattle.control_flow.proofs.Common.{◌≡◌, ℕ, ◌+◌, ◌<◌, ◌≤◌, Bool, false, not, length, Option, Some, None, refl, sym, ◌∙◌, subst, arith, inl, inr, ◌↔◌, IsTrue, IsSome, none-some, same_Some, cases_lt, iff_false, not-true, not_from_false, false_from_ne_true, option_map, option_and_then, Insn, Jump, JumpLong, JumpIf, CallLocal, Program, fetch, jump_distance, FlowError, TargetOutside, SecondHalf, BeginsInsn, IsSecondHalf, call_distance, jump_to, call_to, Fails, HasTarget}
use Rattle.isa_model.specs.Machine.Steps.{destination}
use Rattle.control_flow.proofs.FlowLaws.{Fails-inside}

-- ---- loops

-- where the next slot does not fail, and none below it does, none up to it does
pub none_more : (P : ℕ → Type 0) (n : ℕ) → ((k : ℕ) → k < n → P k → ⊥) → (P n → ⊥) → (k : ℕ)
    → k < n + 1 → P k → ⊥
none_more P n below here k lt h =
    elim (cases_lt k n) [
      | inl under ↦ below k under h
      | inr up ↦ let e : k ≡ n = omega arith in here (subst P e h)
    ]

-- where no slot of the code fails, none does
pub none_at_all : (p : Program) (e : FlowError) (n : ℕ) → length p.insns ≤ n
    → ((k : ℕ) → k < n → Fails p e k → ⊥) → (k : ℕ) → Fails p e k → ⊥
none_at_all p e n all below k h = let inside = Fails-inside p e k h in below k (omega arith) h

-- ---- tests of a target

-- with a target, the test of all targets is the test of this one
pub at_some : (P Q : ℕ → Type 0) (b : Bool) (x : ℕ) → ((to : ℕ) → (Some x ≡ Some to) ↔ P to)
    → IsTrue b ↔ Q x → IsTrue b ↔ ((to : ℕ) × P to × Q to)
at_some P Q b x only test = (
  λ h. (x, (only x).0 refl, test.0 h),
  λ w. test.1 (subst Q (sym (same_Some x w.0 ((only w.0).1 w.1))) w.2),
)

-- with no target, no test succeeds
pub at_none : (P Q : ℕ → Type 0) → ((to : ℕ) → (None ≡ Some to) ↔ P to)
    → IsTrue false ↔ ((to : ℕ) × P to × Q to)
at_none P Q only = (λ h. absurd cc, λ w. absurd (none-some w.0 ((only w.0).1 w.1)))

-- the same where the target is known by an equation
pub from_some : (Q : ℕ → Type 0) (b : Bool) (x : ℕ) (o : Option ℕ) → Some x ≡ o → IsTrue b ↔ Q x
    → IsTrue b ↔ ((to : ℕ) × (o ≡ Some to) × Q to)
from_some Q b x o e test =
    at_some (λ to. o ≡ Some to) Q b x (λ to. (λ h. sym e ∙ h, λ h. e ∙ h)) test

pub from_none : (Q : ℕ → Type 0) (o : Option ℕ) → None ≡ o
    → IsTrue false ↔ ((to : ℕ) × (o ≡ Some to) × Q to)
from_none Q o e = at_none (λ to. o ≡ Some to) Q (λ to. (λ h. sym e ∙ h, λ h. e ∙ h))

-- ---- targets

pub jump-inside : (p : Program) → ((k : ℕ) → Fails p TargetOutside k → ⊥) → (slot to : ℕ)
    → jump_to p slot ≡ Some to → to < length p.insns
jump-inside p none slot to h =
    elim (cases_lt to (length p.insns))
    [ inl inside ↦ inside | inr past ↦ absurd (none slot (to, inl h, past)) ]

pub call-inside : (p : Program) → ((k : ℕ) → Fails p TargetOutside k → ⊥) → (slot to : ℕ)
    → call_to p slot ≡ Some to → to < length p.insns
call-inside p none slot to h =
    elim (cases_lt to (length p.insns))
    [ inl inside ↦ inside | inr past ↦ absurd (none slot (to, inr h, past)) ]

-- an instruction that jumps calls nothing
jump_or_call : (p : Program) (slot to from : ℕ) → jump_to p slot ≡ Some to
    → call_to p slot ≡ Some from → ⊥
unfolding jump_to call_to
jump_or_call p slot to from h k = of (fetch p slot) h k where
  of : (o : Option Insn)
      → option_map (destination p slot) (option_and_then jump_distance o) ≡ Some to
      → option_map (destination p slot) (option_and_then call_distance o) ≡ Some from → ⊥
  of None a b = none-some to a
  of (Some (CallLocal by)) a b = none-some to a
  of (Some (Jump by)) a b = none-some from b
  of (Some (JumpLong by)) a b = none-some from b
  of (Some (JumpIf cond by)) a b = none-some from b
  of (Some i) a b = none-some from b

pub target_is_jump : (p : Program) (slot x : ℕ) → Some x ≡ jump_to p slot → (to : ℕ)
    → (Some x ≡ Some to) ↔ HasTarget p slot to
target_is_jump p slot x e to = (
  λ h. inl (sym e ∙ h),
  λ t. elim t
      [ inl jump ↦ e ∙ jump | inr call ↦ absurd (jump_or_call p slot x to (sym e) call) ],
)

-- ---- second halves

none_begins : (o : Option Insn) → (IsSome o → ⊥) → o ≡ None
none_begins None h = refl
none_begins (Some i) h = absurd (h refl)

begins_none : (o : Option Insn) → o ≡ None → IsSome o → ⊥
begins_none None e h = absurd cc
begins_none (Some i) e h = absurd cc

pub half_test : (p : Program) (to : ℕ) (b : Bool) → to < length p.insns → IsTrue b ↔ BeginsInsn p to
    → IsTrue (not b) ↔ IsSecondHalf p to
half_test p to b inside begins = (
  λ h. (inside, none_begins (fetch p to) (iff_false begins (not-true b h))),
  λ half. not_from_false b
      (false_from_ne_true b (λ h. begins_none (fetch p to) half.1 (begins.0 h))),
)

-- an instruction begins at a target that is not a second half
pub target-BeginsInsn : (p : Program) → ((k : ℕ) → Fails p TargetOutside k → ⊥)
    → ((k : ℕ) → Fails p SecondHalf k → ⊥) → (slot to : ℕ) → HasTarget p slot to → BeginsInsn p to
target-BeginsInsn p outside half slot to h =
    let inside : to < length p.insns =
    elim (cases_lt to (length p.insns))
    [ inl lt ↦ lt | inr past ↦ absurd (outside slot (to, h, past)) ] in
    some (fetch p to) (λ none. half slot (to, h, (inside, none))) where
      some : (o : Option Insn) → (o ≡ None → ⊥) → IsSome o
      some (Some i) none = refl
      some None none = absurd (none refl)
