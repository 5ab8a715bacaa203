-- The functions of slots: what the loop that finds them keeps, and that two slots have different
-- functions exactly where one begins between them.
use Rattle.control_flow.proofs.Common.{◌≡◌, ℕ, ◌+◌, ◌<◌, ◌≤◌, Bool, not, nat_eq, List, [], ◌∷◌, ◌++◌, length, get_or, sym, ap, ◌∙◌, subst, arith, inl, inr, ◌↔◌, IsTrue, cases_lt, eqb-false, ne_eqb, not-true, not_from_false, length-append, get_or-append, get_or-append_seam, Program, call_to, Calls, BeginsFunction, SameFunction, IsFunctionOf, MarksFunctions}
use Rattle.control_flow.proofs.FlowLaws.{HasEdge-inside}
use Rattle.control_flow.proofs.MarkLemmas.{MarksBelow}

-- ---- the slots at which functions begin

pub MarksFunctions-below : (p : Program) (marks : List Bool) (n : ℕ) → length p.insns ≤ n
    → MarksBelow (λ k. k ≡ 0) (call_to p) (length p.insns) n marks → MarksFunctions p marks
MarksFunctions-below p marks n all m = record {
  same = m.same;
  each = λ slot lt. (
    λ h. elim (m.found slot h) [ inl first ↦ inl first | inr w ↦ inr (w.0, w.2) ],
    λ b. elim b [
      | inl first ↦ m.marked slot (inl first)
      | inr w ↦
          m.marked slot
          (inr (w.0, (let low = HasEdge-inside p w.0 slot (Calls w.1) in omega arith), w.1))
    ],
  );
}

-- ---- the loop

-- the functions of the slots below n, and where the last function at or before them begins
pub record FunctionsBelow (p : Program) (n : ℕ) (functions : List ℕ) (function : ℕ) : Type 0 where
  pub same : length functions ≡ n
  pub each : (slot : ℕ) → slot < n → IsFunctionOf p slot (get_or functions slot 0)
  pub begins : BeginsFunction p function
  pub before : function ≤ n
  pub last : (g : ℕ) → BeginsFunction p g → g < n → g ≤ function

pushed : (p : Program) (n : ℕ) (functions : List ℕ) (function : ℕ) → length functions ≡ n
    → ((slot : ℕ) → slot < n → IsFunctionOf p slot (get_or functions slot 0))
    → IsFunctionOf p n function → FunctionsBelow p (n + 1) (functions ++ function ∷ []) function
pushed p n functions function same each here = record {
  same = omega (arith, length-append functions (function ∷ []), same);
  each = λ slot lt. elim (cases_lt slot n) [
    | inl under ↦
        let low : slot < length functions = omega (arith, same) in
        subst (λ (f : ℕ). IsFunctionOf p slot f)
        (sym (get_or-append functions (function ∷ []) 0 slot low)) (each slot under)
    | inr up ↦
        let e : slot ≡ length functions = omega (arith, same) in
        let n_is : slot ≡ n = omega arith in
        let read : get_or (functions ++ function ∷ []) slot 0 ≡ function =
        ap (λ (i : ℕ). get_or (functions ++ function ∷ []) i 0) e
        ∙ get_or-append_seam functions function [] 0 in
        subst (λ (f : ℕ). IsFunctionOf p slot f) (sym read)
        (subst (λ (i : ℕ). IsFunctionOf p i function) (sym n_is) here)
  ];
  begins = here.begins;
  before = omega (arith, here.before);
  last = λ g b lt. here.last g b (omega arith);
}

-- a function begins at the next slot
pub functions_more_new : (p : Program) (n : ℕ) (functions : List ℕ) (function : ℕ)
    → BeginsFunction p n → FunctionsBelow p n functions function
    → FunctionsBelow p (n + 1) (functions ++ n ∷ []) n
functions_more_new p n functions function b m =
    pushed p n functions n m.same m.each
    (record { begins = b; before = omega arith; last = λ g bg le. le })

-- the next slot belongs to the same function
pub functions_more_old : (p : Program) (n : ℕ) (functions : List ℕ) (function : ℕ)
    → (BeginsFunction p n → ⊥) → FunctionsBelow p n functions function
    → FunctionsBelow p (n + 1) (functions ++ function ∷ []) function
functions_more_old p n functions function none m =
    pushed p n functions function m.same m.each (record {
      begins = m.begins;
      before = m.before;
      last = λ g b le. elim (cases_lt g n) [
        | inl under ↦ m.last g b under
        | inr up ↦ let e : g ≡ n = omega arith in absurd (none (subst (BeginsFunction p) e b))
      ];
    })

-- ---- functions apart

same_from : (p : Program) (slot to f g : ℕ) → IsFunctionOf p slot f → IsFunctionOf p to g → f ≡ g
    → SameFunction p slot to
same_from p slot to f g a b e = record {
  none = λ h begins. (
    λ le. let low = a.last h begins le in omega (arith, low, e, b.before),
    λ le. let low = b.last h begins le in omega (arith, low, e, a.before),
  );
}

same_to : (p : Program) (slot to f g : ℕ) → IsFunctionOf p slot f → IsFunctionOf p to g
    → SameFunction p slot to → f ≡ g
same_to p slot to f g a b same =
    let up : f ≤ g = b.last f a.begins ((same.none f a.begins).0 a.before) in
    let down : g ≤ f = a.last g b.begins ((same.none g b.begins).1 b.before) in
    omega arith

-- two slots have different functions exactly where one begins between them
pub differ : (p : Program) (slot to f g : ℕ) → IsFunctionOf p slot f → IsFunctionOf p to g
    → IsTrue (not (nat_eq f g)) ↔ (SameFunction p slot to → ⊥)
differ p slot to f g a b = (
  λ h same. eqb-false f g (not-true (nat_eq f g) h) (same_to p slot to f g a b same),
  λ other. not_from_false (nat_eq f g) (ne_eqb f g (λ e. other (same_from p slot to f g a b e))),
)
