-- What a loop over the slots finds out about the calls and the input of a program.
use Rattle.control_flow.proofs.Common.{◌≡◌, ℕ, ◌+◌, ◌<◌, ◌≤◌, Bool, true, false, length, Some, refl, subst, arith, inl, inr, ◌↔◌, ◌≢◌, ◌||◌, IsTrue, cases_lt, Program, call_to, Calls, TakesInputAt, HasInput, MayForgetNumbers}
use Rattle.control_flow.proofs.FlowLaws.{BeginsInsn-inside, fetch-BeginsInsn, HasEdge-inside}

-- an instruction below slot n takes input
abbrev pub IsInputBelow : Program → ℕ → Type 0
IsInputBelow p n = (slot : ℕ) × (slot < n) × TakesInputAt p slot

-- no instruction below slot n calls a function of the program, and `takes` says whether one takes
-- input
pub record KnowsBelow (p : Program) (n : ℕ) (takes : Bool) : Type 0 where
  pub calls_none : (slot to : ℕ) → slot < n → call_to p slot ≢ Some to
  pub input : IsTrue takes ↔ IsInputBelow p n

pub below_none : (p : Program) → KnowsBelow p 0 false
below_none p = record {
  calls_none = λ slot to below. absurd (omega arith);
  input = (λ h. absurd cc, λ (slot, below, at). absurd (omega arith));
}

either : (p : Program) (n : ℕ) (takes here : Bool) → IsTrue takes ↔ IsInputBelow p n
    → IsTrue here ↔ TakesInputAt p n → IsTrue (takes || here) ↔ IsInputBelow p (n + 1)
either p n true here below at =
    (λ h. let w = below.0 refl in (w.0, (let lt = w.1 in omega arith), w.2), λ w. refl)
either p n false here below at = (
  λ h. (n, omega arith, at.0 h),
  λ (slot, lt, there). elim (cases_lt slot n) [
    | inl under ↦ let none = below.1 (slot, under, there) in absurd cc
    | inr past ↦
        let e : slot ≡ n = omega arith in at.1 (subst (λ (k : ℕ). TakesInputAt p k) e there)
  ],
)

-- the next slot
pub below_more : (p : Program) (n : ℕ) (takes here : Bool)
    → ((to : ℕ) → call_to p n ≢ Some to) → IsTrue here ↔ TakesInputAt p n → KnowsBelow p n takes
    → KnowsBelow p (n + 1) (takes || here)
below_more p n takes here none at below = record {
  calls_none = λ slot to lt call. elim (cases_lt slot n) [
    | inl under ↦ below.calls_none slot to under call
    | inr past ↦
        let e : slot ≡ n = omega arith in
        none to (subst (λ (k : ℕ). call_to p k ≡ Some to) e call)
  ];
  input = either p n takes here below.input at;
}

-- where no slot of the code takes input, the program has none
pub none_takes_input : (p : Program) (n : ℕ) → length p.insns ≤ n
    → ((k : ℕ) → k < n → ¬ TakesInputAt p k) → ¬ HasInput p
none_takes_input p n all none (k, (i, here, takes)) =
    let inside = BeginsInsn-inside p k (fetch-BeginsInsn p k i here) in
    none k (omega arith) (i, here, takes)

-- all slots
pub below_all : (p : Program) (n : ℕ) (takes : Bool) → length p.insns ≤ n → KnowsBelow p n takes
    → IsTrue takes ↔ MayForgetNumbers p
below_all p n takes all below = (
  λ h. let w = below.input.0 h in record {
    takes = (w.0, w.2);
    calls_none = λ slot to call.
        let inside = HasEdge-inside p slot to (Calls call) in
        below.calls_none slot to (omega arith) call;
  },
  λ may.
      let (slot, (i, here, input)) = may.takes in
      let inside = BeginsInsn-inside p slot (fetch-BeginsInsn p slot i here) in
      below.input.1 (slot, omega arith, (i, here, input)),
)

-- a program with a call of a function of its own
pub called : (p : Program) (slot to : ℕ) → call_to p slot ≡ Some to
    → IsTrue false ↔ MayForgetNumbers p
called p slot to call = (λ h. absurd cc, λ may. absurd (may.calls_none slot to call))
