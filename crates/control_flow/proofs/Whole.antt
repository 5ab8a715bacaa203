-- The tests as a whole: what they say together.
use Rattle.control_flow.proofs.Common.{◌≡◌, ℕ, ◌+◌, ◌<◌, ◌≤◌, Bool, false, List, length, Some, None, refl, ap, ◌∙◌, subst, arith, inl, inr, ◌↔◌, ◌≢◌, slice_index_or, cases_lt, cases_eq, cases_Bool, Program, fetch, slots_filled, slots_filled-cases, FlowError, TargetOutside, SecondHalf, OtherFunction, FallsOff, Unreachable, Memory, BeginsInsn, fall_to, HasEdge, Falls, Jumps, Calls, Reached, BeginsFunction, SameFunction, IsFlow, IsMarked, Fails, test_rank, IsRefusal}
use Rattle.image.specs.Images.{IsImage}
use Rattle.image.proofs.ImageLaws.{fetch-next, fetch-second}
use Rattle.control_flow.proofs.FlowLaws.{BeginsInsn-insn, fetch-BeginsInsn, fall_to-behind, IsFlow-Fails}
use Rattle.control_flow.proofs.TargetTests.{jump-inside, call-inside, target-BeginsInsn}

-- the test fails at no slot
abbrev pub Passes : Program → FlowError → Type 0
Passes p e = (k : ℕ) → Fails p e k → ⊥

-- ---- the order of the tests

pub passed_1 : (p : Program) → Passes p TargetOutside → (d : FlowError) (k : ℕ) → test_rank d < 2
    → Fails p d k → ⊥
passed_1 p a TargetOutside k lt = a k
passed_1 p a d k lt = absurd (omega (arith, lt))

pub passed_2 : (p : Program) → Passes p TargetOutside → Passes p SecondHalf
    → (d : FlowError) (k : ℕ) → test_rank d < 3 → Fails p d k → ⊥
passed_2 p a b SecondHalf k lt = b k
passed_2 p a b TargetOutside k lt = a k
passed_2 p a b d k lt = absurd (omega (arith, lt))

pub passed_3 : (p : Program) → Passes p TargetOutside → Passes p SecondHalf → Passes p OtherFunction
    → (d : FlowError) (k : ℕ) → test_rank d < 4 → Fails p d k → ⊥
passed_3 p a b x OtherFunction k lt = x k
passed_3 p a b x SecondHalf k lt = b k
passed_3 p a b x TargetOutside k lt = a k
passed_3 p a b x d k lt = absurd (omega (arith, lt))

pub passed_4 : (p : Program) → Passes p TargetOutside → Passes p SecondHalf → Passes p OtherFunction
    → Passes p FallsOff → (d : FlowError) (k : ℕ) → test_rank d < 5 → Fails p d k → ⊥
passed_4 p a b x f FallsOff k lt = f k
passed_4 p a b x f OtherFunction k lt = x k
passed_4 p a b x f SecondHalf k lt = b k
passed_4 p a b x f TargetOutside k lt = a k
passed_4 p a b x f d k lt = absurd (omega (arith, lt))

-- only running out of memory refuses good control flow
pub only_memory : (p : Program) (e : FlowError) (slot : ℕ) → IsFlow p → IsRefusal p e slot
    → e ≡ Memory
only_memory p Memory slot flow r = refl
only_memory p TargetOutside slot flow r = absurd (IsFlow-Fails p TargetOutside slot flow r.fails)
only_memory p SecondHalf slot flow r = absurd (IsFlow-Fails p SecondHalf slot flow r.fails)
only_memory p OtherFunction slot flow r = absurd (IsFlow-Fails p OtherFunction slot flow r.fails)
only_memory p FallsOff slot flow r = absurd (IsFlow-Fails p FallsOff slot flow r.fails)
only_memory p Unreachable slot flow r = absurd (IsFlow-Fails p Unreachable slot flow r.fails)

-- ---- what follows if tests pass

pub leads-inside : (p : Program) → Passes p TargetOutside → Passes p FallsOff → (slot to : ℕ)
    → HasEdge p slot to → to < length p.insns
leads-inside p a f slot to (Jumps h) = jump-inside p a slot to h
leads-inside p a f slot to (Calls h) = call-inside p a slot to h
leads-inside p a f slot to (Falls h) =
    elim (cases_lt to (length p.insns))
    [ inl inside ↦ inside | inr past ↦ absurd (f slot (to, h, inl past)) ]

-- whether two slots have the same function is decidable, so what is not refuted holds
stable : (p : Program) (slot to : ℕ) → ((SameFunction p slot to → ⊥) → ⊥) → SameFunction p slot to
stable p slot to twice = record {
  none = λ f b. (
    λ le. elim (cases_lt to f) [
      | inl above ↦ absurd (twice (λ same. let low = (same.none f b).0 le in omega arith))
      | inr low ↦ low
    ],
    λ le. elim (cases_lt slot f) [
      | inl above ↦ absurd (twice (λ same. let low = (same.none f b).1 le in omega arith))
      | inr low ↦ low
    ],
  );
}

-- a function begins where an instruction does
function-BeginsInsn : (p : Program) → Passes p TargetOutside → Passes p SecondHalf → (f : ℕ)
    → BeginsFunction p f → f ≢ 0 → BeginsInsn p f
function-BeginsInsn p a b f (inl first) other = absurd (other first)
function-BeginsInsn p a b f (inr (from, call)) other = target-BeginsInsn p a b from f (inr call)

-- no function begins between a slot and the one after its instruction, nor there
falls_within : (p : Program) → IsImage p → Passes p TargetOutside → Passes p SecondHalf
    → Passes p FallsOff → (slot to : ℕ) → fall_to p slot ≡ Some to → SameFunction p slot to
falls_within p h a b f slot to falls =
    let found = fall_to-behind p slot to falls in
    let none : (g : ℕ) → BeginsFunction p g → g ≤ to → slot < g → ⊥ = λ g begins le above.
    elim (cases_eq g to) [
      | inl e ↦ f slot (to, falls, inr (subst (BeginsFunction p) e begins))
      | inr other ↦ elim (slots_filled-cases found.0) [
        | inl one ↦ omega (arith, found.2)
        | inr two ↦
            let e : g ≡ slot + 1 = omega (arith, found.2) in
            let empty : fetch p g ≡ None = ap (fetch p) e
            ∙ (fetch-second p slot found.0 h found.1 two).1 in
            let some = (BeginsInsn-insn p g (function-BeginsInsn p a b g begins (omega arith))).1 in
            absurd cc
      ]
    ] in
    record {
      none = λ g begins. (
        λ le. let up : slot ≤ to = omega (arith, found.2) in omega arith,
        λ le. elim (cases_lt slot g)
            [ inl above ↦ absurd (none g begins le above) | inr low ↦ low ],
      );
    }

falls_on : (p : Program) → IsImage p → Passes p FallsOff → (slot to : ℕ) → fall_to p slot ≡ Some to
    → BeginsInsn p to
falls_on p h f slot to falls =
    let found = fall_to-behind p slot to falls in
    elim (fetch-next p slot found.0 h found.1) [
      | inl end ↦ absurd (f slot (to, falls, inl (omega (arith, found.2))))
      | inr next ↦
          subst (BeginsInsn p) found.2
          (fetch-BeginsInsn p (slot + slots_filled found.0) next.0 next.1)
    ]

pub IsFlow-passed : (p : Program) (marks : List Bool) → IsImage p → Passes p TargetOutside
    → Passes p SecondHalf → Passes p OtherFunction → Passes p FallsOff → Passes p Unreachable
    → ((slot : ℕ) → IsMarked marks slot ↔ Reached p slot) → IsFlow p
IsFlow-passed p marks h a b x f u m = record {
  jumps =
      λ slot to jump. (
        target-BeginsInsn p a b slot to (inl jump),
        stable p slot to (λ other. x slot (to, jump, other)),
      );
  calls = λ slot to call. target-BeginsInsn p a b slot to (inr call);
  falls = λ slot to falls. (falls_on p h f slot to falls, falls_within p h a b f slot to falls);
  reached = λ slot begins. elim (cases_Bool (slice_index_or marks slot false)) [
    | inl marked ↦ (m slot).0 marked
    | inr unmarked ↦ absurd (u slot (begins, λ r. let marked = (m slot).1 r in absurd cc))
  ];
}
