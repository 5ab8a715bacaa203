-- What follows from good control flow, instruction by instruction, and what its tests say.
use Rattle.control_flow.proofs.Common.{◌≡◌, ℕ, ◌+◌, ◌<◌, ◌≤◌, ℤ, Bool, true, false, length, Option, Some, None, refl, sym, ap, ◌∙◌, subst, inl, inr, arith, if◌then◌else◌, IsSome, option_map, option_and_then, option_flatten, cases_lt, cases_order, slice_get_past, cond_some, Insn, Program, fetch, slots_filled, jump_distance, falls_through, Follows, slots_filled-some, FlowError, TargetOutside, SecondHalf, OtherFunction, FallsOff, Unreachable, Memory, call_distance, BeginsInsn, jump_to, call_to, slot_behind, fall_to, HasEdge, Falls, Jumps, Calls, SameFunction, EndsFunction, IsFlow, HasTarget, Fails, IsFirst}
use Rattle.isa_model.specs.Machine.Steps.{destination}

-- ---- slots at which instructions begin

pub BeginsInsn-insn : (p : Program) (slot : ℕ) → BeginsInsn p slot
    → (i : Insn) × (fetch p slot ≡ Some i)
BeginsInsn-insn p slot h = of (fetch p slot) h where
  of : (o : Option Insn) → IsSome o → (i : Insn) × (o ≡ Some i)
  of (Some i) e = (i, refl)
  of None e = absurd cc

pub fetch-BeginsInsn : (p : Program) (slot : ℕ) (i : Insn) → fetch p slot ≡ Some i
    → BeginsInsn p slot
fetch-BeginsInsn p slot i e = subst (λ (o : Option Insn). IsSome o) (sym e) refl

-- they are inside the code
pub BeginsInsn-inside : (p : Program) (slot : ℕ) → BeginsInsn p slot → slot < length p.insns
BeginsInsn-inside p slot h =
    elim (cases_lt slot (length p.insns)) [
      | inl inside ↦ inside
      | inr past ↦
          let none : fetch p slot ≡ None = ap option_flatten (slice_get_past p.insns slot past) in
          let some : fetch p slot ≡ Some (BeginsInsn-insn p slot h).0 =
          (BeginsInsn-insn p slot h).1 in
          absurd cc
    ]

-- ---- the graph, by instructions

pub jump_to-insn : (p : Program) (slot : ℕ) (i : Insn) (by : ℤ) → fetch p slot ≡ Some i
    → jump_distance i ≡ Some by → jump_to p slot ≡ Some (destination p slot by)
unfolding jump_to
jump_to-insn p slot i by e d =
    ap (λ (o : Option Insn). option_map (destination p slot) (option_and_then jump_distance o)) e
    ∙ ap (option_map (destination p slot)) d

pub call_to-insn : (p : Program) (slot : ℕ) (i : Insn) (by : ℤ) → fetch p slot ≡ Some i
    → call_distance i ≡ Some by → call_to p slot ≡ Some (destination p slot by)
unfolding call_to
call_to-insn p slot i by e d =
    ap (λ (o : Option Insn). option_map (destination p slot) (option_and_then call_distance o)) e
    ∙ ap (option_map (destination p slot)) d

behind : (slot : ℕ) (i : Insn) (b : Bool) → b ≡ true
    → (if b then Some (slot + slots_filled i) else None) ≡ Some (slot + slots_filled i)
behind slot i true h = refl
behind slot i false h = absurd cc

pub fall_to-insn : (p : Program) (slot : ℕ) (i : Insn) → fetch p slot ≡ Some i
    → falls_through i ≡ true → fall_to p slot ≡ Some (slot + slots_filled i)
unfolding fall_to
fall_to-insn p slot i e h =
    ap (option_and_then (slot_behind slot)) e ∙ behind slot i (falls_through i) h

abbrev pub some_slot : ℕ → Option ℕ
some_slot n = Some n

-- it falls through to the slot after an instruction
pub fall_to-behind : (p : Program) (slot to : ℕ) → fall_to p slot ≡ Some to
    → (i : Insn) × (fetch p slot ≡ Some i) × (slot + slots_filled i ≡ to)
unfolding fall_to
fall_to-behind p slot to h = of (fetch p slot) h where
  of : (o : Option Insn) → option_and_then (slot_behind slot) o ≡ Some to
      → (i : Insn) × (o ≡ Some i) × (slot + slots_filled i ≡ to)
  of (Some i) e = (i, refl, (cond_some (falls_through i) (slot + slots_filled i) to e).1)
  of None e = absurd cc

-- an edge of the graph leads to each successor within the function
pub HasEdge-Follows : (p : Program) (slot next : ℕ) → Follows p slot next → HasEdge p slot next
HasEdge-Follows p slot next (i, e, inl (falls, at)) =
    Falls (fall_to-insn p slot i e falls ∙ ap some_slot (sym at))
HasEdge-Follows p slot next (i, e, inr (by, jump, at)) =
    Jumps (jump_to-insn p slot i by e jump ∙ ap some_slot (sym at))

-- no edge goes from a slot at which no instruction begins
from_none : (p : Program) (slot to : ℕ) → fetch p slot ≡ None → HasEdge p slot to → ⊥
unfolding jump_to call_to fall_to
from_none p slot to e (Falls h) =
    let none : fall_to p slot ≡ None = ap (option_and_then (slot_behind slot)) e in absurd cc
from_none p slot to e (Jumps h) =
    let none : jump_to p slot ≡ None =
    ap (λ (o : Option Insn). option_map (destination p slot) (option_and_then jump_distance o))
    e in absurd cc
from_none p slot to e (Calls h) =
    let none : call_to p slot ≡ None =
    ap (λ (o : Option Insn). option_map (destination p slot) (option_and_then call_distance o))
    e in absurd cc

-- it leads on from instructions only
pub HasEdge-insn : (p : Program) (slot to : ℕ) → HasEdge p slot to
    → (i : Insn) × (fetch p slot ≡ Some i)
HasEdge-insn p slot to h = of (fetch p slot) refl where
  of : (o : Option Insn) → fetch p slot ≡ o → (i : Insn) × (fetch p slot ≡ Some i)
  of (Some i) e = (i, e)
  of None e = absurd (from_none p slot to e h)

-- so it leads on from inside the code
pub HasEdge-inside : (p : Program) (slot to : ℕ) → HasEdge p slot to → slot < length p.insns
HasEdge-inside p slot to h =
    elim (cases_lt slot (length p.insns)) [
      | inl inside ↦ inside
      | inr past ↦
          absurd (from_none p slot to (ap option_flatten (slice_get_past p.insns slot past)) h)
    ]

-- ---- good control flow

-- wherever control goes an instruction begins
pub IsFlow-next : (p : Program) (slot to : ℕ) → IsFlow p → HasEdge p slot to → BeginsInsn p to
IsFlow-next p slot to flow (Falls h) = (flow.falls slot to h).0
IsFlow-next p slot to flow (Jumps h) = (flow.jumps slot to h).0
IsFlow-next p slot to flow (Calls h) = flow.calls slot to h

-- an instruction begins at each slot that follows one
pub IsFlow-Follows : (p : Program) (slot next : ℕ) → IsFlow p → Follows p slot next
    → BeginsInsn p next
IsFlow-Follows p slot next flow h = IsFlow-next p slot next flow (HasEdge-Follows p slot next h)

-- an instruction begins after each one that falls through
pub IsFlow-fall : (p : Program) (slot : ℕ) (i : Insn) → IsFlow p → fetch p slot ≡ Some i
    → falls_through i ≡ true → BeginsInsn p (slot + slots_filled i)
IsFlow-fall p slot i flow e h =
    (flow.falls slot (slot + slots_filled i) (fall_to-insn p slot i e h)).0

-- an instruction begins where a call leads
pub IsFlow-call : (p : Program) (slot : ℕ) (i : Insn) (by : ℤ) → IsFlow p → fetch p slot ≡ Some i
    → call_distance i ≡ Some by → BeginsInsn p (destination p slot by)
IsFlow-call p slot i by flow e d =
    flow.calls slot (destination p slot by) (call_to-insn p slot i by e d)

-- ---- the tests

abbrev LeadsOn : Program → ℕ → Type 0
LeadsOn p slot = (to : ℕ) × HasEdge p slot to

target-LeadsOn : (p : Program) (slot to : ℕ) → HasTarget p slot to → LeadsOn p slot
target-LeadsOn p slot to (inl h) = (to, Jumps h)
target-LeadsOn p slot to (inr h) = (to, Calls h)

-- they fail inside the code only
pub Fails-inside : (p : Program) (e : FlowError) (slot : ℕ) → Fails p e slot → slot < length p.insns
Fails-inside p TargetOutside slot (to, h, past) =
    let on = target-LeadsOn p slot to h in HasEdge-inside p slot on.0 on.1
Fails-inside p SecondHalf slot (to, h, half) =
    let on = target-LeadsOn p slot to h in HasEdge-inside p slot on.0 on.1
Fails-inside p OtherFunction slot (to, h, other) = HasEdge-inside p slot to (Jumps h)
Fails-inside p FallsOff slot (to, h, ends) = HasEdge-inside p slot to (Falls h)
Fails-inside p Unreachable slot (begins, unreached) = BeginsInsn-inside p slot begins
Fails-inside p Memory slot h = absurd h

IsFlow-target : (p : Program) (slot to : ℕ) → IsFlow p → HasTarget p slot to → BeginsInsn p to
IsFlow-target p slot to flow (inl h) = (flow.jumps slot to h).0
IsFlow-target p slot to flow (inr h) = flow.calls slot to h

IsFlow-EndsFunction : (p : Program) (slot to : ℕ) → slot < to → BeginsInsn p to
    → SameFunction p slot to → EndsFunction p to → ⊥
IsFlow-EndsFunction p slot to up begins same (inl past) =
    let inside = BeginsInsn-inside p to begins in absurd (omega arith)
IsFlow-EndsFunction p slot to up begins same (inr function) =
    let down : to ≤ slot = (same.none to function).1 (omega arith) in absurd (omega arith)

-- control falls through upwards
fall_to-up : (p : Program) (slot to : ℕ) → fall_to p slot ≡ Some to → slot < to
fall_to-up p slot to h =
    let found = fall_to-behind p slot to h in
    let wide = slots_filled-some found.0 in
    omega (arith, found.2)

-- none fails where control flow is good
pub IsFlow-Fails : (p : Program) (e : FlowError) (slot : ℕ) → IsFlow p → Fails p e slot → ⊥
IsFlow-Fails p TargetOutside slot flow (to, h, past) =
    let inside = BeginsInsn-inside p to (IsFlow-target p slot to flow h) in absurd (omega arith)
IsFlow-Fails p SecondHalf slot flow (to, h, half) =
    let some = (BeginsInsn-insn p to (IsFlow-target p slot to flow h)).1 in
    let none = half.1 in
    absurd cc
IsFlow-Fails p OtherFunction slot flow (to, h, other) = other (flow.jumps slot to h).1
IsFlow-Fails p FallsOff slot flow (to, h, ends) =
    IsFlow-EndsFunction p slot to (fall_to-up p slot to h) (flow.falls slot to h).0
    (flow.falls slot to h).1 ends
IsFlow-Fails p Unreachable slot flow (begins, unreached) = unreached (flow.reached slot begins)
IsFlow-Fails p Memory slot flow h = h

-- ---- the first test that fails

same_slot : (p : Program) (e : FlowError) (j k : ℕ) → IsFirst p e j → IsFirst p e k → j ≡ k
same_slot p e j k x y =
    elim (cases_order j k) [
      | inl same ↦ same
      | inr (inl below) ↦ absurd (y.lowest j below x.fails)
      | inr (inr above) ↦ absurd (x.lowest k above y.fails)
    ]
