-- When a program is refused only for memory and for its steps.
use Rattle.walks.proofs.Common.{◌≡◌, ◌≤◌, ◌+◌, ◌∷◌, [], ℕ, zero, suc, Some, None, Option, Bool, true, false, List, arith, refl, sym, subst, inl, inr, ◌⊎◌, ◌≢◌, ◌↔◌, ℤ, if◌then◌else◌, option_map, option_and_then, Reg, R10, Insn, CallLocal, Exit, Program, fetch, slots_filled, reads, writes, destination, falls_through, jump_distance, Kind, Number, Scalar, State, kind_of, IsNumberKind, slot_behind, call_distance, BeginsInsn, jump_to, call_to, fall_to, ReachedIn, IsFlow, HasEdge-Follows, IsFlow-Fails, Flow, Step, Repeats, TooLong, Memory, IsStuck, ComesBack, StartTakes, IsRefused, IsOutOfMemory, Exact, Coarse, IsPlainForm, Each, IsOneOf, needs, PathTo, IsWhole, is_frame_pointer-other}
use Rattle.std.specs.List.{list_any}
use Rattle.control_flow.specs.declared.errors.FlowError.{FlowError}
use Rattle.control_flow.specs.declared.errors.FlowError.TheVariants as error
use Rattle.control_flow.specs.Functions.{BeginsFunction, SameFunction}
use Rattle.control_flow.specs.Flows as flow
use Rattle.transfer.specs.declared.refusals.Refusal.{Refusal as StepRefusal}
use Rattle.transfer.specs.Refusing.{is_unset, is_unset_in, register_refusal, reads_unset}
use Rattle.walks.specs.declared.refusals.Refusal.{Refusal}
use Rattle.walks.proofs.PrecisionLaws.{IsStuck-as, ComesBack-as}

-- ---- control flow

pub record Jumped (p : Program) (slot to : ℕ) : Type 0 where
  pub insn : Insn
  pub by : ℤ
  pub here : fetch p slot ≡ Some insn
  pub distance : jump_distance insn ≡ Some by
  pub at : destination p slot by ≡ to

pub jump_to-by : (p : Program) (slot to : ℕ) → jump_to p slot ≡ Some to → Jumped p slot to
unfolding jump_to
jump_to-by p slot to h = of (fetch p slot) refl h where
  far : (i : Insn) (d : Option ℤ) → fetch p slot ≡ Some i → jump_distance i ≡ d
      → option_map (destination p slot) d ≡ Some to → Jumped p slot to
  far i None here is e = absurd (cc)
  far i (Some by) here is e = record { insn = i; by = by; here = here; distance = is; at = cc }

  of : (o : Option Insn) → fetch p slot ≡ o
      → option_map (destination p slot) (option_and_then jump_distance o) ≡ Some to
      → Jumped p slot to
  of None here e = absurd (cc)
  of (Some i) here e = far i (jump_distance i) here refl e

pub record Fallen (p : Program) (slot to : ℕ) : Type 0 where
  pub insn : Insn
  pub here : fetch p slot ≡ Some insn
  pub falls : falls_through insn ≡ true
  pub at : slot + slots_filled insn ≡ to

fall_to-by : (p : Program) (slot to : ℕ) → fall_to p slot ≡ Some to → Fallen p slot to
unfolding fall_to
fall_to-by p slot to h = of (fetch p slot) refl h where
  far : (i : Insn) (b : Bool) → fetch p slot ≡ Some i → falls_through i ≡ b
      → (if b then Some (slot + slots_filled i) else None) ≡ Some to → Fallen p slot to
  far i true here is e = record { insn = i; here = here; falls = is; at = cc }
  far i false here is e = absurd (cc)

  of : (o : Option Insn) → fetch p slot ≡ o → option_and_then (slot_behind slot) o ≡ Some to
      → Fallen p slot to
  of None here e = absurd (cc)
  of (Some i) here e = far i (falls_through i) here refl e

-- nothing calls a function
abbrev pub HasNoCalls : Program → Type 0
HasNoCalls p = (slot : ℕ) (i : Insn) → fetch p slot ≡ Some i → call_distance i ≡ None

pub no_call : (i : Insn) → IsPlainForm i → call_distance i ≡ None
no_call (CallLocal by) plain = absurd plain
no_call i plain = refl

call_to-none : (p : Program) (slot to : ℕ) → HasNoCalls p → call_to p slot ≡ Some to → ⊥
unfolding call_to
call_to-none p slot to no_calls h = of (fetch p slot) refl h where
  of : (o : Option Insn) → fetch p slot ≡ o
      → option_map (destination p slot) (option_and_then call_distance o) ≡ Some to → ⊥
  of None here e = absurd (cc)
  of (Some i) here e =
      let none = no_calls slot i here in
      let e' : option_map (destination p slot) None ≡ Some to =
      subst (λ (d : Option ℤ). option_map (destination p slot) d ≡ Some to) none e in
      absurd (cc)

-- without calls there is one function
one_function : (p : Program) (slot to : ℕ) → HasNoCalls p → SameFunction p slot to
one_function p slot to no_calls = record { none = λ f begins. of f begins } where
  of : (f : ℕ) → BeginsFunction p f → (f ≤ slot) ↔ (f ≤ to)
  of f (inl is) = (λ h. omega (arith, is), λ h. omega (arith, is))
  of f (inr (from, called)) = absurd (call_to-none p from f no_calls called)

PathTo-reached : (p : Program) (n slot : ℕ) (written : List Reg) → PathTo p n slot written
    → ReachedIn p n slot
unfolding PathTo
PathTo-reached p zero slot written h = h.0
PathTo-reached p (suc n) slot written h =
    (h.0, PathTo-reached p n h.0 h.1 h.3, HasEdge-Follows p h.0 slot (h.2, h.4, h.5))

pub IsFlow-whole : (p : Program) → IsWhole p → HasNoCalls p → IsFlow p
IsFlow-whole p whole no_calls = record {
  jumps = λ slot to h.
      let j = jump_to-by p slot to h in (
        subst (BeginsInsn p) j.at (whole.jumps slot j.insn j.by j.here j.distance),
        one_function p slot to no_calls,
      );
  calls = λ slot to h. absurd (call_to-none p slot to no_calls h);
  falls = λ slot to h.
      let f = fall_to-by p slot to h in (
        subst (BeginsInsn p) f.at (whole.falls slot f.insn f.here f.falls),
        one_function p slot to no_calls,
      );
  reached =
      λ slot begins. let path = whole.reached slot begins in
      (path.0, PathTo-reached p path.0 slot path.1 path.2);
}

-- ---- refusals

pub Flow-out_of_memory : (p : Program) (e : FlowError) (slot : ℕ) → IsFlow p
    → flow.IsRefusal p e slot → IsOutOfMemory (Flow e)
Flow-out_of_memory p error.Memory slot good h = tt
Flow-out_of_memory p e slot good h = absurd (IsFlow-Fails p e slot good h.fails)

-- the program is refused only for memory, and for what its steps may be refused for
pub IsRefused-want : (p : Program) (e : Refusal) (slot : ℕ) (Rest : Refusal → Type 0) → IsFlow p
    → ((e : StepRefusal) (slot : ℕ) → IsStuck Coarse p e slot → Rest (Step e))
    → ((slot : ℕ) → ComesBack Coarse p slot → ⊥) → (StartTakes p 1000001 → ⊥) → IsRefused p e slot
    → IsOutOfMemory e ⊎ Rest e
IsRefused-want p (Flow e) slot Rest good stuck back long h =
    inl (Flow-out_of_memory p e slot good h)
IsRefused-want p (Step e) slot Rest good stuck back long h = inr
    (stuck e slot (IsStuck-as Coarse Exact p e slot tt h.1))
IsRefused-want p Repeats slot Rest good stuck back long h = absurd
    (back slot (ComesBack-as Coarse Exact p slot tt h.1))
IsRefused-want p TooLong slot Rest good stuck back long h = absurd (long h.1.1)
IsRefused-want p Memory slot Rest good stuck back long h = inl tt

-- ---- the tests of registers

pub number_is : (k : Kind) → IsNumberKind k → (c : Scalar) × (k ≡ Number c)
number_is (Number c) h = (c, refl)
number_is k h = absurd h

pub Each-more : (P Q : Reg → Type 0) (rs : List Reg) → ((r : Reg) → P r → Q r) → Each P rs
    → Each Q rs
Each-more P Q [] h each = tt
Each-more P Q (r ∷ rs) h each = (h r each.0, Each-more P Q rs h each.1)

pub Each-all : (P : Reg → Type 0) (rs : List Reg) → ((r : Reg) → IsOneOf rs r → P r) → Each P rs
Each-all P [] h = tt
Each-all P (r ∷ rs) h = (h r (inl refl), Each-all P rs (λ q among. h q (inr among)))

pub Each-one : (P : Reg → Type 0) (rs : List Reg) (r : Reg) → Each P rs → IsOneOf rs r → P r
Each-one P [] r each among = absurd among
Each-one P (q ∷ rs) r each (inl same) = subst P (sym same) each.0
Each-one P (q ∷ rs) r each (inr rest) = Each-one P rs r each.1 rest

pub needs_reads : (P : Reg → Type 0) (i : Insn) → Each P (needs i) → Each P (reads i)
needs_reads P Exit h = tt
needs_reads P i h = h

pub number_set : (k : Kind) → IsNumberKind k → is_unset k ≡ false
number_set (Number c) h = refl
number_set k h = absurd h

all_set : (s : State) (rs : List Reg) → Each (λ r. is_unset (kind_of s r) ≡ false) rs
    → list_any (is_unset_in s) rs ≡ false
all_set s [] h = refl
all_set s (r ∷ rs) h =
    let first = h.0 in
    let rest = all_set s rs h.1 in
    rw (first, rest) refl

-- where all registers that are read are set, and r10 is not written, the tests of the registers
-- pass
pub sets_pass : (s : State) (i : Insn) → Each (λ r. is_unset (kind_of s r) ≡ false) (reads i)
    → writes i ≢ Some R10 → register_refusal s i ≡ None
sets_pass s i set own =
    let known : reads_unset s i ≡ false = all_set s (reads i) set in
    let free = is_frame_pointer-other (writes i) own in
    rw (known, free) refl

pub tests_pass : (s : State) (i : Insn) → Each (λ r. IsNumberKind (kind_of s r)) (reads i)
    → writes i ≢ Some R10 → register_refusal s i ≡ None
tests_pass s i numbers own =
    sets_pass s i
    (Each-more (λ r. IsNumberKind (kind_of s r)) (λ r. is_unset (kind_of s r) ≡ false) (reads i)
    (λ r h. number_set (kind_of s r) h) numbers) own
