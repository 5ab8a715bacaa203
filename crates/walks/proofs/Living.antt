-- Registers that are live along a walk of a program that calls nothing.
use Rattle.walks.proofs.Common.{◌≡◌, ◌≢◌, ◌∷◌, [], ℕ, Some, None, Option, List, refl, sym, ap, ◌∙◌, subst, inl, inr, ◌⊎◌, option_to_list, Reg, R10, Insn, CallHelper, CallLocal, Exit, Program, fetch, reads, writes, Follows, IsPlainForm, IsOneOf, needs, written_too, IsOneOf-option, State, same_or_other, call_distance, IsLive, IsLive-read, IsLive-back, Coarse, Forgets}
use Rattle.control_flow.specs.Accesses.{read_registers, written_registers}
use Rattle.walks.proofs.Forgotten.{Forgets-depth, Forgets-number}
use Rattle.walks.proofs.OnNumbers.{NumbersIn}
use Rattle.walks.proofs.KnowsNumbers.{KnowsNumbers}

-- ---- instructions that call nothing

abbrev pub CallsNothing : Insn → Type 0
CallsNothing (CallHelper number) = ⊥
CallsNothing (CallLocal by) = ⊥
CallsNothing i = Unit {0}

pub plain_calls : (i : Insn) → IsPlainForm i → CallsNothing i
plain_calls (CallHelper number) plain = absurd plain
plain_calls (CallLocal by) plain = absurd plain
plain_calls i plain = tt

pub none_called : (i : Insn) → CallsNothing i → call_distance i ≡ None
none_called (CallHelper number) none = absurd none
none_called (CallLocal by) none = absurd none
none_called i none = refl

-- they read what they need
needs_read : (i : Insn) → CallsNothing i → read_registers i ≡ needs i
needs_read (CallHelper number) none = absurd none
needs_read (CallLocal by) none = absurd none
needs_read i none = refl

pub read_needed : (i : Insn) → CallsNothing i → (r : Reg) → IsOneOf (reads i) r
    → IsOneOf (read_registers i) r
read_needed (CallHelper number) none r among = absurd none
read_needed (CallLocal by) none r among = absurd none
read_needed Exit none r among = absurd among
read_needed i none r among = among

-- and write the one register of their form, if it has one
one_written : (i : Insn) → CallsNothing i → written_registers i ≡ option_to_list (writes i)
one_written (CallHelper number) none = absurd none
one_written (CallLocal by) none = absurd none
one_written i none = refl

-- what an instruction that calls nothing needs is live there
pub needs_live : (p : Program) (slot : ℕ) (i : Insn) (r : Reg) → fetch p slot ≡ Some i
    → CallsNothing i → IsOneOf (needs i) r → IsLive p r slot
needs_live p slot i r here none among =
    IsLive-read p r slot i here
    (subst (λ (rs : List Reg). IsOneOf rs r) (sym (needs_read i none)) among)

written_or_not : (o : Option Reg) (r : Reg) → (o ≡ Some r) ⊎ (o ≢ Some r)
written_or_not None r = inr (λ e. absurd (cc e))
written_or_not (Some d) r =
    elim (same_or_other d r) [ inl same ↦ inl (ap Some same) | inr other ↦ inr (λ e. other (cc e)) ]

-- what is live after an instruction that calls nothing was written by it, or is live before it
pub live_before : (p : Program) (slot next : ℕ) (i : Insn) (r : Reg) → fetch p slot ≡ Some i
    → CallsNothing i → Follows p slot next → IsLive p r next → (writes i ≡ Some r) ⊎ IsLive p r slot
live_before p slot next i r here none follows live = elim (written_or_not (writes i) r) [
  | inl written ↦ inl written
  | inr other ↦
      inr (IsLive-back p r slot next i here
      (λ among.
      other (IsOneOf-option (writes i) r
      (subst (λ (rs : List Reg). IsOneOf rs r) (one_written i none) among))) follows live)
]

-- ---- numbers in live registers

-- of the registers that hold numbers these still do, maybe any number
pub record Remaining (p : Program) (a b : State) (known : List Reg) : Type 0 where
  pub left : List Reg
  pub numbers : (r : Reg) → IsOneOf left r → NumbersIn b r
  pub live : (r : Reg) → IsLive p r a.slot → IsOneOf known r → IsOneOf left r
  pub none : known ≡ [] → left ≡ []

one_dropped : (p : Program) (a b : State) (q : Reg) (known : List Reg) → (IsLive p q a.slot → ⊥)
    → Remaining p a b known → Remaining p a b (q ∷ known)
one_dropped p a b q known dead rest = record {
  left = rest.left;
  numbers = rest.numbers;
  live =
      λ r live among.
      elim among [
        | inl same ↦ absurd (dead (subst (λ (x : Reg). IsLive p x a.slot) same live))
        | inr among ↦ rest.live r live among
      ];
  none = λ e. absurd (cc e);
}

one_kept : (p : Program) (a b : State) (q : Reg) (known : List Reg) → NumbersIn b q
    → Remaining p a b known → Remaining p a b (q ∷ known)
one_kept p a b q known number rest = record {
  left = q ∷ rest.left;
  numbers =
      λ r among.
      elim among
      [ inl same ↦ subst (NumbersIn b) (sym same) number | inr among ↦ rest.numbers r among ];
  live =
      λ r live among. elim among [ inl same ↦ inl same | inr among ↦ inr (rest.live r live among) ];
  none = λ e. absurd (cc e);
}

remaining : (p : Program) (a b : State) (known : List Reg) → Forgets Coarse p a b
    → ((r : Reg) → IsOneOf known r → NumbersIn a r) → Remaining p a b known
remaining p a b [] f numbers =
    record {
      left = [];
      numbers = λ r among. absurd among;
      live = λ r live among. absurd among;
      none = λ e. refl;
    }
remaining p a b (q ∷ known) f numbers =
    let rest = remaining p a b known f (λ r among. numbers r (inr among)) in
    let own : NumbersIn a q = numbers q (inl refl) in
    elim (same_or_other q R10) [
      | inl last ↦ let wrong : NumbersIn a R10 = subst (NumbersIn a) last own in absurd wrong
      | inr apart ↦ elim (Forgets-number p a b q f apart own) [
        | inl dead ↦ one_dropped p a b q known dead.1 rest
        | inr number ↦ one_kept p a b q known number rest
      ]
    ]

-- what is known once dead registers and some numbers are forgotten
pub record KnowsLeft (p : Program) (a b : State) (known : List Reg) : Type 0 where
  pub left : List Reg
  pub knows : KnowsNumbers b left
  pub live : (r : Reg) → IsLive p r a.slot → IsOneOf known r → IsOneOf left r
  pub none : known ≡ [] → left ≡ []

pub KnowsNumbers-forgets : (p : Program) (a b : State) (known : List Reg) → Forgets Coarse p a b
    → KnowsNumbers a known → KnowsLeft p a b known
KnowsNumbers-forgets p a b known f h =
    let rest = remaining p a b known f h.numbers in record {
      left = rest.left;
      knows =
          record {
            one = Forgets-depth p a b f ∙ h.one;
            room = f.numbers.registers.ten;
            numbers = rest.numbers;
          };
      live = rest.live;
      none = rest.none;
    }

-- a register that an instruction writes, or that was known before if it was written, is known
-- after it if it is written
pub known_further : (o : Option Reg) (written known : List Reg) (r : Reg)
    → (o ≡ Some r) ⊎ (IsOneOf written r → IsOneOf known r)
    → IsOneOf (written_too o written) r → IsOneOf (written_too o known) r
known_further None written known r (inl e) among = absurd (cc e)
known_further None written known r (inr h) among = h among
known_further (Some d) written known r (inl e) among = inl (sym (cc e))
known_further (Some d) written known r (inr h) (inl same) = inl same
known_further (Some d) written known r (inr h) (inr rest) = inr (h rest)
