-- What a loop from the last slot to the first marks: the slots from which only plain code follows.
use Rattle.control_flow.proofs.Common.{◌≡◌, ℕ, ◌+◌, ◌<◌, ◌≤◌, Bool, true, false, not, nat_lt, List, length, replicate, Option, Some, None, sym, ◌∙◌, subst, arith, inl, inr, ◌↔◌, ◌≢◌, IsTrue, not-true, not_from_false, ltb-true, lt-ltb, same_Some, length-replicate, Reg, R10, Insn, Program, fetch, writes, is_frame_pointer, IsPlainForm, is_frame_pointer-other, fall_to, jump_to, GoesTo, IsMarked}
use Rattle.isa_model.specs.declared.versions.Version.TheVariants.{One}
use Rattle.control_flow.specs.Endings.{EndsPlainly, Ends}
use Rattle.control_flow.proofs.FlowLaws.{BeginsInsn-inside, fetch-BeginsInsn}
use Rattle.control_flow.proofs.MarkLemmas.{new-IsMarked}

-- ---- one slot

-- the marks of the slots after a slot are right
abbrev pub IsRightAfter : Program → List Bool → ℕ → Type 0
IsRightAfter p marks slot = (k : ℕ) → slot < k → IsMarked marks k ↔ EndsPlainly p k

-- a successor, if there is one, comes later and is marked
abbrev pub GoesOnPlainly : List Bool → ℕ → Option ℕ → Type 0
GoesOnPlainly marks slot to = (next : ℕ) → to ≡ Some next → (slot < next) × IsMarked marks next

-- a slot that is marked comes later or does not
pub on_marked : (marks : List Bool) (slot to : ℕ) (o : Option ℕ) (b : Bool) → o ≡ Some to
    → b ≡ true → IsTrue b ↔ IsMarked marks to
    → IsTrue (nat_lt slot to) ↔ GoesOnPlainly marks slot o
on_marked marks slot to o b is so test = (
  λ h next e.
      let same : to ≡ next = same_Some to next (sym is ∙ e) in
      subst (λ (k : ℕ). (slot < k) × IsMarked marks k) same (ltb-true slot to h, test.0 so),
  λ on. lt-ltb slot to (on to is).0,
)

pub on_unmarked : (marks : List Bool) (slot to : ℕ) (o : Option ℕ) (b : Bool) → o ≡ Some to
    → b ≡ false → IsTrue b ↔ IsMarked marks to → IsTrue b ↔ GoesOnPlainly marks slot o
on_unmarked marks slot to o b is fails test = (λ h. absurd cc, λ on. test.1 (on to is).1)

-- all successors do
abbrev pub LeadsOnPlainly : Program → List Bool → ℕ → Type 0
LeadsOnPlainly p marks slot =
    (next : ℕ) → GoesTo p slot next → (slot < next) × IsMarked marks next

-- where it falls through it does, and where it jumps
pub both_on : (p : Program) (marks : List Bool) (slot : ℕ) (falls jumps : Bool) (o q : Option ℕ)
    → falls ≡ true → o ≡ fall_to p slot → IsTrue falls ↔ GoesOnPlainly marks slot o
    → q ≡ jump_to p slot → IsTrue jumps ↔ GoesOnPlainly marks slot q
    → IsTrue jumps ↔ LeadsOnPlainly p marks slot
both_on p marks slot falls jumps o q so x a y b =
    (λ h next goes. on h next goes, λ all. b.1 (λ next e. all next (inr (sym y ∙ e)))) where
      on : IsTrue jumps → (next : ℕ) → GoesTo p slot next → (slot < next) × IsMarked marks next
      on h next (inl e) = a.0 so next (x ∙ e)
      on h next (inr e) = b.0 h next (y ∙ e)

pub not_on : (p : Program) (marks : List Bool) (slot : ℕ) (falls : Bool) (o : Option ℕ)
    → falls ≡ false → o ≡ fall_to p slot → IsTrue falls ↔ GoesOnPlainly marks slot o
    → IsTrue falls ↔ LeadsOnPlainly p marks slot
not_on p marks slot falls o fails x a = (
  λ h. absurd cc,
  λ all. a.1 (λ next e. all next (inl (sym x ∙ e))),
)

-- ---- its instruction

-- the instruction is plain and does not write r10
abbrev pub IsPlainStep : Insn → Type 0
IsPlainStep i = IsPlainForm i × (writes i ≢ Some R10)

keeps_frame : (o : Option Reg) → is_frame_pointer o ≡ false → o ≢ Some R10
keeps_frame (Some R10) e h = absurd cc
keeps_frame (Some r) e h = absurd cc
keeps_frame None e h = absurd cc

pub plain_step : (i : Insn) (form frame : Bool) → form ≡ true → IsTrue form ↔ IsPlainForm i
    → frame ≡ is_frame_pointer (writes i) → IsTrue (not frame) ↔ IsPlainStep i
plain_step i form frame so f w = (
  λ h. (f.0 so, keeps_frame (writes i) (sym w ∙ not-true frame h)),
  λ step. not_from_false frame (w ∙ is_frame_pointer-other (writes i) step.1),
)

pub other_step : (i : Insn) (form : Bool) → form ≡ false → IsTrue form ↔ IsPlainForm i
    → IsTrue form ↔ IsPlainStep i
other_step i form fails f = (λ h. absurd cc, λ step. f.1 step.0)

-- ---- both

ends_step : (p : Program) (marks : List Bool) (slot : ℕ) (i : Insn) → fetch p slot ≡ Some i
    → IsRightAfter p marks slot → EndsPlainly p slot → IsPlainStep i × LeadsOnPlainly p marks slot
ends_step p marks slot i here right (Ends _ j one there form keeps later on) =
    let same : j ≡ i = same_Some j i (sym there ∙ here) in (
      subst IsPlainStep same (form, keeps),
      λ next goes. (
        later next goes,
        (right next (later next goes)).1 (on next goes),
      ),
    )

pub plain_ends : (p : Program) (marks : List Bool) (slot : ℕ) (i : Insn) (step leads : Bool)
    → step ≡ true → p.version ≡ One → fetch p slot ≡ Some i → IsRightAfter p marks slot
    → IsTrue step ↔ IsPlainStep i → IsTrue leads ↔ LeadsOnPlainly p marks slot
    → IsTrue leads ↔ EndsPlainly p slot
plain_ends p marks slot i step leads so one here right f g = (
  λ h.
      let (form, keeps) = f.0 so in
      let on = g.0 h in
      Ends slot i one here form keeps (λ next goes. (on next goes).0)
      (λ next goes. (right next (on next goes).0).0 (on next goes).1),
  λ e. g.1 (ends_step p marks slot i here right e).1,
)

pub other_ends : (p : Program) (marks : List Bool) (slot : ℕ) (i : Insn) (step : Bool)
    → step ≡ false → fetch p slot ≡ Some i → IsRightAfter p marks slot
    → IsTrue step ↔ IsPlainStep i → IsTrue step ↔ EndsPlainly p slot
other_ends p marks slot i step fails here right f = (
  λ h. absurd cc,
  λ e. f.1 (ends_step p marks slot i here right e).0,
)

end_inside : (p : Program) (slot : ℕ) → EndsPlainly p slot → slot < length p.insns
end_inside p slot (Ends _ i one here form keeps later on) =
    BeginsInsn-inside p slot (fetch-BeginsInsn p slot i here)

-- ---- all slots

-- the marks of the last slots of the code are right, and of all slots after it
pub record MarksLast (p : Program) (count : ℕ) (marks : List Bool) : Type 0 where
  pub same : length marks ≡ length p.insns
  pub right : (k : ℕ) → length p.insns ≤ k + count → IsMarked marks k ↔ EndsPlainly p k

pub last_none : (p : Program) (n : ℕ) → n ≡ length p.insns → MarksLast p 0 (replicate n false)
last_none p n is = record {
  same = length-replicate n false ∙ is;
  right = λ k past. (
    λ h. absurd (new-IsMarked n k h),
    λ e. let inside = end_inside p k e in absurd (omega arith),
  );
}
