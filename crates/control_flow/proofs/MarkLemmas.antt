-- Marks that a loop over the slots sets at the targets that it finds.
use Rattle.control_flow.proofs.Common.{◌≡◌, ℕ, ◌+◌, ◌<◌, ◌≤◌, Bool, true, false, List, length, get_or, set, replicate, Option, Some, None, refl, sym, ap, ◌∙◌, subst, arith, inl, inr, ◌⊎◌, cases_lt, cases_eq, same_Some, get_or_from_slice_get, slice_get_read, get_or-set_same, get_or-set_other, length-set, length-replicate, get_or-replicate, get_or_past, Program, jump_to, Jumps, IsMarked, MarksJoins}
use Rattle.control_flow.proofs.FlowLaws.{HasEdge-inside}

-- the slots that are marked: those of the start, and the targets from the slots below n
abbrev pub AreTargetsMarked : (ℕ → Type 0) → (ℕ → Option ℕ) → ℕ → ℕ → Type 0
AreTargetsMarked Start target n k = Start k ⊎ ((slot : ℕ) × (slot < n) × (target slot ≡ Some k))

pub record MarksBelow (Start : ℕ → Type 0) (target : ℕ → Option ℕ) (size n : ℕ)
    (marks : List Bool) : Type 0 where
  pub same : length marks ≡ size
  pub found : (k : ℕ) → IsMarked marks k → AreTargetsMarked Start target n k
  pub marked : (k : ℕ) → AreTargetsMarked Start target n k → IsMarked marks k

-- what was read of a list
pub read_at : {X : Type 0} (marks : List X) (k : ℕ) (x d : X) → k < length marks
    → x ≡ get_or marks k x → get_or marks k d ≡ x
read_at marks k x d inside e =
    get_or_from_slice_get marks k x d (slice_get_read marks (length marks) k x refl inside e)

-- marks are inside the list
pub IsMarked-inside : (marks : List Bool) (k : ℕ) → IsMarked marks k → k < length marks
IsMarked-inside marks k h =
    elim (cases_lt k (length marks)) [
      | inl inside ↦ inside
      | inr past ↦
          let e : get_or marks k false ≡ false = get_or_past marks k false past in absurd cc
    ]

-- after a slot is marked, the marked slots are that one and those that were marked before
pub IsMarked-set : (marks : List Bool) (to k : ℕ) → to < length marks
    → IsMarked (set marks to true) k → IsMarked marks k ⊎ (to ≡ k)
IsMarked-set marks to k inside h =
    elim (cases_eq k to) [
      | inl e ↦ inr (sym e)
      | inr other ↦ inl (sym (get_or-set_other marks to k true false other) ∙ h)
    ]

pub set-IsMarked : (marks : List Bool) (to k : ℕ) → to < length marks → IsMarked marks k
    → IsMarked (set marks to true) k
set-IsMarked marks to k inside h =
    elim (cases_eq k to) [
      | inl e ↦
          ap (λ (i : ℕ). get_or (set marks to true) i false) e
          ∙ get_or-set_same marks to true false inside
      | inr other ↦ get_or-set_other marks to k true false other ∙ h
    ]

pub set-IsMarked_here : (marks : List Bool) (to : ℕ) → to < length marks
    → IsMarked (set marks to true) to
set-IsMarked_here marks to inside = get_or-set_same marks to true false inside

-- nothing is marked in a new list
pub new-IsMarked : (n k : ℕ) → IsMarked (replicate n false) k → ⊥
new-IsMarked n k h =
    elim (cases_lt k n) [
      | inl inside ↦
          let e : get_or (replicate n false) k false ≡ false =
          get_or-replicate n k false false inside in absurd cc
      | inr past ↦
          let e : get_or (replicate n false) k false ≡ false =
          get_or_past (replicate n false) k false (omega (arith, length-replicate n false)) in
          absurd cc
    ]

-- the next slot leads nowhere
pub marks_more_none : (Start : ℕ → Type 0) (target : ℕ → Option ℕ) (size n : ℕ) (marks : List Bool)
    → None ≡ target n → MarksBelow Start target size n marks
    → MarksBelow Start target size (n + 1) marks
marks_more_none Start target size n marks none m = record {
  same = m.same;
  found =
      λ k h. elim (m.found k h)
      [ inl start ↦ inl start | inr w ↦ inr (w.0, omega (arith, w.1), w.2) ];
  marked = λ k h. elim h [
    | inl start ↦ m.marked k (inl start)
    | inr w ↦ elim (cases_eq w.0 n) [
      | inl e ↦
          let some : target n ≡ Some k = subst (λ (i : ℕ). target i ≡ Some k) e w.2 in absurd cc
      | inr other ↦ m.marked k (inr (w.0, (let low = w.1 in omega arith), w.2))
    ]
  ];
}

-- the next slot leads to one that is marked now
pub marks_more_some : (Start : ℕ → Type 0) (target : ℕ → Option ℕ) (size n to : ℕ)
    (marks : List Bool) → Some to ≡ target n → to < size → MarksBelow Start target size n marks
    → MarksBelow Start target size (n + 1) (set marks to true)
marks_more_some Start target size n to marks some inside m =
    let lt : to < length marks = omega (arith, m.same) in record {
      same = length-set marks to true ∙ m.same;
      found = λ k h. elim (IsMarked-set marks to k lt h) [
        | inl old ↦
            elim (m.found k old)
            [ inl start ↦ inl start | inr w ↦ inr (w.0, omega (arith, w.1), w.2) ]
        | inr e ↦ inr (n, omega arith, subst (λ (i : ℕ). target n ≡ Some i) e (sym some))
      ];
      marked = λ k h. elim h [
        | inl start ↦ set-IsMarked marks to k lt (m.marked k (inl start))
        | inr w ↦ elim (cases_eq w.0 n) [
          | inl e ↦
              let here : to ≡ k =
              same_Some to k (some ∙ subst (λ (i : ℕ). target i ≡ Some k) e w.2) in
              subst (λ (i : ℕ). IsMarked (set marks to true) i) here (set-IsMarked_here marks to lt)
          | inr other ↦
              set-IsMarked marks to k lt
              (m.marked k (inr (w.0, (let low = w.1 in omega arith), w.2)))
        ]
      ];
    }

-- the targets of jumps
pub MarksJoins-below : (p : Program) (marks : List Bool) (n : ℕ) → length p.insns ≤ n
    → MarksBelow (λ k. ⊥) (jump_to p) (length p.insns) n marks → MarksJoins p marks
MarksJoins-below p marks n all m = λ slot. (
  λ h. elim (m.found slot h) [ inl no_start ↦ absurd no_start | inr w ↦ (w.0, w.2) ],
  λ (from, e).
      m.marked slot
      (inr (from, (let low = HasEdge-inside p from slot (Jumps e) in omega arith), e)),
)
