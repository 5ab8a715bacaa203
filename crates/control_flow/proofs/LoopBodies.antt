-- What the search for the body of a loop keeps: it stays inside the code.
use Rattle.control_flow.proofs.Common.{◌≡◌, ℕ, ◌<◌, Bool, List, [], ◌∷◌, ◌++◌, length, sym, ◌∙◌, subst, arith, inl, inr, Contains, Contains-append_left, Node, Extends}
use Rattle.control_flow.proofs.MarkLemmas.{IsMarked-inside}
use Rattle.control_flow.proofs.SlotSearch.{on_top}

-- each slot of the frontier is one of the code
pub record IsInside (nodes : List Node) (found : List Bool) (frontier : List ℕ) : Type 0 where
  pub same : length found ≡ length nodes
  pub inside : (k : ℕ) → Contains frontier k → k < length nodes

pub IsInside-extended : (Wanted : ℕ → Type 0) (nodes : List Node) (f : List Bool) (s : List ℕ)
    (g : List Bool) (t : List ℕ)
    → Extends Wanted f s g t → IsInside nodes f s → IsInside nodes g t
IsInside-extended Wanted nodes f s g t e is = record {
  same = e.same ∙ is.same;
  inside = λ k h. elim (e.adds k h) [
    | inl old ↦ is.inside k old
    | inr marked ↦
        let low = IsMarked-inside g k marked in
        omega (arith, low, e.same, is.same)
  ];
}

-- without the slot on top
pub IsInside-rest : (nodes : List Node) (slot : ℕ) (f : List Bool) (s rest : List ℕ)
    → s ≡ rest ++ slot ∷ [] → IsInside nodes f s → IsInside nodes f rest
IsInside-rest nodes slot f s rest popped is = record {
  same = is.same;
  inside = λ k h.
      is.inside k
      (subst (λ (l : List ℕ). Contains l k) (sym popped)
      (Contains-append_left rest (slot ∷ []) k h));
}

pub IsInside-top : (nodes : List Node) (slot : ℕ) (f : List Bool) (s rest : List ℕ)
    → s ≡ rest ++ slot ∷ [] → IsInside nodes f s → slot < length nodes
IsInside-top nodes slot f s rest popped is = is.inside slot (on_top slot s rest popped)
