-- Searches for slots: what the finding of a slot changes, and what the loop of a search keeps.
use Rattle.control_flow.proofs.Common.{◌≡◌, ℕ, zero, suc, ◌+◌, ◌<◌, Bool, true, false, not, cond, List, [], ◌∷◌, ◌++◌, length, get_or, set, replicate, Option, Some, refl, sym, ap, ◌∙◌, subst, arith, inl, inr, ◌↔◌, ◌⊎◌, count_by, sum_by, Contains, cases_eq, same_Some, length-set, length-append, length-replicate, sum_by-set, Contains-append_left, Contains-append_right, Contains-append_cases, Program, HasEdge, Falls, Jumps, Calls, ReachedIn, Reached, fall_to, jump_to, call_to, IsMarked, Extends}
use Rattle.control_flow.proofs.MarkLemmas.{IsMarked-inside, IsMarked-set, set-IsMarked, set-IsMarked_here, new-IsMarked}

-- ---- elements

-- one element
pub Contains-one : (x y : ℕ) → Contains (x ∷ []) y → x ≡ y
Contains-one x y (zero, lt, e) = e
Contains-one x y (suc k, lt, e) = absurd (omega (arith, lt))

pub one-Contains : (x : ℕ) → Contains (x ∷ []) x
one-Contains x = (0, omega arith, refl)

pub no-Contains : (y : ℕ) → Contains [] y → ⊥
no-Contains y (k, lt, e) = omega (arith, lt)

-- the numbers below n, each once
pub record AreBelow (n : ℕ) (frontier : List ℕ) : Type 0 where
  pub as_many : length frontier ≡ n
  pub each : (k : ℕ) → k < n → Contains frontier k
  pub only : (k : ℕ) → Contains frontier k → k < n

pub below_more : (n : ℕ) (frontier : List ℕ) → AreBelow n frontier
    → AreBelow (n + 1) (frontier ++ n ∷ [])
below_more n frontier m = record {
  as_many = omega (arith, length-append frontier (n ∷ []), m.as_many);
  each = λ k low. elim (cases_eq k n) [
    | inl e ↦
        Contains-append_right frontier (n ∷ []) k
        (subst (λ (i : ℕ). Contains (n ∷ []) i) (sym e) (one-Contains n))
    | inr apart ↦ Contains-append_left frontier (n ∷ []) k (m.each k (omega arith))
  ];
  only = λ k h. elim (Contains-append_cases frontier (n ∷ []) k h) [
    | inl old ↦ let low = m.only k old in omega (arith, low)
    | inr one ↦ let same = Contains-one n k one in omega (arith, same)
  ];
}

-- ---- what finding does

-- once a slot is found, one slot fewer is not found
count-set : (found : List Bool) (slot : ℕ) → slot < length found → get_or found slot false ≡ false
    → count_by not (set found slot true) + 1 ≡ count_by not found
count-set found slot inside none =
    let moved : sum_by (λ x. cond (not x) 1 0) (set found slot true)
    + cond (not (get_or found slot false)) 1 0
    ≡ sum_by (λ x. cond (not x) 1 0) found
    + cond (not true) 1 0 = sum_by-set (λ x. cond (not x) 1 0) found slot true false inside in
    let one : ◌≡◌ {A = ℕ} (cond (not (get_or found slot false)) 1 0) 1 =
    ap (λ (b : Bool). cond (not b) 1 0) none in
    omega (arith, moved, one)

pub Extends-new : (found : List Bool) (frontier : List ℕ) (slot : ℕ) → slot < length found
    → get_or found slot false ≡ false
    → Extends (λ k. Some slot ≡ Some k) found frontier (set found slot true) (frontier ++ slot ∷ [])
Extends-new found frontier slot inside none = record {
  same = length-set found slot true;
  all = λ k e.
      subst (λ (i : ℕ). IsMarked (set found slot true) i) (same_Some slot k e)
      (set-IsMarked_here found slot inside);
  kept = λ k h. set-IsMarked found slot k inside h;
  stays = λ k h. Contains-append_left frontier (slot ∷ []) k h;
  new = λ k h. elim (IsMarked-set found slot k inside h) [
    | inl old ↦ inl old
    | inr e ↦
        inr (
          Contains-append_right frontier (slot ∷ []) k
              (subst (λ (i : ℕ). Contains (slot ∷ []) i) e (one-Contains slot)),
          ap (λ (i : ℕ). let o : Option ℕ = Some i in o) e,
        )
  ];
  adds = λ k h. elim (Contains-append_cases frontier (slot ∷ []) k h) [
    | inl old ↦ inl old
    | inr one ↦
        inr (subst (λ (i : ℕ). IsMarked (set found slot true) i) (Contains-one slot k one)
        (set-IsMarked_here found slot inside))
  ];
  even = omega (arith, count-set found slot inside none, length-append frontier (slot ∷ []));
  less = omega (arith, count-set found slot inside none, length-append frontier (slot ∷ []));
}

-- nothing happens where all that is wanted was found
pub Extends-none : (Wanted : ℕ → Type 0) (found : List Bool) (frontier : List ℕ)
    → ((k : ℕ) → Wanted k → IsMarked found k) → Extends Wanted found frontier found frontier
Extends-none Wanted found frontier had = record {
  same = refl;
  all = had;
  kept = λ k h. h;
  stays = λ k h. h;
  new = λ k h. inl h;
  adds = λ k h. inl h;
  even = omega arith;
  less = omega arith;
}

-- one after the other
pub Extends-next : (A B : ℕ → Type 0) (f : List Bool) (s : List ℕ) (g : List Bool) (t : List ℕ)
    (h : List Bool) (u : List ℕ) → Extends A f s g t → Extends B g t h u
    → Extends (λ k. A k ⊎ B k) f s h u
Extends-next A B f s g t h u x y = record {
  same = y.same ∙ x.same;
  all = λ k w. elim w [ inl a ↦ y.kept k (x.all k a) | inr b ↦ y.all k b ];
  kept = λ k m. y.kept k (x.kept k m);
  stays = λ k c. y.stays k (x.stays k c);
  new = λ k m. elim (y.new k m) [
    | inl early ↦ elim (x.new k early) [ inl old ↦ inl old | inr n ↦ inr (y.stays k n.0, inl n.1) ]
    | inr n ↦ inr (n.0, inr n.1)
  ];
  adds = λ k c. elim (y.adds k c) [
    | inl early ↦ elim (x.adds k early) [ inl old ↦ inl old | inr m ↦ inr (y.kept k m) ]
    | inr m ↦ inr m
  ];
  even = let a = x.even in let b = y.even in omega arith;
  less = let a = x.less in let b = y.less in omega arith;
}

-- what is wanted, by an equal relation
pub Extends-same : (A B : ℕ → Type 0) (f : List Bool) (s : List ℕ) (g : List Bool) (t : List ℕ)
    → ((k : ℕ) → A k ↔ B k) → Extends A f s g t → Extends B f s g t
Extends-same A B f s g t same x = record {
  same = x.same;
  all = λ k b. x.all k ((same k).1 b);
  kept = x.kept;
  stays = x.stays;
  new = λ k m. elim (x.new k m) [ inl old ↦ inl old | inr n ↦ inr (n.0, (same k).0 n.1) ];
  adds = x.adds;
  even = x.even;
  less = x.less;
}

leads_by_case : (p : Program) (slot k : ℕ)
    → (((fall_to p slot ≡ Some k) ⊎ (jump_to p slot ≡ Some k)) ⊎ (call_to p slot ≡ Some k))
    ↔ HasEdge p slot k
leads_by_case p slot k = (to, from) where
  to : ((fall_to p slot ≡ Some k) ⊎ (jump_to p slot ≡ Some k)) ⊎ (call_to p slot ≡ Some k)
      → HasEdge p slot k
  to (inl (inl h)) = Falls h
  to (inl (inr h)) = Jumps h
  to (inr h) = Calls h

  from : HasEdge p slot k
      → ((fall_to p slot ≡ Some k) ⊎ (jump_to p slot ≡ Some k)) ⊎ (call_to p slot ≡ Some k)
  from (Falls h) = inl (inl h)
  from (Jumps h) = inl (inr h)
  from (Calls h) = inr h

-- the three edges from a slot
pub Extends-leads : (p : Program) (slot : ℕ) (a b c : Option ℕ) (f : List Bool) (s : List ℕ)
    (g : List Bool) (t : List ℕ) (h : List Bool) (u : List ℕ) (i : List Bool) (v : List ℕ)
    → a ≡ fall_to p slot → b ≡ jump_to p slot → c ≡ call_to p slot
    → Extends (λ k. a ≡ Some k) f s g t → Extends (λ k. b ≡ Some k) g t h u
    → Extends (λ k. c ≡ Some k) h u i v → Extends (HasEdge p slot) f s i v
Extends-leads p slot a b c f s g t h u i v ea eb ec x y z =
    let first : Extends (λ k. fall_to p slot ≡ Some k) f s g t =
    subst (λ (o : Option ℕ). Extends (λ k. o ≡ Some k) f s g t) ea x in
    let second : Extends (λ k. jump_to p slot ≡ Some k) g t h u =
    subst (λ (o : Option ℕ). Extends (λ k. o ≡ Some k) g t h u) eb y in
    let third : Extends (λ k. call_to p slot ≡ Some k) h u i v =
    subst (λ (o : Option ℕ). Extends (λ k. o ≡ Some k) h u i v) ec z in
    Extends-same
    (λ k. ((fall_to p slot ≡ Some k) ⊎ (jump_to p slot ≡ Some k)) ⊎ (call_to p slot ≡ Some k))
    (HasEdge p slot) f s i v (leads_by_case p slot)
    (Extends-next (λ k. (fall_to p slot ≡ Some k) ⊎ (jump_to p slot ≡ Some k))
    (λ k. call_to p slot ≡ Some k) f s h u i v
    (Extends-next (λ k. fall_to p slot ≡ Some k)
    (λ k. jump_to p slot ≡ Some k) f s g t h u first second) third)

-- ---- the loop

-- all that is found is to be found, and the search has gone on from all of it but the frontier
pub record IsSearch (Found : ℕ → Type 0) (Goes : ℕ → ℕ → Type 0) (size : ℕ) (found : List Bool)
    (frontier : List ℕ) : Type 0 where
  pub same : length found ≡ size
  pub waits : (k : ℕ) → Contains frontier k → IsMarked found k
  pub sound : (k : ℕ) → IsMarked found k → Found k
  pub followed : (k to : ℕ) → IsMarked found k → Goes k to → IsMarked found to ⊎ Contains frontier k

-- it begins with the slots that were found first
pub IsSearch-start : (Found : ℕ → Type 0) (Goes : ℕ → ℕ → Type 0) (Start : ℕ → Type 0) (size : ℕ)
    (found : List Bool) (frontier : List ℕ)
    → ((k : ℕ) → Start k → Found k) → Extends Start (replicate size false) [] found frontier
    → IsSearch Found Goes size found frontier
IsSearch-start Found Goes Start size found frontier starts x =
    let new : (k : ℕ) → IsMarked found k → Contains frontier k × Start k =
    λ k m. elim (x.new k m) [ inl old ↦ absurd (new-IsMarked size k old) | inr n ↦ n ] in record {
      same = x.same ∙ length-replicate size false;
      waits = λ k c. elim (x.adds k c) [ inl old ↦ absurd (no-Contains k old) | inr m ↦ m ];
      sound = λ k m. starts k (new k m).1;
      followed = λ k to m h. inr (new k m).0;
    }

-- the slot to go on from was found
pub on_top : (slot : ℕ) (s rest : List ℕ) → s ≡ rest ++ slot ∷ [] → Contains s slot
on_top slot s rest popped =
    subst (λ (l : List ℕ). Contains l slot) (sym popped)
    (Contains-append_right rest (slot ∷ []) slot (one-Contains slot))

-- it follows the edges from a slot of the frontier
pub IsSearch-next : (Found : ℕ → Type 0) (Goes : ℕ → ℕ → Type 0) (size slot : ℕ) (f : List Bool)
    (s rest : List ℕ) (g : List Bool) (t : List ℕ)
    → ((to : ℕ) → Found slot → Goes slot to → Found to) → s ≡ rest ++ slot ∷ []
    → IsSearch Found Goes size f s → Extends (Goes slot) f rest g t → IsSearch Found Goes size g t
IsSearch-next Found Goes size slot f s rest g t further popped m x = record {
  same = x.same ∙ m.same;
  waits = λ k c. elim (x.adds k c) [
    | inl old ↦
        x.kept k
        (m.waits k
        (subst (λ (l : List ℕ). Contains l k) (sym popped)
        (Contains-append_left rest (slot ∷ []) k old)))
    | inr found ↦ found
  ];
  sound = λ k h. elim (x.new k h) [
    | inl old ↦ m.sound k old
    | inr n ↦ further k (m.sound slot (m.waits slot (on_top slot s rest popped))) n.1
  ];
  followed = λ k to h goes. elim (x.new k h) [
    | inl old ↦ elim (m.followed k to old goes) [
      | inl there ↦ inl (x.kept to there)
      | inr waits ↦
          elim (Contains-append_cases rest (slot ∷ []) k
          (subst (λ (l : List ℕ). Contains l k) popped waits)) [
            | inl below ↦ inr (x.stays k below)
            | inr one ↦
                inl (x.all to (subst (λ (i : ℕ). Goes i to) (sym (Contains-one slot k one)) goes))
          ]
    ]
    | inr n ↦ inr n.0
  ];
}

-- the slot to go on from is inside the code
pub IsSearch-inside : (Found : ℕ → Type 0) (Goes : ℕ → ℕ → Type 0) (size slot : ℕ)
    (found : List Bool) (frontier rest : List ℕ)
    → frontier ≡ rest ++ slot ∷ [] → IsSearch Found Goes size found frontier → slot < size
IsSearch-inside Found Goes size slot found frontier rest popped m =
    let inside = IsMarked-inside found slot (m.waits slot (on_top slot frontier rest popped)) in
    omega (arith, m.same)

-- the search is over when nothing is left to go on from: an edge from what was found leads to what
-- was found
pub IsSearch-followed : (Found : ℕ → Type 0) (Goes : ℕ → ℕ → Type 0) (size : ℕ) (found : List Bool)
    (frontier : List ℕ) → length frontier ≡ 0
    → IsSearch Found Goes size found frontier → (k to : ℕ) → IsMarked found k → Goes k to
    → IsMarked found to
IsSearch-followed Found Goes size found [] over m k to h goes =
    elim (m.followed k to h goes) [ inl there ↦ there | inr waits ↦ absurd (no-Contains k waits) ]
IsSearch-followed Found Goes size found (x ∷ xs) over m k to h goes = absurd (omega (arith, over))

-- from a search that has found nothing
pub Extends-new_search : (Wanted : ℕ → Type 0) (n size : ℕ) (f : List Bool) (s : List ℕ)
    (g : List Bool) (t : List ℕ) → n ≡ size → f ≡ replicate n false → s ≡ []
    → Extends Wanted f s g t → Extends Wanted (replicate size false) [] g t
Extends-new_search Wanted n size f s g t all none empty x =
    subst (λ (l : List Bool). Extends Wanted l [] g t)
    (none ∙ ap (λ (k : ℕ). replicate k false) all)
    (subst (λ (l : List ℕ). Extends Wanted f l g t) empty x)

-- ---- from slot 0

reached_start : (p : Program) → Reached p 0
reached_start p = (0, refl)

Reached-next : (p : Program) (slot to : ℕ) → Reached p slot → HasEdge p slot to → Reached p to
Reached-next p slot to (n, path) h = (suc n, (slot, path, h))

-- the search for the slots that are reached
pub record IsReaching (p : Program) (found : List Bool) (frontier : List ℕ) : Type 0 where
  pub start : IsMarked found 0
  pub search : IsSearch (Reached p) (HasEdge p) (length p.insns) found frontier

pub IsReaching-start : (p : Program) (n : ℕ) (f : List Bool) (s : List ℕ) (found : List Bool)
    (frontier : List ℕ) → n ≡ length p.insns → f ≡ replicate n false → s ≡ []
    → Extends (λ k. Some 0 ≡ Some k) f s found frontier → IsReaching p found frontier
IsReaching-start p n f s found frontier all none empty x =
    let new = Extends-new_search (λ k. Some 0 ≡ Some k) n
    (length p.insns) f s found frontier all none empty x in record {
      start = x.all 0 refl;
      search =
          IsSearch-start (Reached p) (HasEdge p) (λ k. Some 0 ≡ Some k)
          (length p.insns) found frontier
          (λ k e. subst (Reached p) (same_Some 0 k e) (reached_start p)) new;
    }

pub IsReaching-next : (p : Program) (slot : ℕ) (f : List Bool) (s rest : List ℕ) (g : List Bool)
    (t : List ℕ) → s ≡ rest ++ slot ∷ [] → IsReaching p f s → Extends (HasEdge p slot) f rest g t
    → IsReaching p g t
IsReaching-next p slot f s rest g t popped m x = record {
  start = x.kept 0 m.start;
  search =
      IsSearch-next (Reached p) (HasEdge p) (length p.insns) slot f s rest g t
      (λ to r h. Reached-next p slot to r h) popped m.search x;
}

marked_in : (p : Program) (found : List Bool) (frontier : List ℕ) → length frontier ≡ 0
    → IsReaching p found frontier → (n k : ℕ) → ReachedIn p n k → IsMarked found k
marked_in p found frontier over m zero k e = subst (λ (i : ℕ). IsMarked found i) (sym e) m.start
marked_in p found frontier over m (suc n) k (from, path, h) =
    IsSearch-followed (Reached p) (HasEdge p) (length p.insns) found frontier over m.search from k
    (marked_in p found frontier over m n from path) h

pub IsReaching-end : (p : Program) (found : List Bool) (frontier : List ℕ) → length frontier ≡ 0
    → IsReaching p found frontier → (k : ℕ) → IsMarked found k ↔ Reached p k
IsReaching-end p found frontier over m k =
    (λ h. m.search.sound k h, λ r. marked_in p found frontier over m r.0 k r.1)
