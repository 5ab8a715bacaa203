-- The jumps to each slot, as chains: what the loop that links them keeps, and what following a
-- chain finds.
use Rattle.control_flow.proofs.Common.{◌≡◌, ℕ, ◌+◌, ◌<◌, ◌≤◌, Bool, List, [], ◌∷◌, ◌++◌, length, get_or, set, Option, Some, None, sym, ap, ◌∙◌, subst, arith, inl, inr, ◌↔◌, ◌⊎◌, cases_lt, cases_eq, cases_order, same_Some, get_or-set_same, get_or-set_other, length-set, length-append, get_or-append, get_or-append_seam, Node, fall_from, jump_from, ComesFrom, FallsNear, Extends}
use Rattle.control_flow.specs.Sources.{IsLastBelow, HasJump, AreSources}
use Rattle.control_flow.proofs.Graphs.{jump_from-inside}
use Rattle.control_flow.proofs.SlotSearch.{Extends-next, Extends-same}

-- ---- the last number below

-- a number that does not pass changes nothing
IsLastBelow-more : (P : ℕ → Type 0) (n : ℕ) (o : Option ℕ) → (P n → ⊥) → IsLastBelow P n o
    → IsLastBelow P (n + 1) o
IsLastBelow-more P n None other none = λ k below h. elim (cases_eq k n) [
  | inl e ↦ other (subst P e h)
  | inr apart ↦ none k (omega arith) h
]
IsLastBelow-more P n (Some last) other (below, passes, none) = (
  omega arith,
  passes,
  λ k above under h. elim (cases_eq k n) [
    | inl e ↦ other (subst P e h)
    | inr apart ↦ none k above (omega arith) h
  ],
)

-- one that passes is the last
IsLastBelow-new : (P : ℕ → Type 0) (n : ℕ) → P n → IsLastBelow P (n + 1) (Some n)
IsLastBelow-new P n h = (omega arith, h, λ k above under passes. absurd (omega arith))

-- how far a chain still goes down
abbrev pub left_of : Option ℕ → ℕ
left_of None = 0
left_of (Some k) = k + 1

pub IsLastBelow-left : (P : ℕ → Type 0) (n : ℕ) (o : Option ℕ) → IsLastBelow P n o → left_of o ≤ n
IsLastBelow-left P n None h = omega arith
IsLastBelow-left P n (Some k) (below, passes, none) = omega arith

-- the next of a chain is further down
pub left_of-smaller : (before next : Option ℕ) (source : ℕ) → next ≡ Some source
    → left_of before ≤ source → left_of before < left_of next
left_of-smaller before next source is low =
    subst (λ (o : Option ℕ). left_of before < left_of o) (sym is) (omega arith)

-- ---- linking

pub record SourcesBelow (nodes : List Node) (n : ℕ)
    (latest earlier : List (Option ℕ)) : Type 0 where
  pub as_many : length latest ≡ length nodes
  pub as_many_earlier : length earlier ≡ n
  pub last : (to : ℕ) → to < length nodes → IsLastBelow (HasJump nodes to) n (get_or latest to None)
  pub before : (slot to : ℕ) → slot < n → HasJump nodes to slot
      → IsLastBelow (HasJump nodes to) slot (get_or earlier slot None)

-- the chains of the slots below n, with one more link
linked : (nodes : List Node) (n : ℕ) (latest earlier : List (Option ℕ)) (link : Option ℕ)
    → SourcesBelow nodes n latest earlier
    → ((to : ℕ) → HasJump nodes to n → IsLastBelow (HasJump nodes to) n link) → (slot to : ℕ)
    → slot < n + 1 → HasJump nodes to slot
    → IsLastBelow (HasJump nodes to) slot (get_or (earlier ++ link ∷ []) slot None)
linked nodes n latest earlier link m new slot to below h = elim (cases_eq slot n) [
  | inl e ↦
      let at : slot ≡ length earlier = omega (arith, m.as_many_earlier) in
      let read : get_or (earlier ++ link ∷ []) slot None ≡ link =
      ap (λ (i : ℕ). get_or (earlier ++ link ∷ []) i None) at
      ∙ get_or-append_seam earlier link [] None in
      let here : HasJump nodes to n = subst (HasJump nodes to) e h in
      subst (IsLastBelow (HasJump nodes to) slot) (sym read)
      (subst (λ (i : ℕ). IsLastBelow (HasJump nodes to) i link) (sym e) (new to here))
  | inr apart ↦
      let under : slot < length earlier = omega (arith, m.as_many_earlier) in
      subst (IsLastBelow (HasJump nodes to) slot)
      (sym (get_or-append earlier (link ∷ []) None slot under))
      (m.before slot to (omega arith) h)
]

-- the next slot does not jump
pub sources_more_none : (nodes : List Node) (n : ℕ) (latest earlier : List (Option ℕ))
    → None ≡ jump_from nodes n → SourcesBelow nodes n latest earlier
    → SourcesBelow nodes (n + 1) latest (earlier ++ None ∷ [])
sources_more_none nodes n latest earlier stays m =
    let other : (to : ℕ) → HasJump nodes to n → ⊥ = λ to h. absurd cc in record {
      as_many = m.as_many;
      as_many_earlier = length-append earlier (None ∷ []) ∙ ap (λ (k : ℕ). k + 1) m.as_many_earlier;
      last =
          λ to inside.
          IsLastBelow-more (HasJump nodes to) n (get_or latest to None) (other to)
          (m.last to inside);
      before = linked nodes n latest earlier None m (λ to h. absurd (other to h));
    }

-- the next slot jumps
pub sources_more_some : (nodes : List Node) (n t : ℕ) (latest earlier : List (Option ℕ))
    (link : Option ℕ) → Some t ≡ jump_from nodes n → t < length nodes
    → link ≡ get_or latest t None → SourcesBelow nodes n latest earlier
    → SourcesBelow nodes (n + 1) (set latest t (Some n)) (earlier ++ link ∷ [])
sources_more_some nodes n t latest earlier link jumps inside read m =
    let target : (to : ℕ) → HasJump nodes to n → t ≡ to = λ to h. same_Some t to (jumps ∙ h) in
    let within : t < length latest = omega (arith, m.as_many) in record {
      as_many = length-set latest t (Some n) ∙ m.as_many;
      as_many_earlier = length-append earlier (link ∷ []) ∙ ap (λ (k : ℕ). k + 1) m.as_many_earlier;
      last = λ to there. elim (cases_eq to t) [
        | inl e ↦
            let is : get_or (set latest t (Some n)) to None ≡ Some n =
            ap (λ (i : ℕ). get_or (set latest t (Some n)) i None) e
            ∙ get_or-set_same latest t (Some n) None within in
            subst (IsLastBelow (HasJump nodes to) (n + 1)) (sym is)
            (IsLastBelow-new (HasJump nodes to) n
            (subst (λ (i : ℕ). HasJump nodes i n) (sym e) (sym jumps)))
        | inr apart ↦
            subst (IsLastBelow (HasJump nodes to) (n + 1))
            (sym (get_or-set_other latest t to (Some n) None apart))
            (IsLastBelow-more (HasJump nodes to) n (get_or latest to None)
            (λ h. apart (sym (target to h))) (m.last to there))
      ];
      before = linked nodes n latest earlier link m (λ to h.
          subst (IsLastBelow (HasJump nodes to) n)
          (sym (read ∙ ap (λ (i : ℕ). get_or latest i None) (target to h)))
          (m.last to (subst (λ (i : ℕ). i < length nodes) (target to h) inside)));
    }

pub AreSources-below : (nodes : List Node) (n : ℕ) (latest earlier : List (Option ℕ))
    → n ≡ length nodes → SourcesBelow nodes n latest earlier → AreSources nodes latest earlier
AreSources-below nodes n latest earlier all m = record {
  as_many = m.as_many;
  as_many_earlier = m.as_many_earlier ∙ all;
  last =
      λ to inside.
      subst (λ (k : ℕ). IsLastBelow (HasJump nodes to) k (get_or latest to None)) all
      (m.last to inside);
  before =
      λ slot to h.
      m.before slot to (let low = jump_from-inside nodes slot to h in omega (arith, all)) h;
}

-- ---- following a chain

-- the slot that is `back` slots below falls through to this one
abbrev pub FallsBack : List Node → ℕ → ℕ → ℕ → Type 0
FallsBack nodes to back k = (k + back ≡ to) × (fall_from nodes k ≡ Some to)

-- control enters the slot by falling through, or by a jump from `least` or above it
abbrev pub ComesAbove : List Node → ℕ → ℕ → ℕ → Type 0
ComesAbove nodes to least k = (fall_from nodes k ≡ Some to) ⊎ ((least ≤ k) × HasJump nodes to k)

-- the jumps above the next one are followed
pub record HasFollowedJumps (nodes : List Node) (to : ℕ) (next : Option ℕ) (f : List Bool)
    (s : List ℕ) (g : List Bool) (t : List ℕ) : Type 0 where
  pub least : ℕ
  pub last : IsLastBelow (HasJump nodes to) least next
  pub found : Extends (ComesAbove nodes to least) f s g t

-- what falls through is found first
pub HasFollowedJumps-start : (nodes : List Node) (to : ℕ) (a b next : Option ℕ) (f : List Bool)
    (s : List ℕ) (g : List Bool) (t : List ℕ) (h : List Bool) (u : List ℕ)
    → FallsNear nodes → ((k : ℕ) → (a ≡ Some k) ↔ FallsBack nodes to 1 k)
    → ((k : ℕ) → (b ≡ Some k) ↔ FallsBack nodes to 2 k)
    → Extends (λ k. a ≡ Some k) f s g t → Extends (λ k. b ≡ Some k) g t h u
    → IsLastBelow (HasJump nodes to) (length nodes) next → HasFollowedJumps nodes to next f s h u
HasFollowedJumps-start nodes to a b next f s g t h u near one two x y last = record {
  least = length nodes;
  last = last;
  found =
      Extends-same (λ k. (a ≡ Some k) ⊎ (b ≡ Some k)) (ComesAbove nodes to (length nodes)) f s h u
      (λ k. (
        λ w. elim w [ inl e ↦ inl ((one k).0 e).1 | inr e ↦ inl ((two k).0 e).1 ],
        λ w. elim w [
          | inl falls ↦ elim (near k to falls) [
            | inl at ↦ inl ((one k).1 (at, falls))
            | inr at ↦ inr ((two k).1 (at, falls))
          ]
          | inr (above, jumps) ↦ let low = jump_from-inside nodes k to jumps in absurd (omega arith)
        ],
      ))
      (Extends-next (λ k. a ≡ Some k) (λ k. b ≡ Some k) f s g t h u x y);
}

-- the next one jumps there
pub HasFollowedJumps-jumps : (nodes : List Node) (to source : ℕ) (next : Option ℕ) (f : List Bool)
    (s : List ℕ) (g : List Bool) (t : List ℕ)
    → next ≡ Some source → HasFollowedJumps nodes to next f s g t → HasJump nodes to source
HasFollowedJumps-jumps nodes to source next f s g t is m =
    (subst (IsLastBelow (HasJump nodes to) m.least) is m.last).1

-- one more is followed
pub HasFollowedJumps-next : (nodes : List Node) (to source : ℕ) (next before : Option ℕ)
    (f : List Bool) (s : List ℕ) (g : List Bool) (t : List ℕ) (h : List Bool) (u : List ℕ)
    → next ≡ Some source → IsLastBelow (HasJump nodes to) source before
    → HasFollowedJumps nodes to next f s g t → Extends (λ k. Some source ≡ Some k) g t h u
    → HasFollowedJumps nodes to before f s h u
HasFollowedJumps-next nodes to source next before f s g t h u is last m x =
    let here : IsLastBelow (HasJump nodes to) m.least (Some source) =
    subst (IsLastBelow (HasJump nodes to) m.least) is m.last in record {
      least = source;
      last = last;
      found =
          Extends-same (λ k. ComesAbove nodes to m.least k ⊎ (Some source ≡ Some k))
          (ComesAbove nodes to source) f s h u
          (λ k. (
            λ w. elim w [
              | inl (inl falls) ↦ inl falls
              | inl (inr (above, jumps)) ↦ inr (let low = here.0 in omega arith, jumps)
              | inr e ↦
                  let same : source ≡ k = same_Some source k e in
                  inr (omega (arith, same), subst (HasJump nodes to) same here.1)
            ],
            λ w. elim w [
              | inl falls ↦ inl (inl falls)
              | inr (above, jumps) ↦ elim (cases_order k source) [
                | inl e ↦ inr (ap (λ (i : ℕ). let o : Option ℕ = Some i in o) (sym e))
                | inr (inl below) ↦ absurd (omega arith)
                | inr (inr over) ↦ elim (cases_lt k m.least) [
                  | inl under ↦ absurd (here.2 k over under jumps)
                  | inr past ↦ inl (inr (past, jumps))
                ]
              ]
            ],
          ))
          (Extends-next (ComesAbove nodes to m.least)
          (λ k. Some source ≡ Some k) f s g t h u m.found x);
    }

-- all are followed
pub HasFollowedJumps-end : (nodes : List Node) (to : ℕ) (next : Option ℕ) (f : List Bool)
    (s : List ℕ) (g : List Bool) (t : List ℕ)
    → None ≡ next → HasFollowedJumps nodes to next f s g t → Extends (ComesFrom nodes to) f s g t
HasFollowedJumps-end nodes to next f s g t over m =
    let none : IsLastBelow (HasJump nodes to) m.least None =
    subst (IsLastBelow (HasJump nodes to) m.least) (sym over) m.last in
    Extends-same (ComesAbove nodes to m.least) (ComesFrom nodes to) f s g t
    (λ k. (
      λ w. elim w [ inl falls ↦ inl falls | inr (above, jumps) ↦ inr jumps ],
      λ w. elim w [
        | inl falls ↦ inl falls
        | inr jumps ↦ elim (cases_lt k m.least) [
          | inl under ↦ absurd (none k under jumps)
          | inr past ↦ inr (past, jumps)
        ]
      ],
    ))
    m.found
