-- Chains: the links of each, the links above a place, and chains without links.
use Rattle.map_indexes.proofs.Common.{◌≡◌, ℕ, zero, suc, ◌+◌, ◌<◌, ◌≤◌, List, [], ◌∷◌, length, Option, Some, None, Bool, true, false, refl, sym, ap, ◌∙◌, arith, inl, inr, nat_eq, slice_index_or, slice_set, replicate, cases_lt, Link, last_below, is_in, in_chain, IsChained, IsBehind, height, heads_led, link_led, nexts_led}
use Rattle.map_indexes.proofs.LastBelowLaws.{last_is, none_below, last_skip}

-- the place of the link, or the size of the room if there is no link
abbrev pub place_or : ℕ → Option ℕ → ℕ
place_or room None = room
place_or room (Some k) = k

-- a link that gets another next link stays in its chain
pub is_in-led : (from to : Option ℕ) (j chain : ℕ) (o : Option Link)
    → is_in chain (link_led from to j o) ≡ is_in chain o
is_in-led from to j chain None = refl
is_in-led from to j chain (Some l) = refl

pub in_chain-is : (links : ℕ → Option Link) (k : ℕ) (l : Link) (chain : ℕ) → links k ≡ Some l
    → l.chain ≡ chain → in_chain links chain k ≡ true
in_chain-is links k l chain e f = ap (is_in chain) e ∙ grind arith

-- a place that is in a chain has a link of it
pub link_of : (links : ℕ → Option Link) (chain k : ℕ) → in_chain links chain k ≡ true
    → (l : Link) × (links k ≡ Some l) × (l.chain ≡ chain)
link_of links chain k e =
    elim (links k) as (λ o. links k ≡ o → is_in chain o ≡ true
    → (l : Link) × (links k ≡ Some l) × (l.chain ≡ chain)) [
      | None ↦ λ t f. absurd (cc)
      | Some l ↦ λ t f. (l, t, grind arith)
    ] refl e

pub not_in : (links : ℕ → Option Link) (chain k : ℕ) → links k ≡ None
    → in_chain links chain k ≡ false
not_in links chain k e = ap (is_in chain) e

pub elsewhere : (l : Link) (chain : ℕ) → (l.chain ≡ chain → ⊥) → is_in chain (Some l) ≡ false
elsewhere l chain d = elim (nat_eq l.chain chain) as (λ b. nat_eq l.chain chain ≡ b → b ≡ false) [
  | true ↦ λ t. absurd (d (grind arith))
  | false ↦ λ t. refl
] refl

pub head_set : (heads : List (Option ℕ)) (i : ℕ) (v : Option ℕ) → i < length heads
    → slice_index_or (slice_set heads i v) i None ≡ v
head_set [] i v h = absurd (omega arith)
head_set (x ∷ heads) zero v h = refl
head_set (x ∷ heads) (suc i) v h = head_set heads i v (omega arith)

pub head_other : (heads : List (Option ℕ)) (i j : ℕ) (v : Option ℕ) → (j ≡ i → ⊥)
    → slice_index_or (slice_set heads i v) j None ≡ slice_index_or heads j None
head_other [] i j v h = refl
head_other (x ∷ heads) zero zero v h = absurd (h refl)
head_other (x ∷ heads) zero (suc j) v h = refl
head_other (x ∷ heads) (suc i) zero v h = refl
head_other (x ∷ heads) (suc i) (suc j) v h = head_other heads i j v (λ e. h (ap suc e))

pub length-head_set : (heads : List (Option ℕ)) (i : ℕ) (v : Option ℕ) → length
    (slice_set heads i v) ≡ length heads
length-head_set [] i v = refl
length-head_set (x ∷ heads) zero v = refl
length-head_set (x ∷ heads) (suc i) v = ap suc (length-head_set heads i v)

pub length-heads_led : (from : Option ℕ) (chain : ℕ) (to : Option ℕ) (heads : List (Option ℕ))
    → length (heads_led from chain to heads) ≡ length heads
length-heads_led None chain to heads = length-head_set heads chain to
length-heads_led (Some k) chain to heads = refl

pub length-nexts_led : (from to : Option ℕ) (nexts : List (Option ℕ)) → length
    (nexts_led from to nexts) ≡ length nexts
length-nexts_led None to nexts = refl
length-nexts_led (Some k) to nexts = length-head_set nexts k to

-- ---- where a link is

module _ (room : ℕ) (links : ℕ → Option Link) (chain at : ℕ) where
  -- the links above `at` were passed, down to this one
  pub record Passed (from next : Option ℕ) : Type 0 where
    pub is : next ≡ last_below (in_chain links chain) (place_or room from)
    pub above : (k : ℕ) → from ≡ Some k → (at < k) × (in_chain links chain k ≡ true)

  -- the next one is at or below `at`, or there is none
  pub is_behind : ((k : ℕ) (l : Link) → links k ≡ Some l → k < room) → (from next : Option ℕ)
      → Passed from next
      → ((k : ℕ) → next ≡ Some k → k ≤ at) → IsBehind (in_chain links chain) at from
  is_behind within from next p low =
      let between : (j : ℕ) → at < j → j < place_or room from → in_chain links chain j ≡ false =
      λ j a b. elim next as (λ o. next ≡ o → in_chain links chain j ≡ false) [
        | None ↦ λ e. none_below (in_chain links chain) (place_or room from) (sym p.is ∙ e) j b
        | Some k ↦
            λ e. let l =
            low k e in (last_is (in_chain links chain) (place_or room from) k (sym p.is ∙ e)).2
            j (omega arith) b
      ] refl in
      elim from as (λ o. from ≡ o → IsBehind (in_chain links chain) at o) [
        | None ↦ λ e. λ j a. elim (cases_lt j room) [
          | inl l ↦ between j a (let s = ap (place_or room) e in omega arith)
          | inr g ↦ elim (links j) as (λ o. links j ≡ o → is_in chain o ≡ false) [
            | None ↦ λ t. refl
            | Some l ↦ λ t. let w = within j l t in absurd (omega arith)
          ] refl
        ]
        | Some k ↦
            λ e. let u =
            p.above k e in (
              u.0,
              u.1,
              λ j a b. between j a
                  (let s = ap (place_or room) e in omega arith),
            )
      ] refl

  -- one link further
  pub passed_next : ((k : ℕ) (l : Link) → links k ≡ Some l
      → l.next ≡ last_below (in_chain links l.chain) k)
      → (m k : ℕ) (l : Link) → Some k ≡ last_below (in_chain links chain) m → links k ≡ Some l
      → at < k → Passed (Some k) l.next
  passed_next falls m k l is e up =
      let r = last_is (in_chain links chain) m k (sym is) in
      let t = link_of links chain k r.1 in
      let same : t.0 ≡ l = let a : Some t.0 ≡ Some l = sym t.1 ∙ e in cc in
      record {
        is =
            falls k l e ∙ ap (λ (h : ℕ). last_below (in_chain links h) k)
            (ap (λ (x : Link). x.chain) (sym same) ∙ t.2);
        above = λ j f. let s : k ≡ j = cc in (omega arith, ap (in_chain links chain) (sym s) ∙ r.1);
      }

-- a chain continues below
pub lower : (test : ℕ → Bool) (k : ℕ) (next : Option ℕ) → next ≡ last_below test k
    → height next < k + 1
lower test k None e = omega arith
lower test k (Some j) e = let r = last_is test k j (sym e) in let l = r.0 in omega arith

-- ---- chains without links

pub heads-none : (n i : ℕ) → slice_index_or (replicate {A = Option ℕ} n None) i None ≡ None
heads-none zero i = refl
heads-none (suc n) zero = refl
heads-none (suc n) (suc i) = heads-none n i

pub chained_none : (n room : ℕ) (links : ℕ → Option Link) → ((k : ℕ) → links k ≡ None)
    → IsChained (replicate n None) room links
chained_none n room links none = record {
  first =
      λ h i. heads-none n h
      ∙ sym (last_skip (in_chain links h) 0 room (omega arith)
      (λ j a b. ap (is_in h) (none j)));
  falls = λ k l e. let f = none k in absurd (cc);
  within = λ k l e. let f = none k in absurd (cc);
  known = λ k l e. let f = none k in absurd (cc);
}
