-- Laws of the places of keys in the order of the keys.
use Rattle.map_indexes.proofs.Common.{◌≡◌, ℕ, zero, suc, ◌+◌, ◌<◌, List, [], ◌∷◌, ◌++◌, Option, Some, None, true, false, cond, map, take, length, unwrap_or, refl, sym, ap, subst, ◌∙◌, arith, T, is_some, slice_index_or, All, IsPermutation, IsSortedByKey, is_lt, ordering_reverse, nat_list_cmp_total, entries, entries_sorted, values, get, find, get-entries, is_sorted, slice_cmp-IsAntisymmetric, nat_cmp-IsAntisymmetric, eqb-true, eqb-false, eq-eqb, ne_eqb, ranks_by, sorted_far, All-permutation, IsPermutation-sym, key_order, is_key, is_key-equal, got, key_or_none, used_places}
use Rattle.std.specs.List.{AllByRecursion, IsDistinct}
use Rattle.std.specs.declared.cmp.Ordering.{Ordering}
use Rattle.std.specs.declared.cmp.Ordering.TheVariants.{Less, Equal, Greater}
use Rattle.std.specs.FinMap.Entries.{below_all, same_entries}
use Rattle.std.proofs.lemmas.List.Elements.{All-nil, All-cons, All-head, All-tail}
use Rattle.std.proofs.lemmas.Map.Keys.{IsDistinct-IsPermutation}
use Rattle.std.proofs.Math.Dec.{eqb}
use Rattle.isa_model.proofs.TestLaws.{both, less_is}
use Rattle.map_indexes.specs.PlaceKeys.{PlaceKeys, key_in, places, IsDistinct as IsApart}
use Rattle.map_indexes.proofs.PlaceKeysLaws.{is_key-itself, get_here}

abbrev place_if : Option (List ℕ) → ℕ → List ℕ
place_if None p = []
place_if (Some key) p = p ∷ []

used_places-suc : (keys : PlaceKeys) (at i : ℕ) → i < length keys
    → used_places at (take (suc i) keys)
    ≡ used_places at (take i keys) ++ place_if (key_in keys i) (at + i)
used_places-suc [] at i l = absurd (omega arith)
used_places-suc (None ∷ keys) at zero l = refl
used_places-suc (Some k ∷ keys) at zero l =
    let e : at ≡ at + 0 = omega arith in ap (λ (n : ℕ). n ∷ []) e
used_places-suc (None ∷ keys) at (suc i) l =
    let e : at + 1 + i ≡ at + suc i = omega arith in
    used_places-suc keys (at + 1) i (omega arith)
    ∙ ap (λ (n : ℕ). used_places (at + 1) (take i keys) ++ place_if (key_in keys i) n) e
used_places-suc (Some k ∷ keys) at (suc i) l =
    let e : at + 1 + i ≡ at + suc i = omega arith in
    ap (λ (ps : List ℕ). at ∷ ps)
    (used_places-suc keys (at + 1) i (omega arith)
    ∙ ap (λ (n : ℕ). used_places (at + 1) (take i keys) ++ place_if (key_in keys i) n) e)

place_if-some : (o : Option (List ℕ)) (p : ℕ) → is_some o ≡ true → place_if o p ≡ p ∷ []
place_if-some None p e = absurd (cc)
place_if-some (Some k) p e = refl

place_if-none : (o : Option (List ℕ)) (p : ℕ) → is_some o ≡ false → place_if o p ≡ []
place_if-none None p e = refl
place_if-none (Some k) p e = absurd (cc)

append-none : (xs : List ℕ) → xs ++ [] ≡ xs
append-none [] = refl
append-none (x ∷ xs) = ap (λ (ys : List ℕ). x ∷ ys) (append-none xs)

module _ (keys : PlaceKeys) (i : ℕ) (inside : i < length keys) where
  -- one place more that has a key
  pub used_places-key : is_some (key_in keys i) ≡ true
      → used_places 0 (take (i + 1) keys) ≡ used_places 0 (take i keys) ++ i ∷ []
  used_places-key e =
      let s : i + 1 ≡ suc i = omega arith in
      let z : 0 + i ≡ i = omega arith in
      ap (λ (n : ℕ). used_places 0 (take n keys)) s ∙ used_places-suc keys 0 i inside
      ∙ ap (λ (ps : List ℕ). used_places 0 (take i keys) ++ ps)
      (place_if-some (key_in keys i) (0 + i) e ∙ ap (λ (n : ℕ). n ∷ []) z)

  -- one that has none
  pub used_places-none : is_some (key_in keys i) ≡ false
      → used_places 0 (take (i + 1) keys) ≡ used_places 0 (take i keys)
  used_places-none e =
      let s : i + 1 ≡ suc i = omega arith in
      ap (λ (n : ℕ). used_places 0 (take n keys)) s ∙ used_places-suc keys 0 i inside
      ∙ ap (λ (ps : List ℕ). used_places 0 (take i keys) ++ ps)
      (place_if-none (key_in keys i) (0 + i) e) ∙ append-none (used_places 0 (take i keys))

module _ (P : ℕ → Type 0) where
  each_used : (keys : PlaceKeys) (at : ℕ)
      → ((i : ℕ) (k : List ℕ) → key_in keys i ≡ Some k → P (at + i)) → All P (used_places at keys)
  each_used [] at h = All-nil P
  each_used (None ∷ keys) at h =
      each_used keys (at + 1)
      (λ i k e. let s : at + suc i ≡ at + 1 + i = omega arith in subst P s (h (suc i) k e))
  each_used (Some q ∷ keys) at h =
      let z : at + 0 ≡ at = omega arith in
      All-cons P at (used_places (at + 1) keys) (subst P z (h 0 q refl))
      (each_used keys (at + 1)
      (λ i k e. let s : at + suc i ≡ at + 1 + i = omega arith in subst P s (h (suc i) k e)))

  of_used : (keys : PlaceKeys) (at i : ℕ) (k : List ℕ) → All P (used_places at keys)
      → key_in keys i ≡ Some k → P (at + i)
  of_used [] at i k all e = absurd (cc)
  of_used (None ∷ keys) at zero k all e = absurd (cc)
  of_used (None ∷ keys) at (suc i) k all e =
      let s : at + 1 + i ≡ at + suc i = omega arith in subst P s (of_used keys (at + 1) i k all e)
  of_used (Some q ∷ keys) at zero k all e =
      let z : at ≡ at + 0 = omega arith in subst P z (All-head P at (used_places (at + 1) keys) all)
  of_used (Some q ∷ keys) at (suc i) k all e =
      let s : at + 1 + i ≡ at + suc i = omega arith in
      subst P s (of_used keys (at + 1) i k (All-tail P at (used_places (at + 1) keys) all) e)

by_recursion : (P : ℕ → Type 0) (xs : List ℕ) → All P xs → AllByRecursion P xs
by_recursion P [] all = tt
by_recursion P (x ∷ xs) all = (All-head P x xs all, by_recursion P xs (All-tail P x xs all))

distinct_used : (keys : PlaceKeys) (at : ℕ) → IsDistinct eqb (used_places at keys)
unfolding IsDistinct
distinct_used [] at = tt
distinct_used (None ∷ keys) at = distinct_used keys (at + 1)
distinct_used (Some q ∷ keys) at = (
  by_recursion (λ y. eqb at y ≡ false) (used_places (at + 1) keys)
      (each_used (λ y. eqb at y ≡ false) keys (at + 1)
      (λ i k e. ne_eqb at (at + 1 + i) (λ f. omega arith))),
  distinct_used keys (at + 1),
)

eqb-flips : (x y : ℕ) → eqb x y ≡ eqb y x
eqb-flips x y =
    elim (eqb x y) as (λ b. eqb x y ≡ b → b ≡ eqb y x) [
      | true ↦ λ t. sym (eq-eqb y x (sym (eqb-true x y t)))
      | false ↦ λ t. sym (ne_eqb y x (λ e. eqb-false x y t (sym e)))
    ] refl

not_less : (r : Ordering) → is_lt (ordering_reverse r) ≡ false → (r ≡ Equal → ⊥) → r ≡ Less
not_less Less e d = refl
not_less Equal e d = absurd (d refl)
not_less Greater e d = absurd (cc)

module _ (keys : PlaceKeys) (apart : IsApart keys) where
  abbrev key : ℕ → List ℕ
  key = key_or_none keys

  abbrev keyed : List ℕ → List (List ℕ × ℕ)
  keyed ps = map (λ p. (key p, p)) ps

  abbrev IsUsed : ℕ → Type 0
  IsUsed p = key_in keys p ≡ Some (key p)

  has_key : (p : ℕ) (k : List ℕ) → key_in keys p ≡ Some k → IsUsed p
  has_key p k e = e ∙ ap Some (sym (ap (λ (o : Option (List ℕ)). unwrap_or o []) e))

  below : (p : ℕ) (ps : List ℕ) → IsUsed p → All IsUsed ps
      → AllByRecursion (λ y. eqb p y ≡ false) ps
      → All (λ r. is_lt (key_order (key r) (key p)) ≡ false) ps
      → T (below_all key_order (key p) (keyed ps))
  below p [] h all d up = tt
  below p (r ∷ ps) h all d up =
      let there = All-head IsUsed r ps all in
      let flip : is_lt (ordering_reverse (key_order (key p) (key r))) ≡ false =
      ap is_lt (sym (nat_list_cmp_total.antisymm (key r) (key p)))
      ∙ All-head (λ r. is_lt (key_order (key r) (key p)) ≡ false) r ps up in
      let less = not_less (key_order (key p) (key r)) flip (λ e.
      let same : key p ≡ key r =
      slice_cmp-IsAntisymmetric nat_cmp-IsAntisymmetric (key p) (key r) e in
      eqb-false p r d.0 (apart p r (key p) h (there ∙ ap Some (sym same)))) in
      both (is_lt (key_order (key p) (key r))) (below_all key_order (key p) (keyed ps))
      (less_is _ less)
      (below p ps h (All-tail IsUsed r ps all) d.1
      (All-tail (λ r. is_lt (key_order (key r) (key p)) ≡ false) r ps up))

  sorted : (ps : List ℕ) → All IsUsed ps → IsDistinct eqb ps → IsSortedByKey key key_order ps
      → T (is_sorted key_order (keyed ps))
  unfolding IsDistinct
  sorted [] all d up = tt
  sorted (p ∷ ps) all d up =
      let far : All (λ r. is_lt (key_order (key r) (key p)) ≡ false) ps =
      λ (k : ℕ) (e : ℕ) (l : k < length ps). sorted_far (λ x y. is_lt (key_order (key x) (key y)))
      (ranks_by nat_list_cmp_total key) (p ∷ ps) up 0 (suc k) e (omega arith) (omega arith) in
      both (below_all key_order (key p) (keyed ps)) (is_sorted key_order (keyed ps))
      (below p ps (All-head IsUsed p ps all) (All-tail IsUsed p ps all) d.0 far)
      (sorted ps (All-tail IsUsed p ps all) d.1 (λ k e l m.
      let s : suc k + 1 ≡ suc (k + 1) = omega arith in
      subst (λ (n : ℕ). is_lt
      (key_order (key (slice_index_or (p ∷ ps) n e)) (key (slice_index_or ps k e))) ≡ false) s
      (up (suc k) e (omega arith) (omega arith))))

  found : (q : List ℕ) (p : ℕ) → key_in keys p ≡ Some q → (ps : List ℕ) → All IsUsed ps
      → (All (λ r. eqb r p ≡ false) ps → ⊥) → find key_order q (keyed ps) ≡ Some p
  found q p here [] all some = absurd (some (All-nil (λ r. eqb r p ≡ false)))
  found q p here (r ∷ ps) all some =
      elim (is_key q (key r)) as (λ b. is_key q (key r) ≡ b
      → cond b (Some r) (find key_order q (keyed ps)) ≡ Some p) [
        | true ↦
            λ t. ap Some (apart r p q
            (All-head IsUsed r ps all ∙ ap Some (sym (is_key-equal q (key r) t))) here)
        | false ↦
            λ t. found q p here ps (All-tail IsUsed r ps all)
            (λ none. some (All-cons (λ r. eqb r p ≡ false) r ps
            (ne_eqb r p (λ e.
            let same : key_in keys r ≡ Some q = ap (key_in keys) e ∙ here in
            let k : key r ≡ q = ap (λ (o : Option (List ℕ)). unwrap_or o []) same in
            let u : is_key q (key r) ≡ true = ap (is_key q) k ∙ is_key-itself q in
            let w : true ≡ false = sym u ∙ t in
            cc)) none))
      ] refl

  missed : (q : List ℕ) → get (places keys) q ≡ None → (ps : List ℕ) → All IsUsed ps
      → find key_order q (keyed ps) ≡ None
  missed q none [] all = refl
  missed q none (r ∷ ps) all =
      elim (is_key q (key r)) as (λ b. is_key q (key r) ≡ b
      → cond b (Some r) (find key_order q (keyed ps)) ≡ None) [
        | true ↦ λ t.
            let e =
            get_here keys r q apart
            (All-head IsUsed r ps all ∙ ap Some (sym (is_key-equal q (key r) t))) in
            let f : Some r ≡ None = sym e ∙ none in
            absurd (cc)
        | false ↦ λ t. missed q none ps (All-tail IsUsed r ps all)
      ] refl

  places_back : (ps : List ℕ) → map (λ e. e.1) (keyed ps) ≡ ps
  places_back [] = refl
  places_back (p ∷ ps) = ap (λ (qs : List ℕ). p ∷ qs) (places_back ps)

  -- the places that have a key, sorted by their keys, are in the order of the finite map
  pub values-sorted : (ps : List ℕ) → IsPermutation (used_places 0 keys) ps
      → IsSortedByKey key key_order ps → ps ≡ values (places keys)
  values-sorted ps moved up =
      let each = All-permutation IsUsed (used_places 0 keys) ps moved
      (each_used IsUsed keys 0
      (λ i k e. let z : i ≡ 0 + i = omega arith in subst IsUsed z (has_key i k e))) in
      let once =
      IsDistinct-IsPermutation eqb eqb-flips (used_places 0 keys) ps moved
      (distinct_used keys 0) in
      let agree : (q : List ℕ)
      → find key_order q (keyed ps) ≡ find key_order q (entries (places keys)) =
      λ q. elim (get (places keys) q) as (λ o. get (places keys) q ≡ o
      → find key_order q (keyed ps) ≡ o) [
        | None ↦ λ e. missed q e ps each
        | Some p ↦ λ e.
            let here = got keys q p e in
            found q p here ps each (λ none.
            let z : 0 + p ≡ p = omega arith in
            let f : eqb p p ≡ false = subst (λ (n : ℕ). eqb n p ≡ false) z
            (of_used (λ r. eqb r p ≡ false) keys 0 p q
            (All-permutation (λ r. eqb r p ≡ false) ps (used_places 0 keys)
            (IsPermutation-sym (used_places 0 keys) ps moved) none) here) in
            eqb-false p p f refl)
      ] refl ∙ get-entries (places keys) q in
      let same = same_entries key_order nat_list_cmp_total
      (slice_cmp-IsAntisymmetric nat_cmp-IsAntisymmetric) (keyed ps) (entries (places keys))
      (sorted ps each once up)
      (entries_sorted (places keys)) agree in
      sym (places_back ps) ∙ ap (λ (es : List (List ℕ × ℕ)). map (λ e. e.1) es) same
