-- The indexes of an array in the order of the bytes of their keys, which is that of the finite map
-- of its places.
use Rattle.map_indexes.proofs.Common.{◌≡◌, ℕ, zero, suc, ◌+◌, ◌^◌, ◌<◌, ◌≤◌, List, [], ◌∷◌, ◌++◌, Option, Some, None, map, unwrap_or, refl, sym, ap, subst, ◌∙◌, arith, inl, inr, All, IsPermutation, slice_index_or, cases_lt, length-map, get_or_default, get_or_past, All-permutation, range_with_len, IsSortedByKey, is_lt, nat_list_cmp_total, get, values, same_map, slice_cmp-IsAntisymmetric, nat_cmp-IsAntisymmetric, little_bytes, little_number, little_number-reads_back, key_order, array_places, got_index, PlaceKeys, key_in, places, IsDistinct, got, key_or_none, used_places}
use Rattle.std.proofs.lemmas.List.FromFn.{get_or-range_with_len, length-range_with_len}
use Rattle.std.proofs.Math.ListN.{get_or-map}
use Rattle.map_indexes.proofs.ArrayLaws.{get_index}
use Rattle.map_indexes.proofs.PlaceKeysLaws.{get_here}
use Rattle.map_indexes.proofs.KeyOrderLaws.{values-sorted}

abbrev index_keys : ℕ → ℕ → PlaceKeys
index_keys at n = map (λ i. Some (little_bytes 4 i)) (range_with_len at n)

used-index_keys : (at n : ℕ) → used_places at (index_keys at n) ≡ range_with_len at n
used-index_keys at zero = refl
used-index_keys at (suc n) = ap (λ (l : List ℕ). at ∷ l) (used-index_keys (at + 1) n)

module _ (n : ℕ) (small : n ≤ 2 ^ 32) where
  abbrev S : PlaceKeys
  S = index_keys 0 n

  key_in-within : (i : ℕ) → i < n → key_in S i ≡ Some (little_bytes 4 i)
  key_in-within i h =
      let long = length-range_with_len 0 n in
      let e = get_or-range_with_len 0 n i 0 h in
      let same : slice_index_or (range_with_len 0 n) i 0 ≡ i = omega arith in
      let keyed =
      length-map {B = Option (List ℕ)} (range_with_len 0 n) (λ i. Some (little_bytes 4 i)) in
      get_or_default S i None (Some (little_bytes 4 0)) (omega arith)
      ∙ get_or-map (λ (i : ℕ). Some (little_bytes 4 i)) (range_with_len 0 n) i 0
      ∙ ap (λ (j : ℕ). Some (little_bytes 4 j)) same

  key_in-past : (i : ℕ) → n ≤ i → key_in S i ≡ None
  key_in-past i h =
      let long = length-range_with_len 0 n in
      let keyed =
      length-map {B = Option (List ℕ)} (range_with_len 0 n) (λ i. Some (little_bytes 4 i)) in
      get_or_past S i None (omega arith)

  key_in-is : (i : ℕ) (key : List ℕ) → key_in S i ≡ Some key → (i < n) × (key ≡ little_bytes 4 i)
  key_in-is i key e = elim (cases_lt i n) [
    | inl below ↦ let f = sym e ∙ key_in-within i below in (below, cc)
    | inr above ↦ let f = sym e ∙ key_in-past i above in absurd cc
  ]

  back : (i : ℕ) → i < n → little_number 4 (little_bytes 4 i) ≡ i
  back i h = little_number-reads_back 4 i [] (omega arith)

  apart : IsDistinct S
  apart i j key e f =
      let a = key_in-is i key e in
      let b = key_in-is j key f in
      sym (back i a.0) ∙ ap (little_number 4) (sym a.1 ∙ b.1) ∙ back j b.0

  places-index_keys : places S ≡ array_places n
  places-index_keys =
      same_map nat_list_cmp_total (slice_cmp-IsAntisymmetric nat_cmp-IsAntisymmetric) (places S)
      (array_places n)
      (λ q. elim (get (places S) q) as (λ o. get (places S) q ≡ o → o ≡ get (array_places n) q) [
        | Some p ↦ λ e.
            let a = key_in-is p q (got S q p e) in
            sym (ap (get (array_places n)) a.1 ∙ get_index n p small a.0)
        | None ↦
            λ e. elim (get (array_places n) q) as (λ o. get (array_places n) q ≡ o → None ≡ o) [
              | None ↦ λ f. refl
              | Some p ↦ λ f.
                  let a = got_index n q p f in
                  let g = get_here S p q apart (key_in-within p a.0 ∙ ap Some (sym a.1)) in
                  absurd cc
            ] refl
      ] refl)

  key_within : (i : ℕ) → i < n → key_or_none S i ≡ little_bytes 4 i
  key_within i h = ap (λ (o : Option (List ℕ)). unwrap_or o []) (key_in-within i h)

  -- the indexes, sorted by the bytes of their keys, are the places in the order of the keys
  pub indexes-sorted : (ps : List ℕ) → IsPermutation (range_with_len 0 n) ps
      → IsSortedByKey (little_bytes 4) key_order ps
      → ps ≡ values (array_places n)
  indexes-sorted ps moved up =
      let long = length-range_with_len 0 n in
      let inside : All (λ i. i < n) (range_with_len 0 n) =
      λ k d l. let e = get_or-range_with_len 0 n k d (omega arith) in omega arith in
      let each = All-permutation (λ i. i < n) (range_with_len 0 n) ps moved inside in
      let all : IsSortedByKey (key_or_none S) key_order ps =
      λ k d l m.
      let first = key_within (slice_index_or ps k d) (each k d (omega arith)) in
      let second = key_within (slice_index_or ps (k + 1) d) (each (k + 1) d m) in
      (λ i. is_lt (key_order (second i) (first i))) ∙ up k d l m in
      values-sorted S apart ps
      (subst (λ (xs : List ℕ). IsPermutation xs ps) (sym (used-index_keys 0 n)) moved) all
      ∙ ap values places-index_keys

-- ---- one index more

pub range_with_len-more : (a n j : ℕ) → a + n ≡ j
    → range_with_len a (n + 1) ≡ range_with_len a n ++ j ∷ []
range_with_len-more a zero j e = let f : a ≡ j = omega arith in ap (λ (k : ℕ). k ∷ []) f
range_with_len-more a (suc n) j e =
    let s : suc n + 1 ≡ suc (n + 1) = omega arith in
    ap (range_with_len a) s
    ∙ ap (λ (l : List ℕ). a ∷ l) (range_with_len-more (a + 1) n j (omega arith))
