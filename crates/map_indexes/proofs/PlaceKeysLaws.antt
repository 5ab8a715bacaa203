-- Laws of the keys of places: the place of a key is found, and what is there after one was set.
use Rattle.map_indexes.proofs.Common.{◌≡◌, ℕ, zero, suc, ◌+◌, ◌<◌, List, [], ◌∷◌, Option, Some, None, Bool, true, false, cond, length, refl, sym, ap, ◌∙◌, arith, inl, inr, ◌⊎◌, slice_set, replicate, nat_list_cmp_total, key_order, is_key, Places, PlaceKeys, pairs_from, places, key_in, IsDistinct, got, is_key-equal}
use Rattle.std.specs.FinMap.{find, get, insert, remove, get-insert, get-remove, get-from_entries, same_map, slice_cmp-IsAntisymmetric, nat_cmp-IsAntisymmetric}
pub use Rattle.isa_model.proofs.PutKeys.{is_key-itself}

pub key_in-none : (n i : ℕ) → key_in (replicate n None) i ≡ None
key_in-none zero i = refl
key_in-none (suc n) zero = refl
key_in-none (suc n) (suc i) = key_in-none n i

-- a place with this key, which no other place has, is found
pub find_here : (keys : PlaceKeys) (at i : ℕ) (k : List ℕ) → key_in keys i ≡ Some k
    → ((j : ℕ) → key_in keys j ≡ Some k → j ≡ i)
    → find key_order k (pairs_from at keys) ≡ Some (at + i)
find_here [] at i k e d = cc
find_here (None ∷ keys) at zero k e d = cc
find_here (None ∷ keys) at (suc i) k e d =
    let sum : at + 1 + i ≡ at + suc i = omega arith in
    find_here keys (at + 1) i k e (λ j f. let h : suc j ≡ suc i = d (suc j) f in omega arith)
    ∙ ap Some sum
find_here (Some q ∷ keys) at zero k e d =
    let same : q ≡ k = cc in
    let sum : at ≡ at + 0 = omega arith in
    ap (λ (b : Bool). cond b (Some at) (find key_order k (pairs_from (at + 1) keys)))
    (ap (is_key k) same ∙ is_key-itself k) ∙ ap Some sum
find_here (Some q ∷ keys) at (suc i) k e d =
    let sum : at + 1 + i ≡ at + suc i = omega arith in
    let rest =
    find_here keys (at + 1) i k e (λ j f. let h : suc j ≡ suc i = d (suc j) f in omega arith) in
    elim (is_key k q) as (λ b. is_key k q ≡ b
    → cond b (Some at) (find key_order k (pairs_from (at + 1) keys)) ≡ Some (at + suc i)) [
      | true ↦
          λ t. let h : 0 ≡ suc i = d 0 (ap Some (sym (is_key-equal k q t))) in absurd (omega arith)
      | false ↦ λ t. rest ∙ ap Some sum
    ] refl

pub find_none : (keys : PlaceKeys) (at : ℕ) (k : List ℕ) → ((j : ℕ) → key_in keys j ≡ Some k → ⊥)
    → find key_order k (pairs_from at keys) ≡ None
find_none [] at k d = refl
find_none (None ∷ keys) at k d = find_none keys (at + 1) k (λ j f. d (suc j) f)
find_none (Some q ∷ keys) at k d =
    elim (is_key k q) as (λ b. is_key k q ≡ b
    → cond b (Some at) (find key_order k (pairs_from (at + 1) keys)) ≡ None) [
      | true ↦ λ t. absurd (d 0 (ap Some (sym (is_key-equal k q t))))
      | false ↦ λ t. find_none keys (at + 1) k (λ j f. d (suc j) f)
    ] refl

-- the same of the finite map
pub get_here : (keys : PlaceKeys) (i : ℕ) (k : List ℕ) → IsDistinct keys → key_in keys i ≡ Some k
    → get (places keys) k ≡ Some i
get_here keys i k d e =
    let sum : 0 + i ≡ i = omega arith in
    get-from_entries nat_list_cmp_total (pairs_from 0 keys) k
    ∙ find_here keys 0 i k e (λ j f. d j i k f e) ∙ ap Some sum

pub get_none : (keys : PlaceKeys) (k : List ℕ) → ((j : ℕ) → key_in keys j ≡ Some k → ⊥)
    → get (places keys) k ≡ None
get_none keys k d = get-from_entries nat_list_cmp_total (pairs_from 0 keys) k ∙ find_none keys 0 k d

-- the key of a place after one was set
pub set_here : (keys : PlaceKeys) (i : ℕ) (v : Option (List ℕ)) → i < length keys
    → key_in (slice_set keys i v) i ≡ v
set_here [] i v h = absurd (omega arith)
set_here (x ∷ keys) zero v h = refl
set_here (x ∷ keys) (suc i) v h = set_here keys i v (omega arith)

pub set_else : (keys : PlaceKeys) (i j : ℕ) (v : Option (List ℕ)) → (j ≡ i → ⊥)
    → key_in (slice_set keys i v) j ≡ key_in keys j
set_else [] i j v h = refl
set_else (x ∷ keys) zero zero v h = absurd (h refl)
set_else (x ∷ keys) zero (suc j) v h = refl
set_else (x ∷ keys) (suc i) zero v h = refl
set_else (x ∷ keys) (suc i) (suc j) v h = set_else keys i j v (λ e. h (ap suc e))

pub same_or_not : (j i : ℕ) → (j ≡ i) ⊎ (j ≡ i → ⊥)
same_or_not zero zero = inl refl
same_or_not zero (suc i) = inr (λ e. omega arith)
same_or_not (suc j) zero = inr (λ e. omega arith)
same_or_not (suc j) (suc i) =
    elim (same_or_not j i) [ inl e ↦ inl (ap suc e) | inr d ↦ inr (λ e. d (omega arith)) ]

module _ (keys : PlaceKeys) (p : ℕ) (k : List ℕ) (inside : p < length keys)
    (apart : IsDistinct keys) where
  abbrev S : PlaceKeys
  S = keys

  -- ---- a key without a place is given a free one
  module _ (absent : get (places keys) k ≡ None) (empty_there : key_in keys p ≡ None) where
    abbrev added : PlaceKeys
    added = slice_set keys p (Some k)

    nowhere : (j : ℕ) → key_in keys j ≡ Some k → ⊥
    nowhere j e = let h = sym (get_here keys j k apart e) ∙ absent in cc

    from_added : (j : ℕ) (q : List ℕ) → key_in added j ≡ Some q
        → ((j ≡ p) × (q ≡ k)) ⊎ ((j ≡ p → ⊥) × (key_in keys j ≡ Some q))
    from_added j q e = elim (same_or_not j p) [
      | inl h ↦
          inl (
            h,
            let f : key_in added p
                ≡ Some q = ap (key_in added) (sym h)
                ∙ e in let g = set_here keys p (Some k) inside in cc,
          )
      | inr d ↦ inr (d, sym (set_else keys p j (Some k) d) ∙ e)
    ]

    pub added-distinct : IsDistinct added
    added-distinct i j q e f = elim (from_added i q e) [
      | inl a ↦ elim (from_added j q f) [
        | inl b ↦ a.0 ∙ sym b.0
        | inr b ↦ absurd (nowhere j (b.1 ∙ ap Some a.1))
      ]
      | inr a ↦ elim (from_added j q f) [
        | inl b ↦ absurd (nowhere i (a.1 ∙ ap Some b.1))
        | inr b ↦ apart i j q a.1 b.1
      ]
    ]

    get_added : (q : List ℕ)
        → get (places added) q ≡ cond (is_key q k) (Some p) (get (places keys) q)
    get_added q =
        elim (is_key q k) as (λ b. is_key q k ≡ b
        → get (places added) q ≡ cond b (Some p) (get (places keys) q)) [
          | true ↦
              λ t. get_here added p q added-distinct
              (set_here keys p (Some k) inside ∙ ap Some (sym (is_key-equal q k t)))
          | false ↦
              λ t. elim (get (places keys) q) as (λ o. get (places keys) q ≡ o
              → get (places added) q ≡ o) [
                | Some r ↦ λ g. let h : key_in keys r ≡ Some q = got keys q r g in
                    get_here added r q added-distinct
                    (set_else keys p r (Some k)
                    (λ e. let n : key_in keys p ≡ Some q = ap (key_in keys) (sym e) ∙ h in cc) ∙ h)
                | None ↦ λ g. get_none added q (λ j e. elim (from_added j q e) [
                  | inl a ↦
                      let u : is_key q k ≡ true = ap (is_key q) (sym a.1) ∙ is_key-itself q in
                      cc
                  | inr a ↦ let u = sym (get_here keys j q apart a.1) ∙ g in cc
                ])
              ] refl
        ] refl

    pub places-added : places added ≡ insert (places keys) k p
    places-added =
        same_map nat_list_cmp_total (slice_cmp-IsAntisymmetric nat_cmp-IsAntisymmetric) _ _
        (λ q. get_added q ∙ sym (get-insert nat_list_cmp_total (places keys) k p q))

  -- ---- a key is removed from its place
  module _ (present : key_in keys p ≡ Some k) where
    abbrev emptied : PlaceKeys
    emptied = slice_set keys p None

    from_emptied : (j : ℕ) (q : List ℕ) → key_in emptied j ≡ Some q
        → (j ≡ p → ⊥) × (key_in keys j ≡ Some q)
    from_emptied j q e = elim (same_or_not j p) [
      | inl h ↦
          let f : key_in emptied p ≡ Some q = ap (key_in emptied) (sym h) ∙ e in
          let g = set_here keys p None inside in absurd (cc)
      | inr d ↦ (d, sym (set_else keys p j None d) ∙ e)
    ]

    pub emptied-distinct : IsDistinct emptied
    emptied-distinct i j q e f = apart i j q (from_emptied i q e).1 (from_emptied j q f).1

    get_emptied : (q : List ℕ)
        → get (places emptied) q ≡ cond (is_key q k) None (get (places keys) q)
    get_emptied q =
        elim (is_key q k) as (λ b. is_key q k ≡ b
        → get (places emptied) q ≡ cond b None (get (places keys) q)) [
          | true ↦
              λ t. get_none emptied q
              (λ j e. let a = from_emptied j q e in a.0
              (apart j p k (a.1 ∙ ap Some (is_key-equal q k t)) present))
          | false ↦
              λ t. elim (get (places keys) q) as (λ o. get (places keys) q ≡ o
              → get (places emptied) q ≡ o) [
                | Some r ↦ λ g. let h : key_in keys r ≡ Some q = got keys q r g in
                    get_here emptied r q emptied-distinct
                    (set_else keys p r None
                    (λ e. let n : Some k
                    ≡ Some q = sym present ∙ ap (key_in keys) (sym e) ∙ h in let m : q
                    ≡ k = cc in let u : is_key q k
                    ≡ true = ap (is_key q) (sym m) ∙ is_key-itself q in let w : true
                    ≡ false = sym u ∙ t in cc) ∙ h)
                | None ↦
                    λ g. get_none emptied q
                    (λ j e. let u = sym (get_here keys j q apart (from_emptied j q e).1) ∙ g in cc)
              ] refl
        ] refl

    pub places-emptied : places emptied ≡ remove (places keys) k
    places-emptied =
        same_map nat_list_cmp_total (slice_cmp-IsAntisymmetric nat_cmp-IsAntisymmetric) _ _
        (λ q. get_emptied q ∙ sym (get-remove nat_list_cmp_total (places keys) k q))

-- to remove an absent key changes nothing
pub remove_absent : (m : Places) (k : List ℕ) → get m k ≡ None → remove m k ≡ m
remove_absent m k none =
    same_map nat_list_cmp_total (slice_cmp-IsAntisymmetric nat_cmp-IsAntisymmetric) _ _ (λ q.
    get-remove nat_list_cmp_total m k q
    ∙ elim (is_key q k) as (λ b. is_key q k ≡ b → cond b None (get m q) ≡ get m q) [
      | true ↦ λ t. sym none ∙ ap (get m) (sym (is_key-equal q k t))
      | false ↦ λ t. refl
    ] refl)
