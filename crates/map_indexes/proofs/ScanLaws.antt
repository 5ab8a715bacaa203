-- Laws of places that are scanned, with one key more or less.
use Rattle.map_indexes.proofs.Common.{◌≡◌, ℕ, zero, suc, ◌+◌, ◌-◌, ◌<◌, List, [], ◌∷◌, Option, Some, None, true, cond, length, refl, sym, ap, ◌∙◌, arith, slice_set, is_some, replicate, nat_list_cmp_total, get, len, empty, from_entries, len-insert, len-remove, len-empty, key_order, PlaceKeys, key_in, pairs_from, places, IsScan, key_count, key_inside}
use Rattle.map_indexes.proofs.PlaceKeysLaws.{get_here, key_in-none}
use Rattle.map_indexes.proofs.PlaceKeysLaws.{added-distinct, places-added, emptied-distinct, places-emptied}

pairs_from-none : (at n : ℕ) → pairs_from at (replicate n None) ≡ []
pairs_from-none at zero = refl
pairs_from-none at (suc n) = pairs_from-none (at + 1) n

key_count-none : (n : ℕ) → key_count (replicate n None) ≡ 0
key_count-none zero = refl
key_count-none (suc n) = key_count-none n

-- the finite map of places without keys is empty
pub places-none : (n : ℕ) → places (replicate n None) ≡ empty
places-none n = ap (λ (es : List (List ℕ × ℕ)). from_entries es) (pairs_from-none 0 n)

pub key_count-added : (keys : PlaceKeys) (p : ℕ) (k : List ℕ) → p < length keys
    → key_in keys p ≡ None
    → key_count (slice_set keys p (Some k)) ≡ key_count keys + 1
key_count-added [] p k l e = absurd (omega arith)
key_count-added (None ∷ keys) zero k l e = omega arith
key_count-added (None ∷ keys) (suc p) k l e =
    let h = key_count-added keys p k (omega arith) e in omega arith
key_count-added (Some q ∷ keys) zero k l e = absurd (cc)
key_count-added (Some q ∷ keys) (suc p) k l e =
    let h = key_count-added keys p k (omega arith) e in omega arith

pub key_count-emptied : (keys : PlaceKeys) (p : ℕ) (k : List ℕ) → key_in keys p ≡ Some k
    → key_count (slice_set keys p None) + 1 ≡ key_count keys
key_count-emptied [] p k e = absurd (cc)
key_count-emptied (None ∷ keys) zero k e = absurd (cc)
key_count-emptied (None ∷ keys) (suc p) k e = let h = key_count-emptied keys p k e in omega arith
key_count-emptied (Some q ∷ keys) zero k e = omega arith
key_count-emptied (Some q ∷ keys) (suc p) k e = let h = key_count-emptied keys p k e in omega arith

-- where each place has a key, each is counted
pub key_count-all : (keys : PlaceKeys)
    → ((j : ℕ) → j < length keys → is_some (key_in keys j) ≡ true) → key_count keys ≡ length keys
key_count-all [] f = refl
key_count-all (None ∷ keys) f = let h = f 0 (omega arith) in absurd (cc)
key_count-all (Some q ∷ keys) f =
    let h = key_count-all keys (λ j l. f (suc j) (omega arith)) in omega arith

module _ (keys : PlaceKeys) (count : ℕ) (is : IsScan keys count) (k : List ℕ) (p : ℕ) where
  module _ (inside : p < length keys) (free : key_in keys p ≡ None)
      (absent : get (places keys) k ≡ None) where
    pub scan-added : IsScan (slice_set keys p (Some k)) (count + 1)
    scan-added = record {
      distinct = added-distinct keys p k inside is.distinct absent free;
      counted = let a = is.counted in let b = key_count-added keys p k inside free in omega arith;
      mapped =
          let a = is.mapped in
          let b : len (places (slice_set keys p (Some k))) ≡ len (places keys) + 1 =
          ap len (places-added keys p k inside is.distinct absent free)
          ∙ len-insert nat_list_cmp_total (places keys) k p
          ∙ ap (λ (o : Option ℕ). cond (is_some o) (len (places keys)) (len (places keys) + 1))
          absent in
          omega arith;
    }

  module _ (present : key_in keys p ≡ Some k) where
    here : get (places keys) k ≡ Some p
    here = get_here keys p k is.distinct present

    pub scan_some : 0 < count
    scan_some = let a = is.counted in let b = key_count-emptied keys p k present in omega arith

    pub scan-emptied : IsScan (slice_set keys p None) (count - 1)
    scan-emptied =
        let inside = key_inside keys p k present in
        record {
          distinct = emptied-distinct keys p k inside is.distinct present;
          counted = let a = is.counted in let b = key_count-emptied keys p k present in omega arith;
          mapped =
              let a = is.mapped in
              let b : len (places (slice_set keys p None)) ≡ len (places keys) - 1 =
              ap len (places-emptied keys p k inside is.distinct present)
              ∙ len-remove nat_list_cmp_total (places keys) k
              ∙ ap (λ (o : Option ℕ). cond (is_some o) (len (places keys) - 1) (len (places keys)))
              here in
              omega arith;
        }

-- places without keys
pub scan-none : (n : ℕ) → IsScan (replicate n None) 0
scan-none n = record {
  distinct = λ i j k e f. let h = key_in-none n i in absurd (cc);
  counted = sym (key_count-none n);
  mapped = sym (ap len (places-none n) ∙ len-empty key_order ℕ);
}
