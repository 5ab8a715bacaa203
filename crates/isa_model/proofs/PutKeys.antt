-- Laws of a content after a value is put: what holds of its keys and values, their order, and which
-- keys it has.
use Rattle.isa_model.proofs.Common.{◌≡◌, ℕ, ◌+◌, ◌≤◌, Bool, true, false, cond, T, List, [], ◌∷◌, map, length, is_some, All, Contains, Some, ap, sym, subst, ◌∙◌, arith, refl, AllByRecursion, is_lt, nat_list_cmp_total, Less, Equal, Greater, by_order, below_all, is_sorted, find-put, is_some-find, length-put, All-nil, All-cons, All-head, All-tail, key_order, is_key, at_key, has_key, with_key}
use Rattle.std.specs.List.Sorted.{IsStrictlySortedBy}
use Rattle.std.specs.Cmp.{eq_by_cmp_equiv}
use Rattle.std.specs.FinMap.{slice_cmp-IsAntisymmetric, nat_cmp-IsAntisymmetric}
use Rattle.std.proofs.lemmas.Map.Views.{Contains-from_any}
use Rattle.isa_model.proofs.TestLaws.{both_parts, is_less, is_equal}

-- what holds of each key with its value holds of each after a value is put, if it holds of the new
-- pair and does not depend on the value
pub All-with_key : {X : Type 0} (P : List ℕ × X → Type 0) (k : List ℕ) (v : X)
    (es : List (List ℕ × X)) → P (k, v)
    → ((j : List ℕ) (w : X) → P (j, w) → P (j, v)) → All P es → All P (with_key k v es)
All-with_key P k v [] new changed h = All-cons P (k, v) [] new (All-nil P)
All-with_key P k v (e ∷ es) new changed h =
    let first = All-head P e es h in
    let rest = All-tail P e es h in
    elim (key_order k e.0) as (λ o. All P
    (by_order o ((k, v) ∷ e ∷ es) ((e.0, v) ∷ es) (e ∷ with_key k v es))) [
      | Less ↦ All-cons P (k, v) (e ∷ es) new h
      | Equal ↦ All-cons P (e.0, v) es (changed e.0 e.1 first) rest
      | Greater ↦ All-cons P e (with_key k v es) first (All-with_key P k v es new changed rest)
    ]

-- a key is itself
pub is_key-itself : (k : List ℕ) → is_key k k ≡ true
is_key-itself k = (eq_by_cmp_equiv nat_list_cmp_total).refl k

-- keys that rise are in order
pub IsStrictlySortedBy-is_sorted : {X : Type 0} (es : List (List ℕ × X))
    → T (is_sorted key_order es)
    → IsStrictlySortedBy key_order (map (λ e. e.0) es)
unfolding IsStrictlySortedBy
IsStrictlySortedBy-is_sorted [] h = tt
IsStrictlySortedBy-is_sorted {X} (e ∷ es) h =
    let parts = both_parts (below_all key_order e.0 es) (is_sorted key_order es) h in
    (above es parts.0, IsStrictlySortedBy-is_sorted es parts.1)
  where
    above : (fs : List (List ℕ × X)) → T (below_all key_order e.0 fs)
        → AllByRecursion (λ y. key_order e.0 y ≡ Less) (map (λ f. f.0) fs)
    above [] g = tt
    above (f ∷ fs) g =
        let parts = both_parts (is_lt (key_order e.0 f.0)) (below_all key_order e.0 fs) g in
        (is_less (key_order e.0 f.0) parts.0, above fs parts.1)

-- a key that is found is one of the keys
pub Contains-has_key : {X : Type 0} (k : List ℕ) (es : List (List ℕ × X)) → has_key k es ≡ true
    → Contains (map (λ e. e.0) es) k
Contains-has_key k es h =
    Contains-from_any
    (λ x y e. slice_cmp-IsAntisymmetric nat_cmp-IsAntisymmetric x y
    (is_equal (key_order x y) e))
    k (map (λ e. e.0) es)
    (sym (is_some-find key_order k es) ∙ h)

-- the key that a value is put at is found
pub has_key-with_key : {X : Type 0} (k : List ℕ) (v : X) (es : List (List ℕ × X))
    → has_key k (with_key k v es) ≡ true
has_key-with_key k v es =
    ap is_some (find-put key_order nat_list_cmp_total k k v es)
    ∙ ap (λ (b : Bool). is_some (cond b (Some v) (at_key k es)))
    (is_key-itself k)

-- and each key that was
pub has_key-after_with_key : {X : Type 0} (q k : List ℕ) (v : X) (es : List (List ℕ × X))
    → has_key q es ≡ true
    → has_key q (with_key k v es) ≡ true
has_key-after_with_key q k v es h =
    ap is_some (find-put key_order nat_list_cmp_total q k v es)
    ∙ elim (is_key q k) as (λ b. is_some (cond b (Some v) (at_key q es)) ≡ true)
    [ true ↦ refl | false ↦ h ]

-- at most one key more
pub length-with_key : {X : Type 0} (k : List ℕ) (v : X) (es : List (List ℕ × X))
    → T (is_sorted key_order es)
    → length (with_key k v es) ≤ length es + 1
length-with_key k v es h =
    subst (λ n. n ≤ length es + 1) (sym (length-put key_order nat_list_cmp_total k v es h))
    (elim (has_key k es) as (λ b. cond b (length es) (length es + 1) ≤ length es + 1) [
      | true ↦ omega arith
      | false ↦ omega arith
    ])
