-- Lists of which some is forgotten.
use Rattle.table_entries.proofs.Common.{◌≡◌, ℕ, ◌-◌, ◌<◌, ◌⊎◌, List, ◌++◌, length, drop, replicate, get_or, slice_set, inl, inr, ap, sym, ◌∙◌, subst, arith, refl, cases_eq, cases_lt, get_or-set_same, get_or-set_other, get_or_default, get_or_append_left, get_or-append_right, get_or-replicate, get_or-drop, length-replicate, IsWeakerList}

pub IsWeakerList-same : {X : Type 0} (d : X) (xs : List X) → IsWeakerList d xs xs
IsWeakerList-same d xs = λ k. inl refl

-- where an element is set to what it was, or to d
pub IsWeakerList-set : {X : Type 0} (d : X) (xs ys : List X) (i : ℕ) (x y : X) → i < length ys
    → (y ≡ get_or ys i x) ⊎ (y ≡ d) → IsWeakerList d xs ys → IsWeakerList d xs (slice_set ys i y)
IsWeakerList-set d xs ys i x y inside one each = λ k. elim (cases_eq k i) [
  | inl here ↦ subst (λ (n : ℕ). (get_or (slice_set ys i y) n d ≡ get_or xs n d)
      ⊎ (get_or (slice_set ys i y) n d ≡ d)) (sym here) (at_index one (each i))
  | inr other ↦ elim (each k) [
    | inl same ↦ inl (get_or-set_other ys i k y d other ∙ same)
    | inr gone ↦ inr (get_or-set_other ys i k y d other ∙ gone)
  ]
] where
  set : get_or (slice_set ys i y) i d ≡ y
  set = get_or-set_same ys i y d inside

  at_index : (y ≡ get_or ys i x) ⊎ (y ≡ d)
      → (get_or ys i d ≡ get_or xs i d) ⊎ (get_or ys i d ≡ d)
      → (get_or (slice_set ys i y) i d ≡ get_or xs i d) ⊎ (get_or (slice_set ys i y) i d ≡ d)
  at_index (inr gone) before = inr (set ∙ gone)
  at_index (inl same) (inl before) = inl (set ∙ same ∙ get_or_default ys i x d inside ∙ before)
  at_index (inl same) (inr before) = inr (set ∙ same ∙ get_or_default ys i x d inside ∙ before)

-- where the first elements are d
pub IsWeakerList-front : {X : Type 0} (d : X) (n : ℕ) (xs : List X)
    → IsWeakerList d xs (replicate n d ++ drop n xs)
IsWeakerList-front d n xs = λ k. elim (cases_lt k n) [
  | inl below ↦ inr (get_or_append_left (replicate n d) (drop n xs) d k (omega (arith, count))
      ∙ get_or-replicate n k d d below)
  | inr above ↦ inl (get_or-append_right (replicate n d) (drop n xs) n k d count above
      ∙ get_or-drop n xs (k - n) d ∙ ap (λ (j : ℕ). get_or xs j d) (omega arith))
] where
  count : length (replicate n d) ≡ n
  count = length-replicate n d
