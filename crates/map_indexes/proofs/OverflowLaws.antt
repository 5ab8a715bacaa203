-- Laws of the list of the places whose chains were full: a place more or less, and its search.
use Rattle.map_indexes.proofs.Common.{◌≡◌, ℕ, ◌+◌, ◌-◌, ◌<◌, ◌≤◌, [], ◌∷◌, List, length, Option, Some, None, Bool, true, false, ◌||◌, unwrap_or, sym, ap, ap₂, subst, ◌∙◌, arith, inl, inr, is_some, nat_eq, slice_set, cases_lt, get_or_default, list_any-IsPermutation, IsPermutation-insert, IsPermutation-remove, searchable_from_sorted, nat_list_cmp_total, slice_cmp-IsAntisymmetric, nat_cmp-IsAntisymmetric, IsNonDecreasingBy, IsPartitionPoint, is_lt, ordering_index, ordering_reverse, key_order, key_or_none, place_at, is_listed, AreRising, PlaceKeys, key_in}
use Rattle.std.proofs.lemmas.List.Edits.{length-insert, length-remove, get_or-insert_below, get_or-insert_at, get_or-insert_above, get_or-remove_below, get_or-remove_above}
use Rattle.std.proofs.lemmas.List.Folds.{Any-from_list_any, list_any_at}
use Rattle.std.specs.Cmp.{tied_itself}
use Rattle.std.specs.List.{list_any, insert, remove, slice_index_or}
use Rattle.std.specs.declared.cmp.Ordering.TheVariants.{Less, Equal, Greater}
use Rattle.map_indexes.proofs.PlaceKeysLaws.{same_or_not, set_else}

-- ---- the places in the list

itself : (p : ℕ) → nat_eq p p ≡ true
itself p = grind arith

-- the place at an index is in the list
pub listed_at : (xs : List ℕ) (i : ℕ) → i < length xs → is_listed xs (place_at xs i) ≡ true
listed_at xs i l = list_any_at (nat_eq (place_at xs i)) xs i 0 l (itself (place_at xs i))

-- a place in the list is at an index
pub listed_where : (xs : List ℕ) (p : ℕ) → is_listed xs p ≡ true
    → (i : ℕ) × (i < length xs) × (place_at xs i ≡ p)
listed_where xs p e =
    let a = Any-from_list_any (nat_eq p) xs e in
    let same : p ≡ a.1 = let t = a.4 in grind arith in
    (a.0, a.2, get_or_default xs a.0 0 a.1 a.2 ∙ a.3 ∙ sym same)

pub listed-insert : (xs : List ℕ) (i p q : ℕ)
    → is_listed (insert xs i p) q ≡ (nat_eq q p || is_listed xs q)
listed-insert xs i p q =
    sym (list_any-IsPermutation (nat_eq q) (p ∷ xs) (insert xs i p) (IsPermutation-insert xs i p))

-- other places stay where one is taken out
pub listed-remove : (xs : List ℕ) (i q : ℕ) → i < length xs → (q ≡ place_at xs i → ⊥)
    → is_listed (remove xs i) q ≡ is_listed xs q
listed-remove xs i q l d =
    let x = place_at xs i in
    let other : nat_eq q x ≡ false = grind arith in
    let all : list_any (nat_eq q) xs ≡ (nat_eq q x || list_any (nat_eq q) (remove xs i)) =
    list_any-IsPermutation (nat_eq q) xs (x ∷ remove xs i)
    (IsPermutation-remove xs i x l (get_or_default xs i 0 x l)) in
    sym (all ∙ ap (λ (b : Bool). b || list_any (nat_eq q) (remove xs i)) other)

-- ---- the order of their keys

reversed : (a b : List ℕ) → key_order a b ≡ Greater → key_order b a ≡ Less
reversed a b e = nat_list_cmp_total.antisymm b a ∙ ap ordering_reverse e

not_less : (a b : List ℕ) → key_order a b ≡ Less → is_lt (key_order b a) ≡ false
not_less a b e = ap is_lt (nat_list_cmp_total.antisymm b a ∙ ap ordering_reverse e)

pub not_below_itself : (a : List ℕ) → key_order a a ≡ Less → ⊥
not_below_itself a e = let f = tied_itself nat_list_cmp_total a in let g : Less ≡ Equal = sym e ∙ f in cc

-- keys that are Equal are one key
pub equal_keys : (a b : List ℕ) → key_order a b ≡ Equal → a ≡ b
equal_keys a b e = slice_cmp-IsAntisymmetric nat_cmp-IsAntisymmetric a b e

there : (o : Option (List ℕ)) (key : List ℕ) → is_some o ≡ true
    → unwrap_or o [] ≡ key → o ≡ Some key
there None key e f = absurd (cc)
there (Some k) key e f = ap Some f

-- where each key is Less or Greater, none is the key
pub never : (keys : PlaceKeys) (xs : List ℕ) (key : List ℕ) (i : ℕ)
    → IsPartitionPoint (λ p. key_order (key_or_none keys p) key ≡ Less)
    (λ p. key_order (key_or_none keys p) key ≡ Greater) xs i
    → (p : ℕ) → is_listed xs p ≡ true → key_in keys p ≡ Some key → ⊥
never keys xs key i parted p e has =
    let w = listed_where xs p e in
    let its : key_or_none keys p ≡ key = ap (λ (o : Option (List ℕ)). unwrap_or o []) has in
    let level : key_order (key_or_none keys (place_at xs w.0)) key ≡ Equal =
    ap (λ (q : ℕ). key_order (key_or_none keys q) key) w.2
    ∙ ap (λ (k : List ℕ). key_order k key) its ∙ tied_itself nat_list_cmp_total key in
    elim (cases_lt w.0 i) [
      | inl s ↦ let f = parted.0 w.0 0 (omega arith) s in let g : Less ≡ Equal = sym f ∙ level in cc
      | inr s ↦ let f = parted.1 w.0 0 s w.1 in let g : Greater ≡ Equal = sym f ∙ level in cc
    ]

pub rising-nil : (keys : PlaceKeys) → AreRising keys []
rising-nil keys = record { used = λ p e. absurd (cc); rising = λ i j a b. absurd (omega arith) }

module _ (keys : PlaceKeys) (xs : List ℕ) (is : AreRising keys xs) where
  abbrev key_of : ℕ → List ℕ
  key_of p = key_or_none keys p

  -- a binary search goes right
  pub searchable : (key : List ℕ)
      → IsNonDecreasingBy (λ p. ordering_index (key_order (key_of p) key)) xs
  searchable key =
      searchable_from_sorted nat_list_cmp_total key_of xs key
      (λ k d low high.
      let up = is.rising k (k + 1) (omega arith) high in
      let a : slice_index_or xs (k + 1) d ≡ place_at xs (k + 1) =
      get_or_default xs (k + 1) d 0 high in
      let b : slice_index_or xs k d ≡ place_at xs k = get_or_default xs k d 0 (omega arith) in
      ap₂ (λ (x y : ℕ). is_lt (key_order (key_of x) (key_of y))) a b
      ∙ not_less (key_of (place_at xs k)) (key_of (place_at xs (k + 1))) up)

  -- an index whose key is Equal has the key
  pub key_at : (i : ℕ) → i < length xs → (key : List ℕ)
      → key_order (key_of (place_at xs i)) key ≡ Equal → key_in keys (place_at xs i) ≡ Some key
  key_at i l key e =
      let same : key_of (place_at xs i) ≡ key = equal_keys (key_of (place_at xs i)) key e in
      there (key_in keys (place_at xs i)) key (is.used (place_at xs i) (listed_at xs i l)) same

  -- the keys of other places change
  pub rising-other : (p : ℕ) (v : Option (List ℕ)) → (is_listed xs p ≡ true → ⊥)
      → AreRising (slice_set keys p v) xs
  rising-other p v outside =
      let kept : (q : ℕ) → is_listed xs q ≡ true → key_in (slice_set keys p v) q ≡ key_in keys q =
      λ q e. set_else keys p q v (λ s. outside (subst (λ (r : ℕ). is_listed xs r ≡ true) s e)) in
      let key : (i : ℕ) → i < length xs
      → key_or_none (slice_set keys p v) (place_at xs i) ≡ key_of (place_at xs i) =
      λ i l. ap (λ (o : Option (List ℕ)). unwrap_or o [])
      (kept (place_at xs i) (listed_at xs i l)) in
      record {
        used = λ q e. ap is_some (kept q e) ∙ is.used q e;
        rising = λ i j a b. ap₂ key_order (key i (omega arith)) (key j b) ∙ is.rising i j a b;
      }

  -- one place more
  module _ (p i : ℕ) (key : List ℕ) (low : i ≤ length xs) (has : key_in keys p ≡ Some key)
      (below : (k : ℕ) → k < i → key_order (key_of (place_at xs k)) key ≡ Less)
      (above : (k : ℕ) → i ≤ k → k < length xs
      → key_order (key_of (place_at xs k)) key ≡ Greater) where
    abbrev more : List ℕ
    more = insert xs i p

    its : key_of p ≡ key
    its = ap (λ (o : Option (List ℕ)). unwrap_or o []) has

    at_below : (k : ℕ) → k < i → place_at more k ≡ place_at xs k
    at_below k l = get_or-insert_below xs i p 0 k l low

    at_here : (k : ℕ) → k ≡ i → place_at more k ≡ p
    at_here k e = ap (place_at more) e ∙ get_or-insert_at xs i p 0 low

    at_above : (k m : ℕ) → k ≡ m + 1 → i ≤ m → place_at more k ≡ place_at xs m
    at_above k m e l = ap (place_at more) e ∙ get_or-insert_above xs i p 0 m l low

    order : (a b c d : ℕ) → a ≡ c → b ≡ d → key_order (key_of c) (key_of d) ≡ Less
        → key_order (key_of a) (key_of b) ≡ Less
    order a b c d e f h = ap₂ (λ (x y : ℕ). key_order (key_of x) (key_of y)) e f ∙ h

    to_it : (c : ℕ) → key_order (key_of c) key ≡ Less → key_order (key_of c) (key_of p) ≡ Less
    to_it c h = ap (key_order (key_of c)) its ∙ h

    from_it : (c : ℕ) → key_order (key_of c) key ≡ Greater
        → key_order (key_of p) (key_of c) ≡ Less
    from_it c h = ap (λ (x : List ℕ). key_order x (key_of c)) its ∙ reversed (key_of c) key h

    up : (a b : ℕ) → a < b → b < length more
        → key_order (key_of (place_at more a)) (key_of (place_at more b)) ≡ Less
    up a b l w =
        let n = length-insert xs i p low in
        elim (cases_lt b i) [
          | inl s ↦
              order (place_at more a) (place_at more b) (place_at xs a) (place_at xs b)
              (at_below a (omega arith)) (at_below b s) (is.rising a b l (omega arith))
          | inr s ↦ elim (same_or_not b i) [
            | inl e ↦
                order (place_at more a) (place_at more b) (place_at xs a) p
                (at_below a (omega arith)) (at_here b e)
                (to_it (place_at xs a) (below a (omega arith)))
            | inr d ↦
                let m = b - 1 in
                let bm : b ≡ m + 1 = omega (d, arith) in
                let im : i ≤ m = omega (d, arith) in
                elim (cases_lt a i) [
                  | inl t ↦
                      order (place_at more a) (place_at more b) (place_at xs a) (place_at xs m)
                      (at_below a t) (at_above b m bm im)
                      (is.rising a m (omega arith) (omega arith))
                  | inr t ↦ elim (same_or_not a i) [
                    | inl e ↦
                        order (place_at more a) (place_at more b) p (place_at xs m)
                        (at_here a e) (at_above b m bm im)
                        (from_it (place_at xs m) (above m im (omega arith)))
                    | inr g ↦
                        let c = a - 1 in
                        let ac : a ≡ c + 1 = omega (g, arith) in
                        let ic : i ≤ c = omega (g, arith) in
                        order (place_at more a) (place_at more b) (place_at xs c) (place_at xs m)
                        (at_above a c ac ic) (at_above b m bm im)
                        (is.rising c m (omega arith) (omega arith))
                  ]
                ]
          ]
        ]

    pub rising-insert : AreRising keys more
    rising-insert = record {
      used = λ q e. elim (same_or_not q p) [
        | inl s ↦ ap (λ (r : ℕ). is_some (key_in keys r)) s ∙ ap is_some has
        | inr d ↦
            let other : nat_eq q p ≡ false = grind arith in
            is.used q (sym (listed-insert xs i p q
            ∙ ap (λ (b : Bool). b || is_listed xs q) other) ∙ e)
      ];
      rising = up;
    }

  -- one place less
  module _ (i : ℕ) (inside : i < length xs) where
    abbrev fewer : List ℕ
    fewer = remove xs i

    kept_below : (k : ℕ) → k < i → place_at fewer k ≡ place_at xs k
    kept_below k l = get_or-remove_below xs i 0 k l inside

    kept_above : (k : ℕ) → i ≤ k → place_at fewer k ≡ place_at xs (k + 1)
    kept_above k l = get_or-remove_above xs i 0 k l inside

    falls : (a b c d : ℕ) → a ≡ c → b ≡ d → key_order (key_of c) (key_of d) ≡ Less
        → key_order (key_of a) (key_of b) ≡ Less
    falls a b c d e f h = ap₂ (λ (x y : ℕ). key_order (key_of x) (key_of y)) e f ∙ h

    left : (a b : ℕ) → a < b → b < length fewer
        → key_order (key_of (place_at fewer a)) (key_of (place_at fewer b)) ≡ Less
    left a b l w =
        let n = length-remove xs i inside in
        elim (cases_lt b i) [
          | inl s ↦
              falls (place_at fewer a) (place_at fewer b) (place_at xs a) (place_at xs b)
              (kept_below a (omega arith)) (kept_below b s) (is.rising a b l (omega arith))
          | inr s ↦ elim (cases_lt a i) [
            | inl t ↦
                falls (place_at fewer a) (place_at fewer b) (place_at xs a) (place_at xs (b + 1))
                (kept_below a t) (kept_above b s) (is.rising a (b + 1) (omega arith) (omega arith))
            | inr t ↦
                falls (place_at fewer a) (place_at fewer b) (place_at xs (a + 1))
                (place_at xs (b + 1)) (kept_above a t) (kept_above b s)
                (is.rising (a + 1) (b + 1) (omega arith) (omega arith))
          ]
        ]

    -- a place of the rest is one of the places
    pub listed-fewer : (q : ℕ) → is_listed fewer q ≡ true → is_listed xs q ≡ true
    listed-fewer q e =
        let n = length-remove xs i inside in
        let w = listed_where fewer q e in
        let l = w.1 in
        elim (cases_lt w.0 i) [
          | inl s ↦
              subst (λ (r : ℕ). is_listed xs r ≡ true) (sym (kept_below w.0 s) ∙ w.2)
              (listed_at xs w.0 (omega arith))
          | inr s ↦
              subst (λ (r : ℕ). is_listed xs r ≡ true) (sym (kept_above w.0 s) ∙ w.2)
              (listed_at xs (w.0 + 1) (omega arith))
        ]

    -- and no longer the one that was taken out
    pub not_there : is_listed fewer (place_at xs i) ≡ true → ⊥
    not_there e =
        let n = length-remove xs i inside in
        let w = listed_where fewer (place_at xs i) e in
        let l = w.1 in
        elim (cases_lt w.0 i) [
          | inl s ↦
              not_below_itself (key_of (place_at xs i))
              (ap (λ (x : ℕ). key_order (key_of x) (key_of (place_at xs i)))
              (sym w.2 ∙ kept_below w.0 s)
              ∙ is.rising w.0 i s inside)
          | inr s ↦
              not_below_itself (key_of (place_at xs i))
              (ap (λ (x : ℕ). key_order (key_of (place_at xs i)) (key_of x))
              (sym w.2 ∙ kept_above w.0 s)
              ∙ is.rising i (w.0 + 1) (omega arith) (omega arith))
        ]

    pub rising-remove : AreRising keys fewer
    rising-remove = record { used = λ q e. is.used q (listed-fewer q e); rising = left }
