-- A key's place among the places of all other keys, in the order of the keys.
use Rattle.maps.proofs.Common.{◌≡◌, ℕ, zero, suc, ◌+◌, ◌<◌, ◌≤◌, List, [], ◌∷◌, ◌++◌, Some, None, Bool, true, false, cond, map, take, drop, length, refl, sym, ap, subst, ◌∙◌, arith, inl, inr, ◌≢◌, T, slice_index_or, insert, is_lt, ordering_reverse, nat_list_cmp_total, below_all, by_order, put, below_or_above, length-map, slice_get-get_or, key_order, is_key, Places, PlaceKeys, key_in, places, got, is_key-equal, is_key-itself}
use Rattle.std.specs.declared.cmp.Ordering.{Ordering}
use Rattle.std.specs.declared.cmp.Ordering.TheVariants.{Less, Equal, Greater}
use Rattle.std.specs.FinMap.{entries, entries_sorted, entries-insert, get, get-insert, get-remove, insert as with_pair, is_sorted, remove, same_map, values, slice_cmp-IsAntisymmetric, nat_cmp-IsAntisymmetric}
use Rattle.std.proofs.Math.Dec.{eqb}
use Rattle.std.proofs.Math.ListN.{get_or-map}
use Rattle.std.proofs.lemmas.Bool.{eqb-true, eqb-false}
use Rattle.isa_model.proofs.TestLaws.{both_parts, less_is, is_less}
use Rattle.maps.proofs.ReportOrderLaws.{above, get_at}

abbrev Keyed : Type 0
Keyed = List (List ℕ × ℕ)

abbrev no_key : List ℕ × ℕ
no_key = ([], 0)

abbrev pub pair_in : Keyed → ℕ → List ℕ × ℕ
pair_in es j = slice_index_or es j no_key

-- whether a key is below another
abbrev pub IsBelow : List ℕ → List ℕ → Type 0
IsBelow j k = T (is_lt (key_order j k))

reversed : (j k : List ℕ) → IsBelow j k → key_order k j ≡ Greater
reversed j k l = nat_list_cmp_total.antisymm k j ∙ ap ordering_reverse (is_less (key_order j k) l)

pub below-below : (j k l : List ℕ) → IsBelow j k → IsBelow k l → IsBelow j l
below-below j k l a b =
    less_is (key_order j l)
    (nat_list_cmp_total.trans j k l (is_less (key_order j k) a) (is_less (key_order k l) b))

-- what is neither below nor equal is above
not_below : (r : Ordering) → is_lt r ≡ false → r ≢ Equal → ordering_reverse r ≡ Less
not_below Less e d = absurd cc
not_below Equal e d = absurd (d refl)
not_below Greater e d = refl

pub below_else_above : (j k : List ℕ) → is_lt (key_order j k) ≡ false → j ≢ k → IsBelow k j
below_else_above j k e d =
    less_is (key_order k j) (nat_list_cmp_total.antisymm k j
    ∙ not_below (key_order j k) e
    (λ same. d (slice_cmp-IsAntisymmetric nat_cmp-IsAntisymmetric j k same)))

-- a new key comes after the keys that are below it
put_at : (key : List ℕ) (p : ℕ) (es : Keyed) (r : ℕ) → r ≤ length es
    → ((j : ℕ) → j < r → IsBelow (pair_in es j).0 key)
    → ((j : ℕ) → r ≤ j → j < length es → IsBelow key (pair_in es j).0)
    → put key_order key p es ≡ take r es ++ (key, p) ∷ drop r es
put_at key p [] zero l below after = refl
put_at key p [] (suc r) l below after = absurd (omega arith)
put_at key p (e ∷ es) zero l below after =
    let first : key_order key e.0 ≡ Less =
    is_less (key_order key e.0) (after 0 (omega arith) (omega arith)) in
    ap (λ (o : Ordering). by_order o ((key, p) ∷ e ∷ es) ((e.0, p) ∷ es)
    (e ∷ put key_order key p es)) first
put_at key p (e ∷ es) (suc r) l below after =
    let first : key_order key e.0 ≡ Greater = reversed e.0 key (below 0 (omega arith)) in
    ap (λ (o : Ordering). by_order o ((key, p) ∷ e ∷ es) ((e.0, p) ∷ es)
    (e ∷ put key_order key p es)) first
    ∙ ap (λ (xs : Keyed). e ∷ xs)
    (put_at key p es r (omega arith) (λ j m. below (suc j) (omega arith))
    (λ j m n. after (suc j) (omega arith) (omega arith)))

-- the keys of a sorted list rise
pub rising : (es : Keyed) → T (is_sorted key_order es) → (i j : ℕ) → i < j → j < length es
    → IsBelow (pair_in es i).0 (pair_in es j).0
rising [] s i j l m = absurd (omega arith)
rising (e ∷ es) s i zero l m = absurd (omega arith)
rising (e ∷ es) s zero (suc j) l m =
    above e.0 es j (pair_in es j)
    (both_parts (below_all key_order e.0 es) (is_sorted key_order es) s).0
    (slice_get-get_or es j no_key (omega arith))
rising (e ∷ es) s (suc i) (suc j) l m =
    rising es (both_parts (below_all key_order e.0 es) (is_sorted key_order es) s).1 i j (omega arith)
    (omega arith)

pub length-values_of : (P : Places) → length (values P) ≡ length (entries P)
length-values_of P = length-map {B = ℕ} (entries P) (λ e. e.1)

module _ (keys : PlaceKeys) (key : List ℕ) where
  abbrev Q : Places
  Q = remove (places keys) key

  abbrev es : Keyed
  es = entries Q

  abbrev pub key_at : ℕ → List ℕ
  key_at j = (pair_in es j).0

  pub length-values : length (values Q) ≡ length es
  length-values = length-map {B = ℕ} es (λ e. e.1)

  has_at : (j : ℕ) → j < length es → get Q (key_at j) ≡ Some (pair_in es j).1
  has_at j l = get_at Q j (pair_in es j) (slice_get-get_or es j no_key l)

  other_at : (j : ℕ) → j < length es
      → (is_key (key_at j) key ≡ false) × (get (places keys) (key_at j) ≡ Some (pair_in es j).1)
  other_at j l =
      by (is_key (key_at j) key) refl
      (sym (get-remove nat_list_cmp_total (places keys) key (key_at j)) ∙ has_at j l)
    where
      by : (b : Bool) → is_key (key_at j) key ≡ b
          → cond b None (get (places keys) (key_at j)) ≡ Some (pair_in es j).1
          → (is_key (key_at j) key ≡ false)
          × (get (places keys) (key_at j) ≡ Some (pair_in es j).1)
      by true t f = absurd cc
      by false t f = (t, f)

  place_at : (j : ℕ) → slice_index_or (values Q) j 0 ≡ (pair_in es j).1
  place_at j = get_or-map (λ (e : List ℕ × ℕ). e.1) es j no_key

  -- each listed place has its key
  pub listed_key_at : (j : ℕ) → j < length (values Q)
      → key_in keys (slice_index_or (values Q) j 0) ≡ Some (key_at j)
  listed_key_at j l =
      let long = length-values in
      ap (key_in keys) (place_at j)
      ∙ got keys (key_at j) (pair_in es j).1 (other_at j (omega arith)).1

  pub keys_rise : (i j : ℕ) → i < j → j < length (values Q) → IsBelow (key_at i) (key_at j)
  keys_rise i j l m =
      let long = length-values in
      rising es (entries_sorted Q) i j l (omega arith)

  pub keys_differ : (j : ℕ) → j < length (values Q) → key_at j ≢ key
  keys_differ j l same =
      let long = length-values in
      let o = other_at j (omega arith) in
      let f = sym o.0 ∙ ap (λ (k : List ℕ). is_key k key) same ∙ is_key-itself key in
      absurd cc

  -- what holds of one listed key, holds of those before it, or after it
  pub below_up_to : (m : ℕ) → m < length (values Q) → IsBelow (key_at m) key
      → (j : ℕ) → j < m + 1 → IsBelow (key_at j) key
  below_up_to m inside here j l = elim (eqb j m) as (λ b. eqb j m ≡ b → IsBelow (key_at j) key) [
    | true ↦ λ t. subst (λ (n : ℕ). IsBelow (key_at n) key) (sym (eqb-true j m t)) here
    | false ↦ λ t.
        let less : j < m = elim (below_or_above j m (eqb-false j m t))
        [ inl h ↦ h | inr h ↦ absurd (omega arith) ] in
        below-below (key_at j) (key_at m) key (keys_rise j m less inside) here
  ] refl

  pub above_from : (m : ℕ) → IsBelow key (key_at m) → (j : ℕ) → m ≤ j → j < length (values Q)
      → IsBelow key (key_at j)
  above_from m here j l inside = elim (eqb j m) as (λ b. eqb j m ≡ b → IsBelow key (key_at j)) [
    | true ↦ λ t. subst (λ (n : ℕ). IsBelow key (key_at n)) (sym (eqb-true j m t)) here
    | false ↦ λ t.
        let more : m < j = elim (below_or_above j m (eqb-false j m t))
        [ inl h ↦ absurd (omega arith) | inr h ↦ h ] in
        below-below key (key_at m) (key_at j) here (keys_rise m j more inside)
  ] refl

  pub listed_at : (list : List ℕ) → list ≡ values Q → (j : ℕ) → j < length list
      → key_in keys (slice_index_or list j 0) ≡ Some (key_at j)
  listed_at list is j l =
      let n = ap length is in
      ap (λ (xs : List ℕ). key_in keys (slice_index_or xs j 0)) is ∙ listed_key_at j (omega arith)

  -- with the key's place after those of the keys below it, all places are listed
  pub values-inserted : (r p : ℕ) → r ≤ length (values Q)
      → ((j : ℕ) → j < r → IsBelow (key_at j) key)
      → ((j : ℕ) → r ≤ j → j < length (values Q) → IsBelow key (key_at j))
      → get (places keys) key ≡ Some p → insert (values Q) r p ≡ values (places keys)
  values-inserted r p l below after there =
      let long = length-values in
      let same : places keys ≡ with_pair Q key p =
      same_map nat_list_cmp_total (slice_cmp-IsAntisymmetric nat_cmp-IsAntisymmetric) (places keys)
      (with_pair Q key p) each in
      let listed = put_at key p es r (omega arith) below (λ j m n. after j m (omega arith)) in
      sym (ap (λ (P : Places). values P) same
      ∙ ap (λ (xs : Keyed). map (λ e. e.1) xs) (entries-insert nat_list_cmp_total Q key p ∙ listed)
      ∙ parts r es)
    where
      parts : (r : ℕ) (xs : Keyed)
          → map (λ e. e.1) (take r xs ++ (key, p) ∷ drop r xs) ≡ insert (map (λ e. e.1) xs) r p
      parts zero xs = refl
      parts (suc r) [] = refl
      parts (suc r) (x ∷ xs) = ap (λ (ys : List ℕ). x.1 ∷ ys) (parts r xs)

      each : (q : List ℕ) → get (places keys) q ≡ get (with_pair Q key p) q
      each q = by (is_key q key) refl ∙ sym (get-insert nat_list_cmp_total Q key p q)
        where
          by : (b : Bool) → is_key q key ≡ b
              → get (places keys) q ≡ cond (is_key q key) (Some p) (get Q q)
          by true t =
              ap (get (places keys)) (is_key-equal q key t) ∙ there
              ∙ ap (λ (b : Bool). cond b (Some p) (get Q q)) (sym t)
          by false t =
              sym (ap (λ (b : Bool). cond b (Some p) (get Q q)) t
              ∙ get-remove nat_list_cmp_total (places keys) key q
              ∙ ap (λ (b : Bool). cond b None (get (places keys) q)) t)

-- a list with one more
pub length-inserted : (xs : List ℕ) (r p : ℕ) → length (insert xs r p) ≡ length xs + 1
length-inserted [] zero p = refl
length-inserted [] (suc r) p = refl
length-inserted (x ∷ xs) zero p = omega arith
length-inserted (x ∷ xs) (suc r) p = let e = length-inserted xs r p in omega arith
