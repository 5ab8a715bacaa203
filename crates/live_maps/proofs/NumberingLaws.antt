-- Laws of the numbering at the start of a run.
use Rattle.live_maps.proofs.Common.{◌≡◌, ℕ, zero, suc, ◌+◌, ◌-◌, ◌<◌, ◌≤◌, List, [], ◌∷◌, map, length, Option, Some, true, false, cond, refl, sym, ap, subst, ◌∙◌, arith, inl, inr, ◌≢◌, All, slice_set, slice_index_or, unwrap_or, get, entries, values, get-entries, len-entries, find, get_or-map, eqb, eqb-true, eqb-false, get_or-set_same, get_or-set_other, get_or_default, length-map, take_all, slice_get-get_or, key_order, is_key, block_row, below_or_above, Places, changed, get_at, MapState, IsMap, map_at, content_in, contents_of, Serials, serial_in, serials_at, stored, live_content, live_contents, HasSerials, AreLive, AreDistinct, AreNumbered, NumbersAll, count_before, place_in}
use Rattle.isa_model.specs.Running.Runs.{numbered, numbered_maps, count_map_values}
use Rattle.live_maps.proofs.KeyValueLaws.{AreApart, keys-apart}

-- a serial of numbered places is that of a place of the list
pub numbered_only : (n : ℕ) (places : List ℕ) (serials : Serials) → NumbersAll n places serials
    → (p k : ℕ) → serial_in serials p ≡ Some k
    → (i : ℕ) × (i < length places) × (place_in places i ≡ p) × (k ≡ n + i)
numbered_only n places serials h p k e =
    let r = h.only p k e in
    let f : Some (n + r.0) ≡ Some k = sym (h.there r.0 r.1) ∙ ap (serial_in serials) r.2 ∙ e in
    let equal : k ≡ n + r.0 = cc in
    (r.0, r.1, r.2, equal)

abbrev no_key : List ℕ × ℕ
no_key = ([], 0)

module _ (P : Places) where
  abbrev es : List (List ℕ × ℕ)
  es = entries P

  values-at : (i : ℕ) → place_in (values P) i ≡ (slice_index_or es i no_key).1
  values-at i = get_or-map (λ (e : List ℕ × ℕ). e.1) es i no_key

  length-values : length (values P) ≡ length es
  length-values = length-map {B = ℕ} es (λ e. e.1)

  pub key_at : (i : ℕ) → i < length (values P)
      → get P (slice_index_or es i no_key).0 ≡ Some (place_in (values P) i)
  key_at i l =
      let long = length-values in
      get_at P i (slice_index_or es i no_key) (slice_get-get_or es i no_key (omega arith))
      ∙ ap Some (sym (values-at i))

  index_in : (key : List ℕ) (p : ℕ) (es : List (List ℕ × ℕ)) → find key_order key es ≡ Some p
      → (i : ℕ) × (i < length es) × ((slice_index_or es i no_key).1 ≡ p)
  index_in key p [] e = absurd cc
  index_in key p (x ∷ es) e =
      elim (is_key key x.0) as (λ b. cond b (Some x.1) (find key_order key es) ≡ Some p
      → (i : ℕ) × (i < suc (length es)) × ((slice_index_or (x ∷ es) i no_key).1 ≡ p)) [
        | true ↦ λ f. (0, omega arith, cc)
        | false ↦ λ f. let r = index_in key p es f in let l = r.1 in (suc r.0, omega arith, r.2)
      ] e

  -- each key's place is listed
  pub value_index : (key : List ℕ) (p : ℕ) → get P key ≡ Some p
      → (i : ℕ) × (i < length (values P)) × (place_in (values P) i ≡ p)
  value_index key p e =
      let r = index_in key p es (sym (get-entries P key) ∙ e) in
      let l = r.1 in
      let long = length-values in
      (r.0, omega arith, values-at r.0 ∙ r.2)

  apart_at : (es : List (List ℕ × ℕ)) → AreApart es → (i j : ℕ) → i < j → j < length es
      → (slice_index_or es j no_key).1 ≢ (slice_index_or es i no_key).1
  apart_at [] h i j l m = absurd (omega arith)
  apart_at (e ∷ es) h i zero l m = absurd (omega arith)
  apart_at (e ∷ es) h zero (suc j) l m = h.0 j no_key (omega arith)
  apart_at (e ∷ es) h (suc i) (suc j) l m = apart_at es h.1 i j (omega arith) (omega arith)

  -- no place is listed twice
  pub values-distinct : ((j k : List ℕ) (p : ℕ) → get P j ≡ Some p → get P k ≡ Some p → j ≡ k)
      → AreDistinct (values P)
  values-distinct apart i j l m same =
      let long = length-values in
      let h = keys-apart P apart in
      let equal : (slice_index_or es i no_key).1 ≡ (slice_index_or es j no_key).1 =
      sym (values-at i) ∙ same ∙ values-at j in
      elim (eqb i j) as (λ b. eqb i j ≡ b → i ≡ j) [
        | true ↦ λ t. eqb-true i j t
        | false ↦ λ t. elim (below_or_above i j (eqb-false i j t)) [
          | inl less ↦ absurd (apart_at es h i j less (omega arith) (sym equal))
          | inr more ↦ absurd (apart_at es h j i more (omega arith) equal)
        ]
      ] refl

-- a map whose keys' values are numbered
pub HasSerials-numbered : (n next : ℕ) (m : MapState) (serials : Serials) → IsMap m
    → length serials ≡ m.row.entries → n + length (values m.places) ≤ next
    → NumbersAll n (values m.places) serials → HasSerials next m serials
HasSerials-numbered n next m serials is long room h = record {
  is_map = is;
  long = long;
  given = λ key p e.
      let r = value_index m.places key p e in
      (n + r.0, ap (serial_in serials) (sym r.2) ∙ h.there r.0 r.1);
  owned = λ p k e.
      let r = numbered_only n (values m.places) serials h p k e in
      let less = r.1 in
      let equal = r.3 in (
        omega arith,
        (slice_index_or (entries m.places) r.0 no_key).0,
        key_at m.places r.0 less
            ∙ ap Some r.2,
      );
  once = λ p q k e f.
      let r = numbered_only n (values m.places) serials h p k e in
      let t = numbered_only n (values m.places) serials h q k f in
      let a = r.3 in
      let b = t.3 in
      let same : r.0 ≡ t.0 = omega arith in
      sym r.2 ∙ ap (place_in (values m.places)) same ∙ t.2;
}

-- the values are numbered by their keys
content-numbered : (m : MapState) (serials : Serials) (n : ℕ) (es : List (List ℕ × ℕ))
    → ((i : ℕ) → i < length es → serial_in serials (slice_index_or es i no_key).1 ≡ Some (n + i))
    → changed (stored m serials) es
    ≡ numbered n (map (λ e. (e.0, block_row m.row.value_size m.block e.1)) es)
content-numbered m serials n [] each = refl
content-numbered m serials n (e ∷ es) each =
    let z : n + 0 ≡ n = omega arith in
    let first : unwrap_or (serial_in serials e.1) 0 ≡ n =
    ap (λ (o : Option ℕ). unwrap_or o 0) (each 0 (omega arith)) ∙ z in
    let rest = content-numbered m serials (suc n) es
    (λ i l. let s : n + suc i
    ≡ suc n + i = omega arith in each (suc i) (omega arith) ∙ ap Some s) in
    λ j. (e.0, record { serial = first j; bytes = block_row m.row.value_size m.block e.1 }) ∷ rest j

pub live_content-numbered : (m : MapState) (serials : Serials) (n : ℕ)
    → NumbersAll n (values m.places) serials
    → live_content m serials ≡ numbered n (content_in m)
live_content-numbered m serials n h =
    let long = length-values m.places in
    content-numbered m serials n (entries m.places)
    (λ i l. ap (serial_in serials) (sym (values-at m.places i)) ∙ h.there i (omega arith))

length-content_in : (m : MapState) → length (content_in m) ≡ length (values m.places)
length-content_in m =
    length-map {B = List ℕ × List ℕ} (entries m.places)
    (λ e. (e.0, block_row m.row.value_size m.block e.1)) ∙ sym (length-values m.places)

-- one map more
pub count_before-suc : (maps : List MapState) (m : ℕ) → m < length maps
    → count_before maps (m + 1) ≡ count_before maps m + length (values (map_at maps m).places)
count_before-suc [] m l = absurd (omega arith)
count_before-suc (x ∷ maps) zero l = let e = length-content_in x in omega arith
count_before-suc (x ∷ maps) (suc m) l =
    let s : suc m + 1 ≡ suc (m + 1) = omega arith in
    let e = count_before-suc maps m (omega arith) in
    ap (count_before (x ∷ maps)) s ∙ (omega arith)

-- the maps are numbered one after another
pub live_contents-numbered : (n : ℕ) (maps : List MapState) (all : List Serials)
    → length all ≡ length maps
    → ((m : ℕ) → m < length maps
    → NumbersAll (n + count_before maps m) (values (map_at maps m).places) (serials_at all m))
    → live_contents maps all ≡ numbered_maps n (contents_of maps)
unfolding live_contents
live_contents-numbered n [] all long each = refl
live_contents-numbered n (x ∷ maps) [] long each = absurd (omega arith)
live_contents-numbered n (x ∷ maps) (s ∷ all) long each =
    let z : n + 0 ≡ n = omega arith in
    let first =
    live_content-numbered x s n
    (subst (λ (k : ℕ). NumbersAll k (values x.places) s) z (each 0 (omega arith))) in
    let rest = live_contents-numbered (n + length (content_in x)) maps all (omega arith)
    (λ m l.
    let a : n + count_before (x ∷ maps) (suc m) ≡ n + length (content_in x) + count_before maps m =
    omega arith in
    subst (λ (k : ℕ). NumbersAll k (values (map_at maps m).places) (serials_at all m)) a
    (each (suc m) (omega arith))) in
    λ i. first i ∷ rest i

pub count_before-all : (maps : List MapState)
    → count_before maps (length maps) ≡ count_map_values (contents_of maps)
count_before-all maps =
    ap (λ (l : List MapState). count_map_values (contents_of l))
    (take_all (length maps) maps (omega arith))

count_before-within : (maps : List MapState) (m n : ℕ) → m + n ≤ length maps
    → count_before maps m ≤ count_before maps (m + n)
count_before-within maps m zero l =
    let e : m ≡ m + 0 = omega arith in
    subst (λ (k : ℕ). count_before maps m ≤ count_before maps k) e (omega arith)
count_before-within maps m (suc n) l =
    let e : m + n + 1 ≡ m + suc n = omega arith in
    let before = count_before-within maps m n (omega arith) in
    let more = count_before-suc maps (m + n) (omega arith) in
    subst (λ (k : ℕ). count_before maps m ≤ count_before maps k) e (omega arith)

-- and their serials are below how many values there are
pub AreLive-numbered : (maps : List MapState) (all : List Serials) → All IsMap maps
    → AreNumbered maps all
    → AreLive (count_map_values (contents_of maps)) maps all
AreLive-numbered maps all are h = record {
  long = h.long;
  each = λ m l.
      let d : ℕ = length maps - (m + 1) in
      let e : m + 1 + d ≡ length maps = omega arith in
      let within = count_before-within maps (m + 1) d (omega arith) in
      let last = ap (count_before maps) e ∙ count_before-all maps in
      let more = count_before-suc maps m l in
      HasSerials-numbered (count_before maps m) (count_map_values (contents_of maps))
      (map_at maps m) (serials_at all m) (are m _ l) (h.rooms m l) (omega arith)
      (h.numbers m l);
}

pub numbered-all : (maps : List MapState) (all : List Serials) → AreNumbered maps all
    → live_contents maps all ≡ numbered_maps 0 (contents_of maps)
numbered-all maps all h =
    live_contents-numbered 0 maps all h.long
    (λ m l. let z : count_before maps m ≡ 0 + count_before maps m = omega arith in
    subst (λ (k : ℕ). NumbersAll k (values (map_at maps m).places) (serials_at all m)) z
    (h.numbers m l))

module _ (m : MapState) (is : IsMap m) where
  -- the places of a map's keys are places of the map
  pub values-within : All (λ p. p < m.row.entries) (values m.places)
  values-within k d l =
      let there = key_at m.places k l in
      let within =
      is.in_range (slice_index_or (entries m.places) k no_key).0
      (place_in (values m.places) k) there in
      subst (λ (p : ℕ). p < m.row.entries) (get_or_default (values m.places) k 0 d l) within

  -- and there are no more of them than the map has places
  pub values-few : length (values m.places) ≤ m.row.entries
  values-few =
      let a = length-values m.places in
      let b = len-entries m.places in
      let c = is.few in
      omega arith

-- one map more is numbered
pub numbers-next : (maps : List MapState) (all more : List Serials) (m : ℕ) (s : Serials)
    → m < length all → more ≡ slice_set all m s
    → ((k : ℕ) → k < m
    → NumbersAll (count_before maps k) (values (map_at maps k).places) (serials_at all k))
    → NumbersAll (count_before maps m) (values (map_at maps m).places) s
    → (k : ℕ) → k < m + 1
    → NumbersAll (count_before maps k) (values (map_at maps k).places) (serials_at more k)
numbers-next maps all more m s inside is before now k l =
    subst (λ (a : List Serials). NumbersAll (count_before maps k) (values (map_at maps k).places)
    (serials_at a k)) (sym is)
    (elim (eqb k m) as (λ b. eqb k m ≡ b
    → NumbersAll (count_before maps k) (values (map_at maps k).places)
    (serials_at (slice_set all m s) k)) [
      | true ↦ λ t.
          subst (λ (j : ℕ). NumbersAll (count_before maps j) (values (map_at maps j).places)
          (serials_at (slice_set all m s) j)) (sym (eqb-true k m t))
          (subst (λ (r : Serials). NumbersAll (count_before maps m)
          (values (map_at maps m).places) r) (sym (get_or-set_same all m s [] inside)) now)
      | false ↦ λ t.
          let d = eqb-false k m t in
          let less : k < m =
          elim (below_or_above k m d) [ inl h ↦ h | inr h ↦ absurd (omega arith) ] in
          subst (λ (r : Serials). NumbersAll (count_before maps k)
          (values (map_at maps k).places) r) (sym (get_or-set_other all m k s [] d))
          (before k less)
    ] refl)
