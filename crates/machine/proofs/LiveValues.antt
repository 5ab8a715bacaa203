-- Map values in their maps' blocks: where the bytes of a live one are, and what a write to it
-- leaves.
use Rattle.machine.proofs.Common.{◌≡◌, ℕ, zero, suc, ◌+◌, ◌*◌, ◌<◌, ◌≤◌, List, [], ◌∷◌, length, map, refl, sym, ap, subst, ◌∙◌, arith, true, Some, inl, inr, get_or-set_same, get_or-set_other, slice_set, slice_index_or, T, splice, entries, entries_sorted, get, is_sorted, below_all, map-set, get_or-map, length-map, cases_lt, slice_get-get_or, bytes_at, with_bytes, length-with_bytes, MapDef, Program, State, Stored, Content, KeyValues, content_of, key_values_of, key_value_at, key_order, AreBytes, FitRows, IsState, All-splice, block_row, with_block_row, row_end, length-block_row, splice_in_row, length-changed_row, block_row-written, block_row-other, length-changed, MapState, IsMap, map_at, length-rows_of, rows_of-set, Layout, by_serial, by_place, RepresentsMap, RepresentsMaps}
use Rattle.std.specs.Ordering.{is_lt, is_eq}
use Rattle.std.specs.declared.cmp.Ordering.{Ordering}
use Rattle.std.specs.declared.cmp.Ordering.TheVariants.{Less, Equal, Greater}
use Rattle.isa_model.proofs.TestLaws.{both_parts}
use Rattle.map_indexes.proofs.PlaceKeysLaws.{is_key-itself, same_or_not}
use Rattle.maps.proofs.ReportOrderLaws.{above, get_at}

FitRows-length : (rows : List MapDef) (contents : List KeyValues) → FitRows rows contents
    → length rows ≡ length contents
FitRows-length [] [] h = refl
FitRows-length [] (c ∷ contents) h = absurd h
FitRows-length (row ∷ rows) [] h = absurd h
FitRows-length (row ∷ rows) (c ∷ contents) h = ap suc (FitRows-length rows contents h.1)

-- a state has a content for each row
pub contents_are : (p : Program) (s : State) → IsState p s → length s.maps ≡ length p.maps
contents_are p s K =
    sym (FitRows-length p.maps (map key_values_of s.maps) K.maps ∙ length-map s.maps key_values_of)

no_content : (contents : List Content) (m : ℕ) → length contents ≤ m
    → length (slice_index_or contents m []) ≡ 0
no_content [] m h = refl
no_content (c ∷ contents) zero h = absurd (omega arith)
no_content (c ∷ contents) (suc m) h = no_content contents m (omega arith)

-- only a map of the program has keys
pub live_map : (p : Program) (s : State) (m j : ℕ) → IsState p s → j < length (content_of s m)
    → m < length p.maps
live_map p s m j K h = elim (cases_lt m (length p.maps)) [
  | inl l ↦ l
  | inr g ↦
      let same = contents_are p s K in
      let none = no_content s.maps m (omega arith) in
      absurd (omega arith)
]

not_less : (o : Ordering) → T (is_lt o) → is_eq o ≡ true → ⊥
not_less Less t e = absurd (cc)
not_less Equal t e = t
not_less Greater t e = t

not_above : (x : List ℕ) (es : List (List ℕ × ℕ)) (j : ℕ) → T (below_all key_order x es)
    → j < length es
    → (slice_index_or es j ([], 0)).0 ≡ x → ⊥
not_above x es j below h e =
    let less = above x es j (slice_index_or es j ([], 0)) below (slice_get-get_or es j ([], 0) h) in
    not_less (key_order x x) (subst (λ k. T (is_lt (key_order x k))) e less) (is_key-itself x)

pub same_key : (es : List (List ℕ × ℕ)) (i j : ℕ) → T (is_sorted key_order es) → i < length es
    → j < length es
    → (slice_index_or es i ([], 0)).0 ≡ (slice_index_or es j ([], 0)).0 → i ≡ j
same_key [] i j s h g e = absurd (omega arith)
same_key (x ∷ es) zero zero s h g e = refl
same_key (x ∷ es) zero (suc j) s h g e =
    absurd (not_above x.0 es j (both_parts (below_all key_order x.0 es) (is_sorted key_order es) s).0
    (omega arith) (sym e))
same_key (x ∷ es) (suc i) zero s h g e =
    absurd (not_above x.0 es i (both_parts (below_all key_order x.0 es) (is_sorted key_order es) s).0
    (omega arith) e)
same_key (x ∷ es) (suc i) (suc j) s h g e =
    ap suc (same_key es i j (both_parts (below_all key_order x.0 es) (is_sorted key_order es) s).1
    (omega arith) (omega arith) e)

slice_set-map : {X Y : Type 0} (f g : X → Y) (xs : List X) (j : ℕ) (y : Y) (d : X) → j < length xs
    → g (slice_index_or xs j d) ≡ y
    → ((k : ℕ) → k < length xs → (k ≡ j → ⊥)
    → g (slice_index_or xs k d) ≡ f (slice_index_or xs k d))
    → slice_set (map f xs) j y ≡ map g xs
slice_set-map f g [] j y d h here other = absurd (omega arith)
slice_set-map f g (x ∷ xs) zero y d h here other =
    λ i. sym here i ∷ rest xs (λ k l. other (suc k) (omega arith) (λ e. omega arith)) i
  where
    rest : (xs : List _)
        → ((k : ℕ) → k < length xs → g (slice_index_or xs k d) ≡ f (slice_index_or xs k d))
        → map f xs ≡ map g xs
    rest [] same = refl
    rest (x ∷ xs) same =
        λ i. sym (same 0 (omega arith)) i ∷ rest xs (λ k l. same (suc k) (omega arith)) i
slice_set-map f g (x ∷ xs) (suc j) y d h here other =
    λ i. sym (other 0 (omega arith) (λ e. omega arith)) i
    ∷ slice_set-map f g xs j y d (omega arith) here
    (λ k l n. other (suc k) (omega arith) (λ e. n (omega arith))) i

module _ (a : Layout) (m : ℕ) (content : Content) (state : MapState)
    (shown : RepresentsMap a m content state) where
  abbrev size : ℕ
  size = state.row.value_size

  abbrev listed : List (List ℕ × ℕ)
  listed = entries state.places

  -- the j-th key with its place
  abbrev pub keyed_at : ℕ → (List ℕ × ℕ)
  keyed_at j = slice_index_or listed j ([], 0)

  pub as_many : length content ≡ length listed
  as_many =
      sym (length-changed (by_serial a m) content) ∙ ap length shown.same
      ∙ length-changed (by_place size state.block) listed

  -- the j-th key of the content is that of the j-th pair, and so is its value
  pub at_place : (j : ℕ) → j < length content
      → ◌≡◌ {A = List ℕ × (ℕ × List ℕ)}
      ((key_value_at content j).0, by_serial a m (key_value_at content j).1)
      ((keyed_at j).0, by_place size state.block (keyed_at j).1)
  at_place j h =
      let many = as_many in
      let d : List ℕ × (ℕ × List ℕ) = ([], (0, [])) in
      sym (get_or-map {Y = List ℕ × (ℕ × List ℕ)} (λ e. (e.0, by_serial a m e.1)) content j
      ([], record { serial = 0; bytes = [] }) d h)
      ∙ ap (λ l. slice_index_or l j d) shown.same
      ∙ get_or-map {Y = List ℕ × (ℕ × List ℕ)} (λ e. (e.0, by_place size state.block e.1)) listed j
      ([], 0) d (omega arith)

  pub value_starts : (j : ℕ) → j < length content
      → a.value_start m (key_value_at content j).1.serial ≡ (keyed_at j).1 * size
  value_starts j h = ap (λ x. x.1.0) (at_place j h)

  pub value_bytes : (j : ℕ) → j < length content
      → (key_value_at content j).1.bytes ≡ block_row size state.block (keyed_at j).1
  value_bytes j h = ap (λ x. x.1.1) (at_place j h)

  pub there : (j : ℕ) → j < length content → get state.places (keyed_at j).0 ≡ Some (keyed_at j).1
  there j h =
      let many = as_many in
      get_at state.places j (keyed_at j) (slice_get-get_or listed j ([], 0) (omega arith))

  pub in_block : (j : ℕ) → j < length content → (keyed_at j).1 < state.row.entries
  in_block j h = shown.is.in_range (keyed_at j).0 (keyed_at j).1 (there j h)

  -- the bytes of a live map value are in the block
  pub value_inside : (j : ℕ) → j < length content
      → a.value_start m (key_value_at content j).1.serial + length (key_value_at content j).1.bytes
      ≤ length state.block
  value_inside j h =
      let e = value_starts j h in
      let inside = in_block j h in
      let long = ap length (value_bytes j h)
      ∙ length-block_row size state.row.entries state.block (keyed_at j).1 shown.is.whole inside 0
      [] (omega arith) in
      let end = row_end (keyed_at j).1 state.row.entries size inside in
      let whole = shown.is.whole in
      omega arith

  pub value_at_block : (j : ℕ) → j < length content
      → bytes_at state.block (a.value_start m (key_value_at content j).1.serial)
      (length (key_value_at content j).1.bytes) ≡ (key_value_at content j).1.bytes
  value_at_block j h =
      let inside = in_block j h in
      let long = ap length (value_bytes j h)
      ∙ length-block_row size state.row.entries state.block (keyed_at j).1 shown.is.whole inside 0
      [] (omega arith) in
      (λ i. bytes_at state.block (value_starts j h i) (long i)) ∙ sym (value_bytes j h)

  pub value_long : (j : ℕ) → j < length content → length (key_value_at content j).1.bytes ≡ size
  value_long j h = ap length (value_bytes j h)
      ∙ length-block_row size state.row.entries state.block (keyed_at j).1 shown.is.whole
      (in_block j h) 0 [] (omega arith)

  -- ---- bytes are written into a live map value

  module _ (j : ℕ) (here : j < length content) (i : ℕ) (bs : List ℕ)
      (room : i + length bs ≤ length (key_value_at content j).1.bytes) (bytes : AreBytes bs) where
    abbrev old : List ℕ × Stored
    old = key_value_at content j

    abbrev pub new : List ℕ × Stored
    new = (old.0, record old.1 { bytes = splice old.1.bytes i (i + length bs) bs })

    abbrev at : ℕ
    at = a.value_start m old.1.serial + i

    abbrev pub written : MapState
    written = record state { block = with_bytes state.block at bs }

    abbrev place : ℕ
    place = (keyed_at j).1

    fits : i + length bs ≤ size
    fits = let l = value_long j here in omega arith

    in_row : written.block
        ≡ with_block_row size state.block place
        (splice (block_row size state.block place) i (i + length bs) bs)
    in_row =
        ap (λ n. with_bytes state.block (n + i) bs) (value_starts j here)
        ∙ splice_in_row size state.row.entries state.block place shown.is.whole
        (in_block j here) i bs fits

    row_long : length (splice (block_row size state.block place) i (i + length bs) bs) ≡ size
    row_long =
        length-changed_row size state.row.entries state.block place shown.is.whole
        (in_block j here) i bs fits

    is_map : IsMap written
    is_map = let l = value_inside j here in record {
      in_range = shown.is.in_range;
      apart = shown.is.apart;
      few = shown.is.few;
      whole = length-with_bytes state.block at bs (omega arith) ∙ shown.is.whole;
      keys = shown.is.keys;
      bytes = All-splice (λ b. b < 256) state.block bs at (at + length bs) shown.is.bytes bytes;
      is_row = shown.is.is_row;
      array_places = shown.is.array_places;
    }

    row_here : ◌≡◌ {A = ℕ × List ℕ} (by_place size written.block place) (by_serial a m new.1)
    row_here =
        λ k. (
          sym (value_starts j here) k,
          (ap (λ block. block_row size block place) in_row
              ∙ block_row-written size state.block place
              (splice (block_row size state.block place) i (i + length bs) bs) state.row.entries
              row_long shown.is.whole (in_block j here)
              ∙ ap (λ row. splice row i (i + length bs) bs) (sym (value_bytes j here))) k,
        )

    apart : (k : ℕ) → k < length listed → (k ≡ j → ⊥) → (keyed_at k).1 ≡ place → ⊥
    apart k l other e =
        let many = as_many in
        other (same_key listed k j (entries_sorted state.places) l (omega arith)
        (shown.is.apart (keyed_at k).0 (keyed_at j).0 place (there k (omega arith) ∙ ap Some e)
        (there j here)))

    row_other : (k : ℕ) → k < length listed → (k ≡ j → ⊥)
        → ◌≡◌ {A = ℕ × List ℕ} (by_place size written.block (keyed_at k).1)
        (by_place size state.block (keyed_at k).1)
    row_other k l other =
        λ n. (
          (keyed_at k).1 * size,
          (ap (λ block. block_row size block (keyed_at k).1) in_row
              ∙ block_row-other size state.block place
              (splice (block_row size state.block place) i (i + length bs) bs) state.row.entries
              row_long shown.is.whole (in_block j here)
              (keyed_at k).1 (apart k l other)) n,
        )

    pub written_shown : RepresentsMap a m (slice_set content j new) written
    written_shown =
        let many = as_many in
        record {
          is = is_map;
          same =
              map-set {B = List ℕ × (ℕ × List ℕ)} (λ e. (e.0, by_serial a m e.1)) content j new
              ∙ ap (λ l. slice_set l j (new.0, by_serial a m new.1)) shown.same
              ∙ slice_set-map (λ e. (e.0, by_place size state.block e.1))
              (λ e. (e.0, by_place size written.block e.1)) listed j
              (new.0, by_serial a m new.1) ([], 0) (omega arith)
              (λ k. (ap (λ x. x.0) (sym (at_place j here)) k, row_here k))
              (λ k l other. ap (λ x. ((keyed_at k).0, x)) (row_other k l other));
        }

-- one content and one map changed
pub set_shown : (a : Layout) (defs : List MapDef) (contents : List Content) (states : List MapState)
    (m : ℕ) (content : Content) (state : MapState)
    → length contents ≡ length defs → state.row ≡ (map_at states m).row
    → (m < length defs → RepresentsMap a m content state) → RepresentsMaps a defs contents states
    → RepresentsMaps a defs (slice_set contents m content) (slice_set states m state)
set_shown a defs contents states m content state many row h R = record {
  rows = rows_of-set states m state row ∙ R.rows;
  maps = λ k l. by_map k l;
}
  where
    by_map : (k : ℕ) → k < length defs
        → RepresentsMap a k (slice_index_or (slice_set contents m content) k [])
        (map_at (slice_set states m state) k)
    by_map k l =
        let count = sym (length-rows_of states) ∙ ap length R.rows in
        elim (same_or_not k m) [
          | inl e ↦
              subst (λ k. RepresentsMap a k (slice_index_or (slice_set contents m content) k [])
              (map_at (slice_set states m state) k)) (sym e)
              (subst (λ c. RepresentsMap a m c (map_at (slice_set states m state) m))
              (sym (get_or-set_same contents m content [] (omega arith)))
              (subst (λ t. RepresentsMap a m content t)
              (sym (get_or-set_same states m state _ (omega arith))) (h (omega arith))))
          | inr other ↦
              subst (λ c. RepresentsMap a k c (map_at (slice_set states m state) k))
              (sym (get_or-set_other contents m k content [] other))
              (subst (λ t. RepresentsMap a k (slice_index_or contents k []) t)
              (sym (get_or-set_other states m k state _ other)) (R.maps k l))
        ]
