-- The stores of all maps, and the maps that contracts see.
use Rattle.maps.proofs.Common.{◌≡◌, ℕ, ◌<◌, List, [], ◌∷◌, length, map, Option, Some, refl, sym, ap, subst, ◌∙◌, arith, ◌≤◌, slice_index_or, slice_set, map-set_same, map-set, get_or-map, get_or-set_same, length-map, length-set, All-set, slice_get, option_map, Array, Hash, MapDef, EitherIndex, KeyValues, AreBytes, IsKey, array_places, places_of, kind_of, room_of, either_in_range, either_apart, either_few, IsRow, MapState, IsMap, map_at, with_block, ordered_in, rows_of, listed_of, with_key_of, block_row, below-same, at_most-same, state_by, IsListed, IsLeastHashRoom, HaveRoom}
use Rattle.maps.specs.declared.either.EitherIndex.TheVariants as either
use Rattle.maps.specs.contracts.either.EitherIndexIndex.TheImpl as indexes
use Rattle.maps.specs.declared.store.Store.{Store}
use Rattle.maps.proofs.EitherLaws.{either_keys}
use Rattle.maps.proofs.ReportOrderLaws.{listed-place, key_value-value, key_value-key}

abbrev pub EitherStore : Type 0
EitherStore = Store EitherIndex indexes.ghosts

abbrev pub state : EitherStore → MapState
state s = state_by places_of s

-- in an array, the place of each key is its index
array_places_of : (index : EitherIndex) (n : ℕ) → room_of index ≡ n → kind_of index ≡ Array
    → places_of index ≡ array_places n
array_places_of (either.Array a) n room kind = ap array_places room
array_places_of (either.Chain a) n room kind = absurd (cc)

-- a store is a map where its row keeps the limits and its values are bytes
pub IsMap-state : (s : EitherStore) → IsRow s.row → AreBytes s.values.items → IsMap (state s)
IsMap-state s is bytes = record {
  in_range = λ k p e. below-same p s.room (either_in_range s.index k p e);
  apart = λ j k p e f. either_apart s.index j k p e f;
  few = at_most-same _ s.room (either_few s.index);
  whole = s.whole;
  keys = λ k p e. subst (λ (n : ℕ). IsKey n k) s.key_size (either_keys s.index k p e);
  bytes = bytes;
  is_row = is;
  array_places = λ e. array_places_of s.index s.row.entries s.room (s.kind ∙ e);
}

module _ (maps : List MapState) (stores : List EitherStore) (view : map state stores ≡ maps) (i : ℕ)
    (low : i < length maps) where
  pub inside : i < length stores
  inside = let e = ap length view in let f = length-map stores state in omega arith

  -- a map is that of the store with its index
  pub map_at-state : (x : EitherStore) → x ≡ slice_index_or stores i x → map_at maps i ≡ state x
  map_at-state x e =
      ap (λ (ms : List MapState). map_at ms i) (sym view) ∙ get_or-map state stores i x _ inside
      ∙ ap state (sym e)

  -- a store that is written is that map, and leaves the others
  pub map_at-set : (x : EitherStore) → map_at (map state (slice_set stores i x)) i ≡ state x
  map_at-set x =
      ap (λ (ms : List MapState). map_at ms i) (map-set state stores i x)
      ∙ get_or-set_same (map state stores) i (state x) _ (let e = ap length view in omega arith)

  pub others-set : (x : EitherStore)
      → map state (slice_set stores i x)
      ≡ slice_set maps i (map_at (map state (slice_set stores i x)) i)
  others-set x = map-set state stores i x ∙ (λ k. slice_set (view k) i (sym (map_at-set x) k))

  -- what holds of a store before and after a change holds of that map
  pub map_changed : (Is : MapState → MapState → Type 0) (x t : EitherStore)
      → x ≡ slice_index_or stores i x → Is (state x) (state t)
      → Is (map_at maps i) (map_at (map state (slice_set stores i t)) i)
  map_changed Is x t e change =
      subst (λ (m : MapState). Is m (map_at (map state (slice_set stores i t)) i))
      (sym (map_at-state x e))
      (subst (λ (n : MapState). Is (state x) n) (sym (map_at-set t)) change)

  -- a store whose block is changed changes the block of its map
  pub block-set : (x t : EitherStore) → x ≡ slice_index_or stores i x → t.row ≡ x.row
      → t.index ≡ x.index → (change : List ℕ → List ℕ)
      → t.values.items ≡ change x.values.items
      → map state (slice_set stores i t) ≡ with_block maps i (change (map_at maps i).block)
  block-set x t e same_row same_index change same_block =
      let was : map_at maps i ≡ state x = map_at-state x e in
      let is : state t
      ≡ record (state x) { block = change (state x).block } = λ k.
      record { row = same_row k; places = places_of (same_index k); block = same_block k } in
      map-set state stores i t ∙ (λ k. slice_set (view k) i (is k))
      ∙ ap (λ (m : MapState). slice_set maps i (record m { block = change m.block })) (sym was)

-- the rows of stores are those of the maps
pub rows-stores : (stores : List EitherStore)
    → map (λ (s : EitherStore). s.row) stores ≡ rows_of (map state stores)
rows-stores [] = refl
rows-stores (s ∷ stores) = ap (λ (rs : List MapDef). s.row ∷ rs) (rows-stores stores)

-- a store that is written keeps its row, so the lists keep their room
pub HaveRoom-set : (places all : ℕ) (stores : List EitherStore) (i : ℕ) (x t : EitherStore)
    → i < length stores → x ≡ slice_index_or stores i x → t.row ≡ x.row
    → HaveRoom places all stores → HaveRoom places all (slice_set stores i t)
HaveRoom-set places all stores i x t inside is same room =
    let was : IsListed places x = subst (IsListed places) (sym is) (room.listed i x inside) in
    record {
      listed = All-set (IsListed places) stores i t
          (record {
            is_row = subst IsRow (sym same) was.is_row;
            listed =
                subst (λ (r : MapDef). r.kind ≡ Hash → r.entries ≤ places) (sym same) was.listed;
          })
          room.listed;
      least =
          subst (IsLeastHashRoom places)
          (sym (map-set_same (λ (s : EitherStore). s.row) stores i t x
          (same ∙ ap (λ (s : EitherStore). s.row) is))) room.least;
      exact = room.exact ∙ sym (length-set stores i t);
    }

-- ---- keys in the order of the report, by an index that is the store's

module _ (s : EitherStore) (k : ℕ) (es : KeyValues) (view : ordered_in (state s) ≡ es)
    (index : EitherIndex) (same : index ≡ s.index) where
  abbrev block : List ℕ
  block = s.values.items

  abbrev size : ℕ
  size = s.row.value_size

  abbrev Placed : EitherIndex → Option ℕ → Type 0
  Placed i place = place ≡ option_map (λ e. e.1) (slice_get (listed_of i) k)

  -- the place of a key is one of the map's
  pub pair_inside : (p : ℕ) → Placed index (Some p) → p < s.row.entries
  pair_inside p e =
      let l = listed-place s.index k p (subst (λ (i : EitherIndex). Placed i (Some p)) same e) in
      let r = s.room in omega arith

  -- its value is the row of the block there
  pub pair_value : (place : Option ℕ) → Placed index place
      → option_map (block_row size block) place ≡ option_map (λ e. e.1) (slice_get es k)
  pair_value place e =
      sym (key_value-value s.index s.row.kind s.row.entries size block s.kind s.room k place
      (subst (λ (i : EitherIndex). Placed i place) same e))
      ∙ ap (λ (xs : KeyValues). option_map (λ (x : List ℕ × List ℕ). x.1) (slice_get xs k)) view

  -- and so is its key
  pub pair_key : (bytes : List ℕ)
      → with_key_of (slice_get (listed_of index) k) bytes ≡ with_key_of (slice_get es k) bytes
  pair_key bytes =
      ap (λ (i : EitherIndex). with_key_of (slice_get (listed_of i) k) bytes) same
      ∙ sym (key_value-key s.index s.row.kind s.row.entries size block s.kind s.room k bytes)
      ∙ ap (λ (xs : KeyValues). with_key_of (slice_get xs k) bytes) view
