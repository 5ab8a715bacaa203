-- Rows and contents of all maps, by the maps and the serials of their places.
use Rattle.live_maps.proofs.Common.{◌≡◌, ℕ, zero, suc, ◌<◌, ◌≤◌, List, [], ◌∷◌, map, length, refl, ap, ◌∙◌, arith, IsSomeAnd, slice_get, slice_set, slice_index_or, entries, get_or_past, length-set, Content, KeyValues, key_values_of, block_row, changed, MapState, map_at, contents_of, rows_of, MapDef, Serials, serials_at, stored, live_content, live_contents, Live}

pub length-live_contents : (maps : List MapState) (all : List Serials) → length all ≡ length maps
    → length (live_contents maps all) ≡ length maps
unfolding live_contents
length-live_contents [] all long = refl
length-live_contents (m ∷ maps) [] long = absurd (omega arith)
length-live_contents (m ∷ maps) (s ∷ all) long =
    let e = length-live_contents maps all (omega arith) in omega arith

-- a map's content is that of its `MapState` and its serials
pub live_contents-at : (maps : List MapState) (all : List Serials) (m : ℕ)
    → length all ≡ length maps → m < length maps
    → slice_index_or (live_contents maps all) m [] ≡ live_content (map_at maps m) (serials_at all m)
unfolding live_contents
live_contents-at [] all m long h = absurd (omega arith)
live_contents-at (x ∷ maps) [] m long h = absurd (omega arith)
live_contents-at (x ∷ maps) (s ∷ all) zero long h = refl
live_contents-at (x ∷ maps) (s ∷ all) (suc m) long h =
    live_contents-at maps all m (omega arith) (omega arith)

pub live_contents-past : (maps : List MapState) (all : List Serials) (m : ℕ)
    → length all ≡ length maps → length maps ≤ m
    → slice_index_or (live_contents maps all) m [] ≡ []
live_contents-past maps all m long h =
    let e = length-live_contents maps all long in
    get_or_past (live_contents maps all) m [] (omega arith)

-- a map and its serials replaced
pub live_contents-set : (maps : List MapState) (all : List Serials) (m : ℕ) (x : MapState)
    (s : Serials) → length all ≡ length maps → m < length maps
    → live_contents (slice_set maps m x) (slice_set all m s)
    ≡ slice_set (live_contents maps all) m (live_content x s)
unfolding live_contents
live_contents-set [] all m x s long h = absurd (omega arith)
live_contents-set (y ∷ maps) [] m x s long h = absurd (omega arith)
live_contents-set (y ∷ maps) (r ∷ all) zero x s long h = refl
live_contents-set (y ∷ maps) (r ∷ all) (suc m) x s long h =
    ap (λ (l : List Content). live_content y r ∷ l)
    (live_contents-set maps all m x s (omega arith) (omega arith))

-- a map replaced, its serials as they are
pub live_contents-set_map : (maps : List MapState) (all : List Serials) (m : ℕ) (x : MapState)
    → length all ≡ length maps → m < length maps
    → live_contents (slice_set maps m x) all
    ≡ slice_set (live_contents maps all) m (live_content x (serials_at all m))
unfolding live_contents
live_contents-set_map [] all m x long h = absurd (omega arith)
live_contents-set_map (y ∷ maps) [] m x long h = absurd (omega arith)
live_contents-set_map (y ∷ maps) (r ∷ all) zero x long h = refl
live_contents-set_map (y ∷ maps) (r ∷ all) (suc m) x long h =
    ap (λ (l : List Content). live_content y r ∷ l)
    (live_contents-set_map maps all m x (omega arith) (omega arith))

-- the keys and values of a content with serials, without these
pub key_values-stored : (m : MapState) (s : Serials) (es : List (List ℕ × ℕ))
    → key_values_of (changed (stored m s) es)
    ≡ map (λ e. (e.0, block_row m.row.value_size m.block e.1)) es
key_values-stored m s [] = refl
key_values-stored m s (e ∷ es) =
    ap (λ (l : KeyValues). (e.0, block_row m.row.value_size m.block e.1) ∷ l)
    (key_values-stored m s es)

-- without serials the contents are those of the maps
pub key_values_of-live_contents : (maps : List MapState) (all : List Serials)
    → length all ≡ length maps
    → map key_values_of (live_contents maps all) ≡ contents_of maps
unfolding live_contents
key_values_of-live_contents [] all long = refl
key_values_of-live_contents (m ∷ maps) [] long = absurd (omega arith)
key_values_of-live_contents (m ∷ maps) (s ∷ all) long =
    let first = key_values-stored m s (entries m.places) in
    let rest = key_values_of-live_contents maps all (omega arith) in
    λ i. first i ∷ rest i

-- ---- all maps

abbrev pub live_of : List MapState → List Serials → ℕ → Live
live_of maps all next =
    record { rows = rows_of maps; contents = live_contents maps all; next_serial = next }

-- a map that has a row is there
pub rows_of-known : (P : MapDef → Type 0) (maps : List MapState) (m : ℕ)
    → IsSomeAnd (slice_get (rows_of maps) m) P
    → (m < length maps) × P (map_at maps m).row
rows_of-known P [] m h = absurd h
rows_of-known P (x ∷ maps) zero h = (omega arith, h)
rows_of-known P (x ∷ maps) (suc m) h =
    let r = rows_of-known P maps m h in let l = r.0 in (omega arith, r.1)

pub rows_of-some : (P : MapDef → Type 0) (maps : List MapState) (m : ℕ) → m < length maps
    → P (map_at maps m).row
    → IsSomeAnd (slice_get (rows_of maps) m) P
rows_of-some P [] m l h = absurd (omega arith)
rows_of-some P (x ∷ maps) zero l h = h
rows_of-some P (x ∷ maps) (suc m) l h = rows_of-some P maps m (omega arith) h

-- a map replaced by one with the same row
pub rows_of-set : (maps : List MapState) (m : ℕ) (x : MapState) → x.row ≡ (map_at maps m).row
    → rows_of (slice_set maps m x) ≡ rows_of maps
rows_of-set [] m x e = refl
rows_of-set (y ∷ maps) zero x e = ap (λ (r : MapDef). r ∷ rows_of maps) e
rows_of-set (y ∷ maps) (suc m) x e = ap (λ (l : List MapDef). y.row ∷ l) (rows_of-set maps m x e)

-- how many maps there are stays
pub length-changed_maps : (maps new : List MapState) (m : ℕ) (x : MapState)
    → new ≡ slice_set maps m x → length new ≡ length maps
length-changed_maps maps new m x e = ap length e ∙ length-set maps m x
