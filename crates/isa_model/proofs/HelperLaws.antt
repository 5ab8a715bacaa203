-- Laws for helpers: of one map of a state. And of the results of wide loads of maps.
use Rattle.isa_model.proofs.Common.{◌≡◌, ℕ, zero, suc, ◌<◌, List, [], ◌∷◌, ◌++◌, map, length, slice_get, slice_index_or, All, Option, Some, None, IsSomeAnd, sym, subst, arith, refl, flat_map, take-append_seam, drop-append_seam, slice_get_within, get_or_from_slice_get, length-map, All-nil, All-get_or, All-take, All-drop, at_from_Contains, little_bytes, MapDef, MapType, Array, Program, IsRow, HoldsOffset, Stored, KeyValues, key_values_of, State, content_of, one_serial, map_pointer, value_pointer, keys_of, KeysFit, FitsRow, FitRows, IsValue, value_serials, live_serials, IsState}
use Rattle.std.proofs.Math.ListN.{get_or-map as get_or-map_default}
use Rattle.isa_model.proofs.StateLaws.{serial_of}

-- ---- one map of a state

-- what holds of the elements of all lists that f gives, holds of those of each of them
All-flat_map : {X Y : Type 0} (P : Y → Type 0) (f : X → List Y) (xs : List X) (i : ℕ) (d : X)
    → f d ≡ []
    → All P (flat_map f xs)
    → All P (f (slice_index_or xs i d))
All-flat_map P f [] i d e h = subst (All P) (sym e) (All-nil P)
All-flat_map P f (x ∷ xs) zero d e h =
    subst (All P) (take-append_seam (f x) (flat_map f xs))
    (All-take P (length (f x)) (f x ++ flat_map f xs) h)
All-flat_map P f (x ∷ xs) (suc i) d e h =
    All-flat_map P f xs i d e (subst (All P) (drop-append_seam (f x) (flat_map f xs))
    (All-drop P (length (f x)) (f x ++ flat_map f xs) h))

-- the serials of a map's values were given
pub value_serials_given : (p : Program) (s : State) (m : ℕ) → IsState p s
    → All (λ n. n < s.next_serial) (value_serials (content_of s m))
value_serials_given p s m k =
    let in_maps = flat_map value_serials s.maps in
    let P : ℕ → Type 0 = λ n. n < s.next_serial in
    All-flat_map P value_serials s.maps m [] refl
    (subst (All P) (take-append_seam in_maps (map serial_of s.frames))
    (All-take P (length in_maps) (live_serials s) k.given))

-- a map's content fits its row
pub content_fits : (p : Program) (s : State) (m : ℕ) (row : MapDef) → slice_get p.maps m ≡ Some row
    → IsState p s
    → FitsRow row (key_values_of (content_of s m))
content_fits p s m row e k =
    subst (FitsRow row) (get_or-map_default key_values_of s.maps m [])
    (at p.maps (map key_values_of s.maps) m e k.maps)
  where
    at : (rows : List MapDef) (contents : List KeyValues) (m : ℕ) → slice_get rows m ≡ Some row
        → FitRows rows contents
        → FitsRow row (slice_index_or contents m [])
    at [] contents m e h = absurd cc
    at (r ∷ rows) [] m e h = absurd h
    at (r ∷ rows) (c ∷ contents) zero e h =
        let same : r ≡ row = cc in subst (λ x. FitsRow x c) same h.0
    at (r ∷ rows) (c ∷ contents) (suc m) e h = at rows contents m e h.1

-- ---- wide loads of maps

pub map_pointer_fits : (count next m : ℕ) → m < count → IsValue count next (map_pointer m)
map_pointer_fits count next m h = (h, omega arith)

-- an array of one key has its value
pub has_value : (kind : MapType) (entries : ℕ) (keys : List (List ℕ)) → kind ≡ Array → entries ≡ 1
    → KeysFit kind entries keys → 0 < length keys
has_value kind entries keys array one h =
    let there = (subst (λ k. KeysFit k entries keys) array h).0 0 (omega arith) in
    let at = at_from_Contains keys (little_bytes 4 0) there in
    omega (arith, at.1)

one_serial_given : (p : Program) (s : State) (m : ℕ) (row : MapDef) (offset : ℕ)
    → slice_get p.maps m ≡ Some row
    → HoldsOffset offset row → IsState p s
    → one_serial (content_of s m) < s.next_serial
one_serial_given p s m row offset e h k =
    let content = content_of s m in
    let none : List ℕ × Stored = ([], record { serial = 0; bytes = [] }) in
    let fits = content_fits p s m row e k in
    let some =
    has_value row.kind row.entries (keys_of (key_values_of content)) h.array h.one fits.keys in
    let long = length-map {B = List ℕ × List ℕ} content (λ e. (e.0, e.1.bytes)) in
    let keyed = length-map (key_values_of content) (λ e. e.0) in
    let serials = length-map content (λ e. e.1.serial) in
    let found : slice_index_or (value_serials content) 0 0 ≡ one_serial content =
    get_or-map_default (λ e. e.1.serial) content 0 none in
    subst (λ n. n < s.next_serial) found
    (All-get_or (λ n. n < s.next_serial) (value_serials content) 0 0 (omega arith)
    (value_serials_given p s m k))

-- a row that is there is one of the rows
pub row_within : (rows : List MapDef) (m : ℕ) (row : MapDef) → slice_get rows m ≡ Some row
    → All IsRow rows → IsRow row
row_within rows m row e h = subst IsRow (get_or_from_slice_get rows m row row e)
    (h m row (slice_get_within rows m row e))

pub value_pointer_fits : (p : Program) (s : State) (m offset : ℕ) → All IsRow p.maps
    → IsSomeAnd (slice_get p.maps m) (HoldsOffset offset) → IsState p s
    → IsValue (length p.maps) s.next_serial (value_pointer s m offset)
value_pointer_fits p s m offset rows named k = at (slice_get p.maps m) refl named
  where
    at : (o : Option MapDef) → slice_get p.maps m ≡ o → IsSomeAnd o (HoldsOffset offset)
        → IsValue (length p.maps) s.next_serial (value_pointer s m offset)
    at None e h = absurd h
    at (Some row) e h =
        let limits = row_within p.maps m row e rows in
        let short = limits.short_value in
        let within = h.within in
        ((slice_get_within p.maps m row e, one_serial_given p s m row offset e h k), omega arith)
