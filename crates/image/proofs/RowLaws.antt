-- Laws of the tests of map rows and of the maps that instructions name: what passes is allowed.
use Rattle.image.proofs.Common.{◌≡◌, ℕ, ◌+◌, Bool, true, false, cond, List, [], ◌∷◌, length, Option, Some, None, refl, ap, eq-eqb, ◌&&◌, All, slice_get, IsSomeAnd, option_or, and_parts, eqb-true, leb-true, le-leb, ltb-true, lt-ltb, MapDef, Insn, LoadMap, LoadMapValue, KeyFits, IsRow, HoldsOffset, NamesRows, ImageError, MapRow, UnknownMap, ValuePointer, NamesMaps, key_fits, row_fits, rows_refusal, is_array, holds_offset, value_refusal, map_refusal, maps_refusal}
use Rattle.std.proofs.lemmas.List.Elements.{All-nil, All-cons}
use Rattle.isa_model.specs.Code.Limits.{max_key_size, max_value_size, max_map_entries}
use Rattle.isa_model.specs.declared.map_defs.MapType.{MapType}
use Rattle.isa_model.specs.declared.map_defs.MapType.TheVariants.{Hash, Array}

both : (a b : Bool) → a ≡ true → b ≡ true → (a && b) ≡ true
both a b h k = rw (h, k) refl

abbrev refused : ImageError → Option ImageError
refused e = Some e

-- where nothing is refused, the test holds
passes : (b : Bool) (e : ImageError) → cond b None (refused e) ≡ None → b ≡ true
passes true e h = refl
passes false e h = absurd cc

-- ---- the limits of a row

key_fits-KeyFits : (kind : MapType) (n : ℕ) → key_fits kind n ≡ true → KeyFits kind n
key_fits-KeyFits Hash n h =
    let p = and_parts _ _ h in (leb-true 1 n p.0, leb-true n max_key_size p.1)
key_fits-KeyFits Array n h = eqb-true n 4 h

KeyFits-key_fits : (kind : MapType) (n : ℕ) → KeyFits kind n → key_fits kind n ≡ true
KeyFits-key_fits Hash n h = both _ _ (le-leb 1 n h.0) (le-leb n max_key_size h.1)
KeyFits-key_fits Array n h = eq-eqb n 4 h

pub IsRow-row_fits : (row : MapDef) → row_fits row ≡ true → IsRow row
IsRow-row_fits row h =
    let p = and_parts _ _ h in
    let q = and_parts _ _ p.0 in
    let value = and_parts _ _ q.1 in
    let entries = and_parts _ _ p.1 in
    record {
      key = key_fits-KeyFits row.kind row.key_size q.0;
      some_value = leb-true 1 row.value_size value.0;
      short_value = leb-true row.value_size max_value_size value.1;
      some_entries = leb-true 1 row.entries entries.0;
      few_entries = leb-true row.entries max_map_entries entries.1;
    }

pub row_fits-IsRow : (row : MapDef) → IsRow row → row_fits row ≡ true
row_fits-IsRow row h =
    both _ _
    (both _ _ (KeyFits-key_fits row.kind row.key_size h.key)
    (both _ _ (le-leb 1 row.value_size h.some_value)
    (le-leb row.value_size max_value_size h.short_value)))
    (both _ _ (le-leb 1 row.entries h.some_entries)
    (le-leb row.entries max_map_entries h.few_entries))

pub All-rows_refusal : (index : ℕ) (rows : List MapDef) → rows_refusal index rows ≡ None
    → All IsRow rows
All-rows_refusal index [] h = All-nil IsRow
All-rows_refusal index (row ∷ rows) h =
    let t = first (row_fits row) h in
    All-cons IsRow row rows (IsRow-row_fits row t.0) (All-rows_refusal (index + 1) rows t.1)
  where
    first : (b : Bool) → cond b (rows_refusal (index + 1) rows) (refused (MapRow index)) ≡ None
        → (b ≡ true) × (rows_refusal (index + 1) rows ≡ None)
    first true h = (refl, h)
    first false h = absurd cc

-- ---- the maps that instructions name

is_array-true : (kind : MapType) → is_array kind ≡ true → kind ≡ Array
is_array-true Hash h = absurd cc
is_array-true Array h = refl

HoldsOffset-holds_offset : (offset : ℕ) (row : MapDef) → holds_offset offset row ≡ true
    → HoldsOffset offset row
HoldsOffset-holds_offset offset row h =
    let p = and_parts _ _ h in
    let q = and_parts _ _ p.0 in
    record {
      array = is_array-true row.kind q.0;
      one = eqb-true row.entries 1 q.1;
      within = ltb-true offset row.value_size p.1;
    }

holds_offset-HoldsOffset : (offset : ℕ) (row : MapDef) → HoldsOffset offset row
    → holds_offset offset row ≡ true
holds_offset-HoldsOffset offset row h =
    both _ _ (both _ _ (ap is_array h.array) (eq-eqb row.entries 1 h.one))
    (lt-ltb offset row.value_size h.within)

value_there : (slot offset : ℕ) (row : Option MapDef) → value_refusal slot offset row ≡ None
    → IsSomeAnd row (HoldsOffset offset)
value_there slot offset None h = absurd cc
value_there slot offset (Some row) h =
    HoldsOffset-holds_offset offset row (passes _ (ValuePointer slot) h)

value_taken : (slot offset : ℕ) (row : Option MapDef) → IsSomeAnd row (HoldsOffset offset)
    → value_refusal slot offset row ≡ None
value_taken slot offset None h = absurd h
value_taken slot offset (Some row) h = rw (holds_offset-HoldsOffset offset row h) refl

pub NamesRows-map_refusal : (rows : List MapDef) (slot : ℕ) (i : Insn)
    → map_refusal rows slot i ≡ None → NamesRows rows i
NamesRows-map_refusal rows slot (LoadMap d m) h =
    ltb-true m (length rows) (passes _ (UnknownMap slot) h)
NamesRows-map_refusal rows slot (LoadMapValue d m offset) h =
    value_there slot offset (slice_get rows m) h
NamesRows-map_refusal rows slot i h = tt

pub map_refusal-NamesRows : (rows : List MapDef) (slot : ℕ) (i : Insn) → NamesRows rows i
    → map_refusal rows slot i ≡ None
map_refusal-NamesRows rows slot (LoadMap d m) h = rw (lt-ltb m (length rows) h) refl
map_refusal-NamesRows rows slot (LoadMapValue d m offset) h =
    value_taken slot offset (slice_get rows m) h
map_refusal-NamesRows rows slot i h = refl

-- where two tests, one after the other, find no refusal, neither finds one
pub neither : (a b : Option ImageError) → option_or a b ≡ None → (a ≡ None) × (b ≡ None)
neither None b h = (refl, h)
neither (Some e) b h = absurd cc

pub NamesMaps-maps_refusal : (rows : List MapDef) (slot : ℕ) (xs : List (Option Insn))
    → maps_refusal rows slot xs ≡ None → NamesMaps rows xs
NamesMaps-maps_refusal rows slot [] h = tt
NamesMaps-maps_refusal rows slot (None ∷ xs) h = NamesMaps-maps_refusal rows (slot + 1) xs h
NamesMaps-maps_refusal rows slot (Some i ∷ xs) h =
    let p = neither (map_refusal rows slot i) (maps_refusal rows (slot + 1) xs) h in
    (NamesRows-map_refusal rows slot i p.0, NamesMaps-maps_refusal rows (slot + 1) xs p.1)
