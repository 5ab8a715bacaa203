-- The contents of maps fit their rows; maps start with the contents that programs start with; and a
-- change of one map leaves the contents of the others.
use Rattle.maps.proofs.Common.{◌≡◌, ℕ, zero, suc, ◌+◌, ◌-◌, ◌*◌, ◌^◌, ◌<◌, ◌≤◌, List, [], ◌∷◌, ◌++◌, length, map, fold, take, replicate, slice_index_or, slice_set, All, Some, is_some, sym, ap, ◌∙◌, arith, range_with_len, empty, entries, get, len-empty, drop-replicate, take-replicate, map-set, length-map, get_or-map, All-head, All-tail, All-map, All-take, All-drop, All-from_get_or, slice_get-get_or, map-set_same, little_bytes, little_number, MapType, Hash, Array, MapDef, KeyValues, key_order, with_key, IsKeyValue, KeysFit, keys_of, FitsRow, FitRows, array_places, content, starting_places, MapState, IsMap, content_in, contents_of, rows_of, map_at, starting_map, block_row, row_end, length-block_row, Places}
use Rattle.std.specs.Prelude.{refl}
use Rattle.std.proofs.lemmas.List.Sums.{fold-append}
use Rattle.byteorder.specs.Numbers.{little_number-reads_back}
use Rattle.isa_model.proofs.PutKeys.{IsStrictlySortedBy-is_sorted, Contains-has_key}
use Rattle.isa_model.specs.Reporting.Reports.{starting_key_values, starting_contents}
use Rattle.map_indexes.specs.ArrayLaws.{got_index}
use Rattle.map_indexes.proofs.ArrayLaws.{get_index}
use Rattle.maps.proofs.ContentLaws.{sorted-content, length-content, has_key-content, content-insert}
use Rattle.maps.proofs.ReportOrderLaws.{get_at}

-- ---- a map's content fits its row

module _ (m : MapState) (is : IsMap m) where
  abbrev C : KeyValues
  C = content_in m

  abbrev listed : List (List ℕ × ℕ)
  listed = entries m.places

  abbrev pair : List ℕ × ℕ → List ℕ × List ℕ
  pair e = (e.0, block_row m.row.value_size m.block e.1)

  abbrev at : ℕ → List ℕ × ℕ
  at i = slice_index_or listed i ([], 0)

  there : (i : ℕ) → i < length listed → get m.places (at i).0 ≡ Some (at i).1
  there i l = get_at m.places i (at i) (slice_get-get_or listed i ([], 0) l)

  IsKeyValue-at : (e : List ℕ × ℕ) → get m.places e.0 ≡ Some e.1 → IsKeyValue m.row (pair e)
  IsKeyValue-at e here =
      let fits = is.keys e.0 e.1 here in
      let inside = is.in_range e.0 e.1 here in
      let size : ℕ = m.row.value_size in
      record {
        key_size = fits.long;
        key = fits.bytes;
        value_size =
            length-block_row size m.row.entries m.block e.1 is.whole inside 0 [] (omega arith);
        value =
            All-take (λ b. b < 256) size _ (All-drop (λ b. b < 256) (e.1 * size) m.block is.bytes);
      }

  IsIndex : List ℕ → Type 0
  IsIndex key = little_number 4 key < m.row.entries

  keys_fit : (kind : MapType) → m.row.kind ≡ kind → KeysFit kind m.row.entries (keys_of C)
  keys_fit Hash e = tt
  keys_fit Array e =
      let small : m.row.entries ≤ 2 ^ 32 = let few = is.is_row.few_entries in omega arith in
      let same = is.array_places e in (
        (λ i l. Contains-has_key (little_bytes 4 i) C
            (has_key-content m.row.value_size m.places m.block (little_bytes 4 i)
            ∙ ap is_some
            (ap (λ (P : Places). get P (little_bytes 4 i)) same
            ∙ get_index m.row.entries i small l))),
        All-map (λ key. little_number 4 key < m.row.entries) (λ (x : List ℕ × List ℕ). x.0) C
            (All-map (λ (x : List ℕ × List ℕ). little_number 4 x.0 < m.row.entries) pair listed
            (All-from_get_or (λ (e : List ℕ × ℕ). little_number 4 e.0 < m.row.entries) listed
            ([], 0) (λ i l.
            let got =
            got_index m.row.entries (at i).0 (at i).1
            (ap (λ (P : Places). get P (at i).0) (sym same) ∙ there i l) in
            let below = got.0 in
            let read : little_number 4 (at i).0 ≡ (at i).1 =
            ap (little_number 4) got.1 ∙ little_number-reads_back 4 (at i).1 [] (omega arith) in
            omega arith))),
      )

  pub FitsRow-IsMap : FitsRow m.row C
  FitsRow-IsMap = record {
    key_values =
        All-map (IsKeyValue m.row) pair listed
        (All-from_get_or (λ e. IsKeyValue m.row (pair e)) listed ([], 0)
        (λ i l. IsKeyValue-at (at i) (there i l)));
    ordered = IsStrictlySortedBy-is_sorted C (sorted-content m.row.value_size m.places m.block);
    room =
        let e = length-content m.row.value_size m.places m.block in let few = is.few in omega arith;
    keys = keys_fit m.row.kind refl;
  }

-- the contents of maps fit their rows
pub FitRows-IsMap : (maps : List MapState) → All IsMap maps
    → FitRows (rows_of maps) (contents_of maps)
FitRows-IsMap [] h = tt
FitRows-IsMap (m ∷ maps) h =
    (FitsRow-IsMap m (All-head IsMap m maps h), FitRows-IsMap maps (All-tail IsMap m maps h))

-- ---- the start

range-snoc : (a n : ℕ) → range_with_len a (suc n) ≡ range_with_len a n ++ (a + n) ∷ []
range-snoc a zero = let e : a ≡ a + 0 = omega arith in ap (λ (x : ℕ). x ∷ []) e
range-snoc a (suc n) =
    let e : a + 1 + n ≡ a + suc n = omega arith in
    ap (λ (xs : List ℕ). a ∷ xs)
    (range-snoc (a + 1) n ∙ ap (λ (x : ℕ). range_with_len (a + 1) n ++ x ∷ []) e)

zero_row : (size m p : ℕ) → p < m → block_row size (replicate (m * size) 0) p ≡ replicate size 0
zero_row size m p below =
    let e = row_end p m size below in
    ap (λ (xs : List ℕ). take size xs) (drop-replicate (p * size) (m * size) 0)
    ∙ take-replicate size (m * size - p * size) 0 (omega arith)

no_length : (es : KeyValues) → length es ≡ 0 → es ≡ []
no_length [] e = refl
no_length (x ∷ es) e = absurd (omega arith)

content-empty : (size : ℕ) (block : List ℕ) → content size empty block ≡ []
content-empty size block =
    no_length (content size empty block) (length-content size empty block ∙ len-empty key_order ℕ)

abbrev filled : ℕ → KeyValues → ℕ → KeyValues
filled size es i = with_key (little_bytes 4 i) (replicate size 0) es

content-filled : (size m n : ℕ) → n ≤ m
    → content size (array_places n) (replicate (m * size) 0)
    ≡ fold (filled size) [] (range_with_len 0 n)
content-filled size m zero le = content-empty size (replicate (m * size) 0)
content-filled size m (suc n) le =
    let z : 0 + n ≡ n = omega arith in
    let more : range_with_len 0 (suc n) ≡ range_with_len 0 n ++ n ∷ [] =
    range-snoc 0 n ∙ ap (λ (k : ℕ). range_with_len 0 n ++ k ∷ []) z in
    content-insert size (array_places n) (replicate (m * size) 0) (little_bytes 4 n) n
    ∙ (λ i. with_key (little_bytes 4 n) (zero_row size m n (omega arith) i)
    (content-filled size m n (omega arith) i))
    ∙ sym (ap (fold (filled size) []) more
    ∙ fold-append (filled size) [] (range_with_len 0 n) (n ∷ []))

starting_by : (kind : MapType) (row : MapDef)
    → content row.value_size (starting_places kind row.entries)
    (replicate (row.entries * row.value_size) 0) ≡ starting_key_values kind row
starting_by Hash row = content-empty row.value_size (replicate (row.entries * row.value_size) 0)
starting_by Array row = content-filled row.value_size row.entries row.entries (omega arith)

pub content_in-starting : (row : MapDef)
    → content_in (starting_map row) ≡ starting_key_values row.kind row
content_in-starting row = starting_by row.kind row

-- the maps of rows start with the contents that programs start with
pub contents_of-starting : (rows : List MapDef)
    → contents_of (map starting_map rows) ≡ starting_contents rows
contents_of-starting [] = refl
contents_of-starting (row ∷ rows) = λ i. content_in-starting row i ∷ contents_of-starting rows i

pub rows_of-starting : (rows : List MapDef) → rows_of (map starting_map rows) ≡ rows
rows_of-starting [] = refl
rows_of-starting (row ∷ rows) = ap (λ (rs : List MapDef). row ∷ rs) (rows_of-starting rows)

-- ---- one map among others

pub length-rows_of : (maps : List MapState) → length (rows_of maps) ≡ length maps
length-rows_of maps = length-map maps (λ m. m.row)

-- a map's content is that among all contents
pub contents_of-at : (maps : List MapState) (i : ℕ) (d : KeyValues) → i < length maps
    → slice_index_or (contents_of maps) i d ≡ content_in (map_at maps i)
contents_of-at maps i d inside = get_or-map content_in maps i _ d inside

-- a change of one map changes only its content
pub contents_of-set : (maps : List MapState) (i : ℕ) (m : MapState)
    → contents_of (slice_set maps i m) ≡ slice_set (contents_of maps) i (content_in m)
contents_of-set maps i m = map-set content_in maps i m

-- and leaves the rows, where it keeps its own
pub rows_of-set : (maps : List MapState) (i : ℕ) (m : MapState) → m.row ≡ (map_at maps i).row
    → rows_of (slice_set maps i m) ≡ rows_of maps
rows_of-set maps i m same = map-set_same (λ x. x.row) maps i m _ same
