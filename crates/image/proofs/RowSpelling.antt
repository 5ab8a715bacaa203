-- Map rows that were read from bytes are spelled by them and are within their limits; and rows that
-- are spelled are read.
use Rattle.image.proofs.Common.{◌≡◌, ℕ, zero, suc, ◌+◌, ◌*◌, ◌≤◌, ◌<◌, ◌^◌, Bool, true, false, cond, List, [], ◌∷◌, ◌++◌, take, drop, length, Option, Some, None, Result, Ok, Err, refl, sym, ap, ◌∙◌, subst, arith, drop-drop, take-add, length-append, ◌==◌, All, flat_map, option_map, eqb-true, length-drop, little_bytes, little_number, MapDef, KeyFits, IsRow, EachByte, EachByte-drop, little_bytes-little_from, ImageError, MapRow, map_type_code, row_bytes, ◌>>=◌, row_fits, map_type_numbered, with_map_type, tested, row_at, rows_from}
use Rattle.std.proofs.lemmas.List.Elements.{All-nil, All-cons, All-head, All-tail}
use Rattle.byteorder.specs.Numbers.{little_number-reads_back}
use Rattle.isa_model.specs.declared.map_defs.MapType.{MapType}
use Rattle.isa_model.specs.declared.map_defs.MapType.TheVariants.{Hash, Array}
use Rattle.image.proofs.RowLaws.{IsRow-row_fits, row_fits-IsRow}

abbrev row_ok : MapDef → Result MapDef ImageError
row_ok row = Ok row

abbrev pub rows_ok : List MapDef → Result (List MapDef) ImageError
rows_ok rows = Ok rows

same_row : (x y : MapDef) → row_ok x ≡ row_ok y → x ≡ y
same_row x y e = cc

pub same_rows : (x y : List MapDef) → rows_ok x ≡ rows_ok y → x ≡ y
same_rows x y e = cc

-- ---- one row

map_type_code-numbered : (n : ℕ) (k : MapType) → map_type_numbered n ≡ Some k → map_type_code k ≡ n
map_type_code-numbered n k e = first (n == 1) refl e
  where
    second : (b : Bool) → (n == 2) ≡ b
        → cond b (let o : Option MapType = Some Array in o) None ≡ Some k → map_type_code k ≡ n
    second true h e =
        let same : Array ≡ k = cc in ap map_type_code (sym same) ∙ sym (eqb-true n 2 h)
    second false h e = absurd cc

    first : (b : Bool) → (n == 1) ≡ b
        → cond b (let o : Option MapType = Some Hash in o) (cond (n == 2) (Some Array) None)
        ≡ Some k → map_type_code k ≡ n
    first true h e = let same : Hash ≡ k = cc in ap map_type_code (sym same) ∙ sym (eqb-true n 1 h)
    first false h e = second (n == 2) refl e

map_type_numbered-code : (k : MapType) → map_type_numbered (map_type_code k) ≡ Some k
map_type_numbered-code Hash = refl
map_type_numbered-code Array = refl

map_type_code-lt : (k : MapType) → map_type_code k < 2 ^ 16
map_type_code-lt Hash = omega arith
map_type_code-lt Array = omega arith

key_size-lt : (k : MapType) (n : ℕ) → KeyFits k n → n < 2 ^ 16
key_size-lt Hash n h = omega (arith, h.1)
key_size-lt Array n h = omega (arith, h)

-- the four numbers of a row
four_parts : (bytes : List ℕ)
    → take 12 bytes
    ≡ take 2 bytes ++ (take 2 (drop 2 bytes) ++ (take 4 (drop 4 bytes) ++ take 4 (drop 8 bytes)))
four_parts bytes =
    take-add 2 10 bytes
    ∙ ap (λ l. take 2 bytes ++ l) (take-add 2 8 (drop 2 bytes)
    ∙ ap (λ l. take 2 (drop 2 bytes) ++ l) (ap (take 8) (drop-drop 2 2 bytes)
    ∙ take-add 4 4 (drop 4 bytes)
    ∙ ap (λ l. take 4 (drop 4 bytes) ++ take 4 l) (drop-drop 4 4 bytes)))

-- a row whose numbers were read has their bytes
row_bytes-with_map_type : (bytes : List ℕ) (k : MapType) → EachByte bytes → 12 ≤ length bytes
    → map_type_code k ≡ little_number 2 bytes → row_bytes (with_map_type bytes k) ≡ take 12 bytes
row_bytes-with_map_type bytes k small long e =
    let kind : little_bytes 2 (map_type_code k) ≡ take 2 bytes =
    ap (little_bytes 2) e ∙ little_bytes-little_from 2 0 bytes small (omega arith) in
    let key : little_bytes 2 (little_number 2 (drop 2 bytes)) ≡ take 2 (drop 2 bytes) =
    little_bytes-little_from 2 0 (drop 2 bytes) (EachByte-drop 2 bytes small)
    (omega (arith, length-drop 2 bytes)) in
    let value : little_bytes 4 (little_number 4 (drop 4 bytes)) ≡ take 4 (drop 4 bytes) =
    little_bytes-little_from 4 0 (drop 4 bytes) (EachByte-drop 4 bytes small)
    (omega (arith, length-drop 4 bytes)) in
    let entries : little_bytes 4 (little_number 4 (drop 8 bytes)) ≡ take 4 (drop 8 bytes) =
    little_bytes-little_from 4 0 (drop 8 bytes) (EachByte-drop 8 bytes small)
    (omega (arith, length-drop 8 bytes)) in
    ap (λ l. l ++ (little_bytes 2 (little_number 2 (drop 2 bytes))
    ++ (little_bytes 4 (little_number 4 (drop 4 bytes))
    ++ little_bytes 4 (little_number 4 (drop 8 bytes))))) kind
    ∙ ap (λ l. take 2 bytes
    ++ (l ++ (little_bytes 4 (little_number 4 (drop 4 bytes))
    ++ little_bytes 4 (little_number 4 (drop 8 bytes))))) key
    ∙ ap (λ l. take 2 bytes
    ++ (take 2 (drop 2 bytes) ++ (l ++ little_bytes 4 (little_number 4 (drop 8 bytes))))) value
    ∙ ap (λ l. take 2 bytes ++ (take 2 (drop 2 bytes) ++ (take 4 (drop 4 bytes) ++ l))) entries
    ∙ sym (four_parts bytes)

record IsRowRead (bytes : List ℕ) (o : Option MapType) (row : MapDef) : Type 0 where
  kind : MapType
  named : o ≡ Some kind
  same : with_map_type bytes kind ≡ row
  fits : row_fits row ≡ true

tested_ok : (index : ℕ) (bytes : List ℕ) (o : Option MapType) (row : MapDef)
    → tested index (option_map (with_map_type bytes) o) ≡ Ok row → IsRowRead bytes o row
tested_ok index bytes None row e = absurd cc
tested_ok index bytes (Some k) row e = by_test (row_fits (with_map_type bytes k)) refl e
  where
    by_test : (b : Bool) → row_fits (with_map_type bytes k) ≡ b
        → cond b (row_ok (with_map_type bytes k)) (Err (MapRow index)) ≡ Ok row
        → IsRowRead bytes (Some k) row
    by_test true h e =
        let same = same_row (with_map_type bytes k) row e in
        record {
          kind = k;
          named = refl;
          same = same;
          fits = subst
              (λ (r : MapDef). row_fits r ≡ true) same h;
        }
    by_test false h e = absurd cc

row_at-found : (index : ℕ) (bytes : List ℕ) (row : MapDef) → EachByte bytes → 12 ≤ length bytes
    → row_at index bytes ≡ Ok row → row_bytes row ≡ take 12 bytes
row_at-found index bytes row small long e =
    let r = tested_ok index bytes (map_type_numbered (little_number 2 bytes)) row e in
    ap row_bytes (sym r.same)
    ∙ row_bytes-with_map_type bytes r.kind small long (map_type_code-numbered _ r.kind r.named)

row_at-fits : (index : ℕ) (bytes : List ℕ) (row : MapDef) → row_at index bytes ≡ Ok row → IsRow row
row_at-fits index bytes row e =
    IsRow-row_fits row
    (tested_ok index bytes (map_type_numbered (little_number 2 bytes)) row e).fits

row_is : (row : MapDef) (key_size value_size entries : ℕ) → key_size ≡ row.key_size
    → value_size ≡ row.value_size → entries ≡ row.entries
    → (let r : MapDef = record {
      kind = row.kind;
      key_size = key_size;
      value_size = value_size;
      entries = entries;
    } in r) ≡ row
row_is row key_size value_size entries h0 h1 h2 = rw (h0, h1, h2) refl

row_at-row_bytes : (index : ℕ) (row : MapDef) (rest : List ℕ) → IsRow row
    → row_at index (row_bytes row ++ rest) ≡ Ok row
row_at-row_bytes index row rest h =
    let bytes = row_bytes row ++ rest in
    let kind : little_number 2 bytes ≡ map_type_code row.kind =
    little_number-reads_back 2 (map_type_code row.kind)
    (little_bytes 2 row.key_size
    ++ (little_bytes 4 row.value_size ++ (little_bytes 4 row.entries ++ rest)))
    (map_type_code-lt row.kind) in
    let key : little_number 2 (drop 2 bytes) ≡ row.key_size =
    little_number-reads_back 2 row.key_size
    (little_bytes 4 row.value_size ++ (little_bytes 4 row.entries ++ rest))
    (key_size-lt row.kind row.key_size h.key) in
    let value : little_number 4 (drop 4 bytes) ≡ row.value_size =
    little_number-reads_back 4 row.value_size (little_bytes 4 row.entries ++ rest)
    (omega (arith, h.short_value)) in
    let entries : little_number 4 (drop 8 bytes) ≡ row.entries =
    little_number-reads_back 4 row.entries rest (omega (arith, h.few_entries)) in
    ap (λ (o : Option MapType). tested index (option_map (with_map_type bytes) o))
    (ap map_type_numbered kind ∙ map_type_numbered-code row.kind)
    ∙ ap (λ (r : MapDef). tested index (Some r)) (row_is row _ _ _ key value entries)
    ∙ ap (λ (b : Bool). cond b (row_ok row) (Err (MapRow index))) (row_fits-IsRow row h)

-- ---- rows

-- what rows were read from
pub record AreParsedRows (n : ℕ) (bytes : List ℕ) (rows : List MapDef) : Type 0 where
  pub spelled : flat_map row_bytes rows ≡ take (12 * n) bytes
  pub count : length rows ≡ n

bind_row : {B : Type 0} (r : Result MapDef ImageError) (f : MapDef → Result B ImageError) (y : B)
    → (r >>= f) ≡ Ok y → (x : MapDef) × (r ≡ Ok x) × (f x ≡ Ok y)
bind_row (Ok x) f y e = (x, refl, e)
bind_row (Err d) f y e = absurd cc

bind_rows : (r : Result (List MapDef) ImageError)
    (f : List MapDef → Result (List MapDef) ImageError) (y : List MapDef) → (r >>= f) ≡ Ok y
    → (x : List MapDef) × (r ≡ Ok x) × (f x ≡ Ok y)
bind_rows (Ok x) f y e = (x, refl, e)
bind_rows (Err d) f y e = absurd cc

pub rows_from-fit : (n index : ℕ) (bytes : List ℕ) (rows : List MapDef)
    → rows_from n index bytes ≡ Ok rows → (length rows ≡ n) × All IsRow rows
unfolding rows_from
rows_from-fit zero index bytes rows e =
    subst (λ (l : List MapDef). (length l ≡ 0) × All IsRow l) (same_rows [] rows e)
    (refl, All-nil IsRow)
rows_from-fit (suc n) index bytes rows e =
    let a = bind_row (row_at index bytes)
    (λ row. rows_from n (index + 1) (drop 12 bytes) >>= λ l. rows_ok (row ∷ l)) rows e in
    let b = bind_rows (rows_from n (index + 1) (drop 12 bytes)) (λ l. rows_ok (a.0 ∷ l)) rows a.2 in
    let more = rows_from-fit n (index + 1) (drop 12 bytes) b.0 b.1 in
    subst (λ (l : List MapDef). (length l ≡ suc n) × All IsRow l) (same_rows (a.0 ∷ b.0) rows b.2)
    (ap suc more.0, All-cons IsRow a.0 b.0 (row_at-fits index bytes a.0 a.1) more.1)

pub rows_from-found : (n index : ℕ) (bytes : List ℕ) (rows : List MapDef) → EachByte bytes
    → 12 * n ≤ length bytes → rows_from n index bytes ≡ Ok rows
    → flat_map row_bytes rows ≡ take (12 * n) bytes
unfolding rows_from
rows_from-found zero index bytes rows small long e =
    ap (λ (l : List MapDef). flat_map row_bytes l) (sym (same_rows [] rows e))
rows_from-found (suc n) index bytes rows small long e =
    let a = bind_row (row_at index bytes)
    (λ row. rows_from n (index + 1) (drop 12 bytes) >>= λ l. rows_ok (row ∷ l)) rows e in
    let b = bind_rows (rows_from n (index + 1) (drop 12 bytes)) (λ l. rows_ok (a.0 ∷ l)) rows a.2 in
    let more = rows_from-found n (index + 1) (drop 12 bytes) b.0 (EachByte-drop 12 bytes small)
    (omega (arith, length-drop 12 bytes)) b.1 in
    let twelve : 12 * suc n ≡ 12 + 12 * n = omega arith in
    ap (λ (l : List MapDef). flat_map row_bytes l) (sym (same_rows (a.0 ∷ b.0) rows b.2))
    ∙ ap (λ l. l ++ flat_map row_bytes b.0) (row_at-found index bytes a.0 small (omega arith) a.1)
    ∙ ap (λ l. take 12 bytes ++ l) more
    ∙ sym (take-add 12 (12 * n) bytes)
    ∙ ap (λ (m : ℕ). take m bytes) (sym twelve)

-- rows are read from their spelling, whatever follows
pub rows_from-row_bytes : (rows : List MapDef) (index : ℕ) (bytes rest : List ℕ) → All IsRow rows
    → bytes ≡ flat_map row_bytes rows ++ rest → rows_from (length rows) index bytes ≡ Ok rows
unfolding rows_from
rows_from-row_bytes [] index bytes rest h e = refl
rows_from-row_bytes (row ∷ rows) index bytes rest h e =
    let behind = flat_map row_bytes rows ++ rest in
    let split : bytes ≡ row_bytes row ++ behind = e in
    let first : row_at index bytes ≡ Ok row =
    ap (row_at index) split ∙ row_at-row_bytes index row behind (All-head IsRow row rows h) in
    let after : drop 12 bytes ≡ behind = ap (drop 12) split in
    ap (λ (r : Result MapDef ImageError). r
    >>= λ x. rows_from (length rows) (index + 1) (drop 12 bytes) >>= λ l. rows_ok (x ∷ l)) first
    ∙ ap (λ (r : Result (List MapDef) ImageError). r >>= λ l. rows_ok (row ∷ l))
    (rows_from-row_bytes rows (index + 1) (drop 12 bytes) rest (All-tail IsRow row rows h) after)

pub length-rows : (rows : List MapDef) → length (flat_map row_bytes rows) ≡ 12 * length rows
length-rows [] = refl
length-rows (row ∷ rows) =
    omega (arith, length-append (row_bytes row) (flat_map row_bytes rows), length-rows rows)
