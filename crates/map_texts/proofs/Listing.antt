-- Lines of keys and values written one after another, and lines of maps.
use Rattle.map_texts.proofs.Common.{◌≡◌, ℕ, zero, suc, ◌+◌, ◌<◌, ◌≤◌, List, [], ◌∷◌, ◌++◌, map, length, take, drop, get_or, Option, Some, None, true, false, cond, refl, sym, ap, ◌∙◌, subst, arith, append_assoc, append-nil, add-zero, All, slice_get, filter_map, cons_option, range_with_len, flat_map, Appends, Appends-trans, take_more, take_all, take_at, take-append-drop, All-nil, All-cons, All-head, All-tail, All-weaker, All-get_or, MapDef, KeyFits, IsRow, key_order, is_key, IsKeyValue, FitsRow, KeyValues, ToReport, report_part, map_line, map_pieces, maps_pieces, key_value_by_index, in_report_order, MapState, IsMap, map_at, content_in, ordered_in, rows_of, contents_of, FitsRow-IsMap, FitListing, lines_of}
use Rattle.std.specs.Option.{option_map}
use Rattle.std.specs.FinMap.Entries.{find}
use Rattle.std.proofs.lemmas.Grind.{flat_map-append}
use Rattle.std.proofs.lemmas.List.FromFn.{length-range_with_len}
use Rattle.std.proofs.lemmas.Option.{slice_get_within, get_or_from_slice_get}
use Rattle.byteorder.specs.Endian.{little_bytes}
use Rattle.byteorder.specs.Numbers.{length-bytes_low_first}
use Rattle.exact_io.specs.Transfers.{AppendsBeginning}
use Rattle.exact_io.proofs.TransferLaws.{AppendsBeginning-first, AppendsBeginning-second}
use Rattle.isa_model.specs.declared.map_defs.MapType.{MapType}
use Rattle.isa_model.specs.declared.map_defs.MapType.TheVariants.{Hash, Array}
use Rattle.isa_model.specs.Code.Limits.{max_value_size}
use Rattle.maps.proofs.KeySizes.{KeyFits-most}
use Rattle.maps.specs.ReportOrder.{with_key_of}

-- ---- parts of a text that are written one after another

module _ (old mid new : Option (List ℕ)) (front part rest : List ℕ)
    (before : Appends old mid front) where
  pub part_written : Appends mid new part → Appends old new (front ++ part)
  part_written h = Appends-trans old mid new front part before h

  pub part_failed : AppendsBeginning mid new part
      → AppendsBeginning old new ((front ++ part) ++ rest)
  part_failed h =
      AppendsBeginning-first old new (front ++ part) rest
      (AppendsBeginning-second old mid new front part before h)

-- ---- keys

module _ (index : ℕ) (es : KeyValues) (k : ℕ) (e : List ℕ × List ℕ)
    (there : slice_get es k ≡ Some e) where
  -- the lines up to a key, and that key's
  lines_up_to : lines_of index (take (k + 1) es) ≡ lines_of index (take k es) ++ map_line index e
  lines_up_to =
      ap (lines_of index) (take_more es k e (slice_get_within es k e there)
      ∙ ap (λ (x : List ℕ × List ℕ). take k es ++ x ∷ [])
      (get_or_from_slice_get es k e e there))
      ∙ flat_map-append (map_line index) (take k es) (e ∷ [])
      ∙ ap (λ (l : List ℕ). lines_of index (take k es) ++ l) (append-nil (map_line index e))

  lines_around : lines_of index es
      ≡ (lines_of index (take k es) ++ map_line index e) ++ lines_of index (drop (k + 1) es)
  lines_around =
      ap (lines_of index) (sym (take-append-drop (k + 1) es))
      ∙ flat_map-append (map_line index) (take (k + 1) es) (drop (k + 1) es)
      ∙ ap (λ (l : List ℕ). l ++ lines_of index (drop (k + 1) es)) lines_up_to

-- where no k-th value is found, there are at most k keys
pub none_past : (es : KeyValues) (k : ℕ) → None ≡ option_map (λ e. e.1) (slice_get es k)
    → length es ≤ k
none_past [] k e = omega arith
none_past (x ∷ es) zero e = absurd (cc)
none_past (x ∷ es) (suc k) e = let h = none_past es k e in omega arith

-- the key whose value was found
pub pair_at : (es : KeyValues) (k : ℕ) (value : List ℕ)
    → Some value ≡ option_map (λ e. e.1) (slice_get es k)
    → (e : List ℕ × List ℕ) × (slice_get es k ≡ Some e) × (e.1 ≡ value)
pair_at [] k value e = absurd (cc)
pair_at (x ∷ es) zero value e = (x, refl, cc)
pair_at (x ∷ es) (suc k) value e = pair_at es k value e

-- its sizes
pub sizes_of : (row : MapDef) (es : KeyValues) (k : ℕ) (e : List ℕ × List ℕ) → FitListing row es
    → slice_get es k ≡ Some e → (length e.0 ≡ row.key_size) × (length e.1 ≤ max_value_size)
sizes_of row es k e listed there =
    subst (λ (x : List ℕ × List ℕ). (length x.0 ≡ row.key_size) × (length x.1 ≤ max_value_size))
    (get_or_from_slice_get es k e e there)
    (All-get_or (λ (x : List ℕ × List ℕ). (length x.0 ≡ row.key_size)
    × (length x.1 ≤ max_value_size)) es k e (slice_get_within es k e there) listed.sizes)

pub value_short : (row : MapDef) (es : KeyValues) (k : ℕ) (value : List ℕ) → FitListing row es
    → Some value ≡ option_map (λ e. e.1) (slice_get es k) → length value ≤ max_value_size
value_short row es k value listed found =
    let (e, there, is) = pair_at es k value found in
    subst (λ (v : List ℕ). length v ≤ max_value_size) is (sizes_of row es k e listed there).1

-- the line of the key that was found
module _ (index : ℕ) (row : MapDef) (es : KeyValues) (k : ℕ) (old new value : List ℕ)
    (listed : FitListing row es)
    (found : Some value ≡ option_map (λ e. e.1) (slice_get es k))
    (put : new ≡ with_key_of (slice_get es k) old) where
  key_front : (e : List ℕ × List ℕ) → slice_get es k ≡ Some e → take row.key_size new ≡ e.0
  key_front e there =
      ap (λ (n : ℕ). take n new) (sym (sizes_of row es k e listed there).0)
      ∙ ap (take (length e.0))
      (put ∙ ap (λ (o : Option (List ℕ × List ℕ)). with_key_of o old) there)
      ∙ take_at e.0 (drop (length e.0) old) (length e.0) refl

  same_line : (e : List ℕ × List ℕ) → slice_get es k ≡ Some e → e.1 ≡ value
      → map_line index (take row.key_size new, value) ≡ map_line index e
  same_line e there is = λ i. map_line index (key_front e there i, sym is i)

  pub pair_written : (r s t : Option (List ℕ)) (line : List ℕ)
      → line ≡ map_line index (take row.key_size new, value)
      → Appends r s (lines_of index (take k es)) → Appends s t line
      → Appends r t (lines_of index (take (k + 1) es))
  pair_written r s t line made before written =
      let (e, there, is) = pair_at es k value found in
      subst (Appends r t) (sym (lines_up_to index es k e there))
      (part_written r s t (lines_of index (take k es)) (map_line index e) [] before
      (subst (Appends s t) (made ∙ same_line e there is) written))

  pub pair_failed : (r s t : Option (List ℕ)) (line : List ℕ)
      → line ≡ map_line index (take row.key_size new, value)
      → Appends r s (lines_of index (take k es)) → AppendsBeginning s t line
      → AppendsBeginning r t (lines_of index es)
  pair_failed r s t line made before failed =
      let (e, there, is) = pair_at es k value found in
      subst (AppendsBeginning r t) (sym (lines_around index es k e there))
      (part_failed r s t (lines_of index (take k es)) (map_line index e)
      (lines_of index (drop (k + 1) es)) before
      (subst (AppendsBeginning s t) (made ∙ same_line e there is) failed))

-- past the last key all lines were written
pub all_lines : (index : ℕ) (es : KeyValues) (k : ℕ) (r s : Option (List ℕ)) → length es ≤ k
    → Appends r s (lines_of index (take k es)) → Appends r s (lines_of index es)
all_lines index es k r s past v =
    subst (λ (l : KeyValues). Appends r s (lines_of index l)) (take_all k es past) v

-- ---- what fits a row, in the order of the report

module _ {X Y : Type 0} (P : Y → Type 0) (h : X → Option Y)
    (each : (x : X) (y : Y) → h x ≡ Some y → P y) where
  pub filtered : (xs : List X) → All P (filter_map h xs) × (length (filter_map h xs) ≤ length xs)
  filtered [] = (All-nil P, omega arith)
  filtered (x ∷ xs) =
      let (all, few) = filtered xs in
      elim (h x) as (λ o. h x ≡ o
      → All P (cons_option o (filter_map h xs))
      × (length (cons_option o (filter_map h xs)) ≤ suc (length xs))) [
        | None ↦ λ e. (all, omega arith)
        | Some y ↦ λ e. (All-cons P y (filter_map h xs) (each x y e) all, omega arith)
      ] refl

found_value : (P : List ℕ → Type 0) (q : List ℕ) (es : KeyValues) (v : List ℕ) → All (λ e. P e.1) es
    → find key_order q es ≡ Some v → P v
found_value P q [] v all f = absurd (cc)
found_value P q (x ∷ es) v all f =
    elim (is_key q x.0) as (λ b. cond b (Some x.1) (find key_order q es) ≡ Some v → P v) [
      | true ↦ λ g. let same : x.1 ≡ v = cc in subst P same (All-head (λ e. P e.1) x es all)
      | false ↦ λ g. found_value P q es v (All-tail (λ e. P e.1) x es all) g
    ] f

by_index : (es : KeyValues) (i : ℕ) (e : List ℕ × List ℕ)
    → All (λ x. length x.1 ≤ max_value_size) es → key_value_by_index es i ≡ Some e
    → (length e.0 ≡ 4) × (length e.1 ≤ max_value_size)
by_index es i e all f =
    elim (find key_order (little_bytes 4 i) es) as (λ o. find key_order (little_bytes 4 i) es ≡ o
    → option_map (λ value. (little_bytes 4 i, value)) o ≡ Some e
    → (length e.0 ≡ 4) × (length e.1 ≤ max_value_size)) [
      | None ↦ λ g h. absurd (cc)
      | Some v ↦ λ g h.
          let same : (little_bytes 4 i, v) ≡ e = cc in
          subst (λ (x : List ℕ × List ℕ). (length x.0 ≡ 4) × (length x.1 ≤ max_value_size)) same (
            length-bytes_low_first 0 4 i,
            found_value (λ x. length x ≤ max_value_size)
                (little_bytes 4 i) es v all g,
          )
    ] refl f

listed_by : (map_type : MapType) (row : MapDef) (es : KeyValues) → row.kind ≡ map_type → IsRow row
    → FitsRow row es → FitListing row (in_report_order map_type row.entries es)
listed_by Hash row es k h fits = record {
  short_keys = KeyFits-most row.kind row.key_size h.key;
  room = fits.room;
  sizes =
      All-weaker (IsKeyValue row) (λ e. (length e.0 ≡ row.key_size) × (length e.1 ≤ max_value_size))
      (λ e m. (m.key_size, let a = m.value_size in let b = h.short_value in omega arith)) es
      fits.key_values;
}
listed_by Array row es k h fits =
    let short = All-weaker (IsKeyValue row) (λ e. length e.1 ≤ max_value_size)
    (λ e m. let a = m.value_size in let b = h.short_value in omega arith) es fits.key_values in
    let four : row.key_size ≡ 4 = subst (λ (x : MapType). KeyFits x row.key_size) k h.key in
    let (all, few) = filtered
    (λ (e : List ℕ × List ℕ). (length e.0 ≡ 4) × (length e.1 ≤ max_value_size))
    (key_value_by_index es) (λ i e f. by_index es i e short f) (range_with_len 0 row.entries) in
    record {
      short_keys = omega arith;
      room = let n = length-range_with_len 0 row.entries in omega arith;
      sizes =
          subst (λ (n : ℕ). All
          (λ (e : List ℕ × List ℕ). (length e.0 ≡ n) × (length e.1 ≤ max_value_size))
          (in_report_order Array row.entries es)) (sym four) all;
    }

-- the keys and values of a map of an image, as they are listed
pub FitListing-map_at : (ms : List MapState) (i : ℕ) → i < length ms → All IsMap ms
    → FitListing (map_at ms i).row (ordered_in (map_at ms i))
FitListing-map_at ms i l all =
    let m = map_at ms i in
    let h : IsMap m = All-get_or IsMap ms i _ l all in
    listed_by m.row.kind m.row (content_in m) refl h.is_row (FitsRow-IsMap m h)

-- ---- maps

-- the text of these maps, the first of them with this index
abbrev pub text_from : ℕ → List MapState → List ℕ
text_from n ms = flat_map report_part (maps_pieces n (rows_of ms) (contents_of ms))

pub pieces_text : (n : ℕ) (es : KeyValues)
    → flat_map report_part (map (λ e. ToReport (map_line n e)) es) ≡ lines_of n es
pieces_text n [] = refl
pieces_text n (e ∷ es) = ap (λ (l : List ℕ). map_line n e ++ l) (pieces_text n es)

-- the lines of one map
abbrev here_of : ℕ → MapState → List ℕ
here_of n m = lines_of n (ordered_in m)

text_from-cons : (n : ℕ) (m : MapState) (ms : List MapState)
    → text_from n (m ∷ ms) ≡ here_of n m ++ text_from (n + 1) ms
text_from-cons n m ms =
    flat_map-append report_part (map_pieces n m.row (content_in m))
    (maps_pieces (n + 1) (rows_of ms) (contents_of ms))
    ∙ ap (λ (l : List ℕ). l ++ text_from (n + 1) ms) (pieces_text n (ordered_in m))

text_from-append : (n : ℕ) (ms ns : List MapState)
    → text_from n (ms ++ ns) ≡ text_from n ms ++ text_from (n + length ms) ns
text_from-append n [] ns = ap (λ k. text_from k ns) (sym (add-zero n))
text_from-append n (m ∷ ms) ns =
    let same : (n + 1) + length ms ≡ n + suc (length ms) = omega arith in
    text_from-cons n m (ms ++ ns)
    ∙ ap (λ (l : List ℕ). here_of n m ++ l)
    (text_from-append (n + 1) ms ns ∙ ap (λ k. text_from (n + 1) ms ++ text_from k ns) same)
    ∙ sym (append_assoc (here_of n m) (text_from (n + 1) ms) (text_from (n + suc (length ms)) ns))
    ∙ ap (λ (l : List ℕ). l ++ text_from (n + suc (length ms)) ns) (sym (text_from-cons n m ms))

get_or-map_at : (ms : List MapState) (i : ℕ) → i < length ms → (d : MapState)
    → get_or ms i d ≡ map_at ms i
get_or-map_at [] i l d = absurd (omega arith)
get_or-map_at (m ∷ ms) zero l d = refl
get_or-map_at (m ∷ ms) (suc i) l d = get_or-map_at ms i (omega arith) d

length_front : (i : ℕ) (ms : List MapState) → i < length ms → length (take i ms) ≡ i
length_front zero ms l = refl
length_front (suc i) [] l = absurd (omega arith)
length_front (suc i) (m ∷ ms) l = let h = length_front i ms (omega arith) in omega arith

module _ (ms : List MapState) (i : ℕ) (inside : i < length ms) where
  -- the text of maps up to one, and that one's lines
  maps_up_to : text_from 0 (take (i + 1) ms)
      ≡ text_from 0 (take i ms) ++ here_of i (map_at ms i)
  maps_up_to =
      let z : 0 + length (take i ms) ≡ i = omega (arith, length_front i ms inside) in
      ap (text_from 0) (take_more ms i (map_at ms i) inside)
      ∙ text_from-append 0 (take i ms) (get_or ms i (map_at ms i) ∷ [])
      ∙ ap (λ (k : ℕ). text_from 0 (take i ms) ++ text_from k (get_or ms i (map_at ms i) ∷ [])) z
      ∙ ap (λ (m : MapState). text_from 0 (take i ms) ++ text_from i (m ∷ []))
      (get_or-map_at ms i inside (map_at ms i))
      ∙ ap (λ (l : List ℕ). text_from 0 (take i ms) ++ l)
      (text_from-cons i (map_at ms i) [] ∙ append-nil (here_of i (map_at ms i)))

  maps_around : text_from 0 ms
      ≡ (text_from 0 (take i ms) ++ here_of i (map_at ms i))
      ++ text_from (0 + length (take (i + 1) ms)) (drop (i + 1) ms)
  maps_around =
      let rest = text_from (0 + length (take (i + 1) ms)) (drop (i + 1) ms) in
      ap (text_from 0) (sym (take-append-drop (i + 1) ms))
      ∙ text_from-append 0 (take (i + 1) ms) (drop (i + 1) ms)
      ∙ ap (λ (l : List ℕ). l ++ rest) maps_up_to

-- the keys and values of one map more were written, or failed
module _ (ms now : List MapState) (i : ℕ) (inside : i < length ms) (es : KeyValues)
    (listed : es ≡ ordered_in (map_at now i)) (same : now ≡ ms) where
  lines_here : lines_of i es ≡ here_of i (map_at ms i)
  lines_here =
      ap (lines_of i) (listed ∙ ap (λ (m : List MapState). ordered_in (map_at m i)) same)

  pub map_written : (r s t : Option (List ℕ)) → Appends r s (text_from 0 (take i ms))
      → Appends s t (lines_of i es) → Appends r t (text_from 0 (take (i + 1) ms))
  map_written r s t v w =
      subst (Appends r t) (sym (maps_up_to ms i inside))
      (part_written r s t (text_from 0 (take i ms)) (here_of i (map_at ms i)) [] v
      (subst (Appends s t) lines_here w))

  pub map_failed : (r s t : Option (List ℕ)) → Appends r s (text_from 0 (take i ms))
      → AppendsBeginning s t (lines_of i es) → AppendsBeginning r t (text_from 0 ms)
  map_failed r s t v w =
      subst (AppendsBeginning r t) (sym (maps_around ms i inside))
      (part_failed r s t (text_from 0 (take i ms)) (here_of i (map_at ms i))
      (text_from (0 + length (take (i + 1) ms)) (drop (i + 1) ms)) v
      (subst (AppendsBeginning s t) lines_here w))

pub maps_whole : (ms : List MapState) (i : ℕ) (r s : Option (List ℕ)) → length ms ≤ i
    → Appends r s (text_from 0 (take i ms)) → Appends r s (text_from 0 ms)
maps_whole ms i r s past v =
    subst (λ (l : List MapState). Appends r s (text_from 0 l)) (take_all i ms past) v
