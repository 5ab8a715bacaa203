-- The results of a caller's look-ups, updates and deletes between runs, by the maps.
use Rattle.machine.proofs.Common.{◌≡◌, ℕ, ◌<◌, List, [], ◌∷◌, length, take, drop, cond, refl, sym, ap, subst, ◌∙◌, All, true, false, IfSome, Option, None, Some, is_some, option_copied, slice_set, slice_index_or, option_map, empty, find, get_or-map, take_at, All-nil, All-cons, All-head, All-tail, All-weaker, All-get_or, slice_get_within, get_or_from_slice_get, Hash, Array, MapDef, Program, KeyFits, KeyValues, key_order, is_key, at_key, update_answer, delete_answer, after_update, after_delete, FitRows, IsKeyValue, MapState, IsMap, Updated, Deleted, map_at, content_in, ordered_in, rows_of, contents_of, FitsRow-IsMap, FitRows-IsMap, contents_of-at, contents_of-set, rows_of-set, length-rows_of, Running, IsReady, IsVersioned, row_at, content_at, ordered_at, with_content, key_or, value_or, AnswersUpdate, AnswersDelete, CopiesKeyValue}
use Rattle.std.specs.Borrow.{Bor}
use Rattle.std.specs.List.{slice_get, filter_map, cons_option, range_with_len}
use Rattle.byteorder.specs.Endian.{little_bytes}
use Rattle.byteorder.specs.Numbers.{length-bytes_low_first}
use Rattle.isa_model.specs.declared.map_defs.MapType.{MapType}
use Rattle.isa_model.specs.Reporting.Reports.{key_value_by_index, in_report_order}
use Rattle.maps.specs.ReportOrder.{with_key_of}
use Rattle.map_texts.proofs.Listing.{pair_at}
use Rattle.word_machine.specs.declared.memory.Memory.{Memory}

abbrev no_row : MapDef
no_row = record { kind = Hash; key_size = 0; value_size = 0; entries = 0 }

abbrev no_map : MapState
no_map = record { row = no_row; places = empty; block = [] }

-- a machine as callers see it, by its program, bound and maps
abbrev pub seen : Program → ℕ → List MapState → Running
seen p bound maps = record { program = p; bound = bound; contents = contents_of maps }

module _ (p : Program) (bound : ℕ) (maps : List MapState) (rows : rows_of maps ≡ p.maps)
    (r : Running) (view : seen p bound maps ≡ r)
    (m : ℕ) (named : m < length r.program.maps) where
  pub inside : m < length maps
  inside =
      let same : length p.maps ≡ length r.program.maps =
      ap (λ (x : Running). length x.program.maps) view in
      let as_rows : length (rows_of maps) ≡ length p.maps =
      ap (λ (rs : List MapDef). length rs) rows in
      let many : length (rows_of maps) ≡ length maps = length-rows_of maps in
      subst (λ (n : ℕ). m < n) (sym same ∙ sym as_rows ∙ many) named

  row_seen : (map_at maps m).row ≡ row_at (seen p bound maps) m
  row_seen = sym (get_or-map (λ (x : MapState). x.row) maps m no_map no_row inside)
      ∙ ap (λ (rs : List MapDef). slice_index_or rs m no_row) rows

  content_seen : content_in (map_at maps m) ≡ content_at (seen p bound maps) m
  content_seen = sym (contents_of-at maps m [] inside)

  pub row_is : (map_at maps m).row ≡ row_at r m
  row_is = row_seen ∙ ap (λ (x : Running). row_at x m) view

  pub content_is : content_in (map_at maps m) ≡ content_at r m
  content_is = content_seen ∙ ap (λ (x : Running). content_at x m) view

  pub ordered_is : ordered_in (map_at maps m) ≡ ordered_at r m
  ordered_is = λ i. in_report_order (row_is i).kind (row_is i).entries (content_is i)

  module _ (new : List MapState) (others : new ≡ slice_set maps m (map_at new m)) where
    pub keeps_rows : (map_at new m).row ≡ (map_at maps m).row → rows_of new ≡ p.maps
    keeps_rows same = ap rows_of others ∙ rows_of-set maps m (map_at new m) same ∙ rows

    changed : (content : KeyValues) → content_in (map_at new m) ≡ content
        → seen p bound new ≡ with_content (seen p bound maps) m content
    changed content e =
        let set : contents_of new ≡ slice_set (contents_of maps) m content =
        ap contents_of others ∙ contents_of-set maps m (map_at new m)
        ∙ ap (λ (es : KeyValues). slice_set (contents_of maps) m es) e in
        ap (λ (cs : List KeyValues). record { program = p; bound = bound; contents = cs }) set

    pub updates : (key value : List ℕ) (flags result : ℕ)
        → Updated key value flags result (map_at maps m) (map_at new m)
        → AnswersUpdate m key value flags result r (seen p bound new)
    updates key value flags result u =
        let row = row_seen in
        let content = content_seen in
        subst (λ (x : Running). AnswersUpdate m key value flags result x (seen p bound new)) view
        (record {
          answer = u.answer ∙ (λ i. update_answer (row i) (content i) key flags);
          machine =
              changed (after_update (row_at (seen p bound maps) m)
              (content_at (seen p bound maps) m) key value flags)
              (u.content ∙ (λ i. after_update (row i) (content i) key value flags));
        })

    pub deletes : (key : List ℕ) (result : ℕ) → Deleted key result (map_at maps m) (map_at new m)
        → AnswersDelete m key result r (seen p bound new)
    deletes key result d =
        let row = row_seen in
        let content = content_seen in
        subst (λ (x : Running). AnswersDelete m key result x (seen p bound new)) view (record {
          answer = d.answer ∙ (λ i. delete_answer (row i) (content i) key);
          machine =
              changed (after_delete (row_at (seen p bound maps) m)
              (content_at (seen p bound maps) m) key)
              (d.content ∙ (λ i. after_delete (row i) (content i) key));
        })

-- with other maps of the same rows the machine can run again
ready_again : (p : Program) (bound : ℕ) (memory : Memory) (new : List MapState)
    → IsReady p bound memory → rows_of new ≡ p.maps → All IsMap new
    → IsReady p bound (record memory { maps = new })
ready_again p bound memory new ready rows are = record {
  running = record {
    is_program = ready.running.is_program;
    ends = ready.running.ends;
    some = ready.running.some;
    most = ready.running.most;
    fits = subst (λ (rs : List MapDef). FitRows rs (contents_of new)) rows (FitRows-IsMap new are);
  };
  few = ready.few;
  rows = rows;
  whole = ready.whole;
  outer = ready.outer;
  capacity = ready.capacity;
}

pub versioned_again : (p : Program) (bound version : ℕ) (memory : Memory) (new : List MapState)
    → IsVersioned p bound version memory → rows_of new ≡ p.maps → All IsMap new
    → IsVersioned p bound version (record memory { maps = new })
versioned_again p bound version memory new kept rows are = record {
  ready = ready_again p bound memory new kept.ready rows are;
  version_is = kept.version_is;
}

-- ---- sizes of keys and values

abbrev pub IsSized : MapDef → List ℕ × List ℕ → Type 0
IsSized row e = (length e.0 ≡ row.key_size) × (length e.1 ≡ row.value_size)

found : (P : List ℕ → Type 0) (key : List ℕ) (es : KeyValues) → All (λ e. P e.1) es
    → IfSome (find key_order key es) P
found P key [] all = tt
found P key (x ∷ es) all =
    elim (is_key key x.0) as (λ b. IfSome (cond b (Some x.1) (find key_order key es)) P) [
      | true ↦ All-head (λ e. P e.1) x es all
      | false ↦ found P key es (All-tail (λ e. P e.1) x es all)
    ]

by_index : (row : MapDef) (es : KeyValues) (i : ℕ) (e : List ℕ × List ℕ) → row.key_size ≡ 4
    → All (λ x. length x.1 ≡ row.value_size) es
    → key_value_by_index es i ≡ Some e → IsSized row e
by_index row es i e four all f =
    elim (find key_order (little_bytes 4 i) es) as (λ o. IfSome o (λ v. length v ≡ row.value_size)
    → option_map (λ value. (little_bytes 4 i, value)) o ≡ Some e → IsSized row e) [
      | None ↦ λ g h. absurd (cc)
      | Some v ↦
          λ g h. let same : (little_bytes 4 i, v) ≡ e = cc in
          subst (IsSized row) same (length-bytes_low_first 0 4 i ∙ sym four, g)
    ] (found (λ v. length v ≡ row.value_size) (little_bytes 4 i) es all) f

module _ {X Y : Type 0} (P : Y → Type 0) (h : X → Option Y)
    (each : (x : X) (y : Y) → h x ≡ Some y → P y) where
  filtered : (xs : List X) → All P (filter_map h xs)
  filtered [] = All-nil P
  filtered (x ∷ xs) = elim (h x) as (λ o. h x ≡ o → All P (cons_option o (filter_map h xs))) [
    | None ↦ λ e. filtered xs
    | Some y ↦ λ e. All-cons P y (filter_map h xs) (each x y e) (filtered xs)
  ] refl

sized_by : (map_type : MapType) (row : MapDef) (es : KeyValues) → KeyFits map_type row.key_size
    → All (IsKeyValue row) es → All (IsSized row) (in_report_order map_type row.entries es)
sized_by Hash row es k are =
    All-weaker (IsKeyValue row) (IsSized row) (λ e m. (m.key_size, m.value_size)) es are
sized_by Array row es k are =
    let values = All-weaker (IsKeyValue row) (λ e. length e.1 ≡ row.value_size)
    (λ e m. m.value_size) es are in
    filtered (IsSized row) (key_value_by_index es) (λ i e f. by_index row es i e k values f)
    (range_with_len 0 row.entries)

copied_so : (o : Option (Bor (List ℕ))) (P : List ℕ → Type 0) → IfSome (option_copied o) P
    → IfSome o (λ v. P v.now)
copied_so None P h = tt
copied_so (Some v) P h = h

module _ (maps : List MapState) (are : All IsMap maps) (m : ℕ) (inside : m < length maps) where
  is_map : IsMap (map_at maps m)
  is_map = All-get_or IsMap maps m no_map inside are

  -- a value that is found has the size of the row
  pub value_size_is : (key : List ℕ) (row : MapDef) (o : Option (Bor (List ℕ)))
      → (map_at maps m).row ≡ row
      → option_copied o ≡ at_key key (content_in (map_at maps m))
      → IfSome o (λ v. length v.now ≡ row.value_size)
  value_size_is key row o same is =
      let s = map_at maps m in
      let sizes = All-weaker (IsKeyValue s.row) (λ e. length e.1 ≡ s.row.value_size)
      (λ e h. h.value_size) (content_in s) (FitsRow-IsMap s is_map).key_values in
      copied_so o (λ v. length v ≡ row.value_size)
      (subst (λ (x : MapDef). IfSome (option_copied o) (λ v. length v ≡ x.value_size)) same
      (subst (λ (q : Option (List ℕ)). IfSome q (λ v. length v ≡ s.row.value_size)) (sym is)
      (found (λ v. length v ≡ s.row.value_size) key (content_in s) sizes)))

  -- so has each value that is listed
  pub sized : (row : MapDef) (es : KeyValues) → (map_at maps m).row ≡ row
      → es ≡ ordered_in (map_at maps m) → All (IsSized row) es
  sized row es same listed =
      let s = map_at maps m in
      subst (λ (x : MapDef). All (IsSized x) es) same
      (subst (All (IsSized s.row)) (sym listed)
      (sized_by s.row.kind s.row (content_in s) is_map.is_row.key
      (FitsRow-IsMap s is_map).key_values))

-- the key and the value that are found at k are copied
module _ (row : MapDef) (es : KeyValues) (k : ℕ) (value : List ℕ) (are : All (IsSized row) es)
    (is : Some value ≡ option_map (λ e. e.1) (slice_get es k)) where
  sizes_of : (e : List ℕ × List ℕ) → slice_get es k ≡ Some e → IsSized row e
  sizes_of e there =
      subst (IsSized row) (get_or_from_slice_get es k e e there)
      (All-get_or (IsSized row) es k e (slice_get_within es k e there) are)

  pub found_size : length value ≡ row.value_size
  found_size =
      let (e, there, same) = pair_at es k value is in
      subst (λ (v : List ℕ). length v ≡ row.value_size) same (sizes_of e there).1

  pub copies : (front room old_key new_key old_value new_value : List ℕ)
      → length old_key ≡ row.key_size → front ≡ with_key_of (slice_get es k) room
      → new_key ≡ take (length old_key) front → new_value ≡ value
      → CopiesKeyValue (slice_get es k) true old_key new_key old_value new_value
  copies front room old_key new_key old_value new_value size put key_taken value_taken =
      let (e, there, same) = pair_at es k value is in
      record {
        copied_is = sym (ap is_some there);
        key_is = key_taken ∙ ap (λ (n : ℕ). take n front) (size ∙ sym (sizes_of e there).0)
            ∙ ap (take (length e.0))
            (put ∙ ap (λ (o : Option (List ℕ × List ℕ)). with_key_of o room) there)
            ∙ take_at e.0 (drop (length e.0) room) (length e.0) refl
            ∙ sym (ap (λ (o : Option (List ℕ × List ℕ)). key_or o old_key) there);
        value_is = value_taken ∙ sym same
            ∙ sym (ap (λ (o : Option (List ℕ × List ℕ)). value_or o old_value) there);
      }
