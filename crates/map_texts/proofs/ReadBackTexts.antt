-- The text of what maps hold fills new maps of the same rows with the same.
use Rattle.map_texts.proofs.Common.{◌≡◌, ℕ, suc, ◌+◌, ◌^◌, ◌<◌, List, [], ◌∷◌, ◌++◌, length, Some, Bool, true, refl, sym, ap, ◌∙◌, arith, append_assoc, length-append, All, nat_eq, slice_set, slice_index_or, if◌then◌else◌, flat_map, slice_get, slice_split, All-nil, All-head, All-tail, All-map, All-weaker, MapDef, IsRow, with_key, update_answer, FitRows, IsKeyValue, KeyValues, ByEnd, report_part, map_line, map_pieces, maps_pieces, in_report_order, starting_key_values, starting_contents, MapState, IsMap, rows_of, contents_of, FitRows-IsMap, length-rows_of, NoRoom, Update, key_column, FilledMaps, accepted, refused, after_meaning, after_line, after_lines, filled_by, is_line_feed, ReadsBack, lines_of, text_of, NoFeed}
use Rattle.std.proofs.Math.Seq.{get_or-append_seam, set-append_seam}
use Rattle.std.proofs.lemmas.Grind.{flat_map-append}
use Rattle.map_texts.proofs.LineLaws.{passed_line}
use Rattle.map_texts.proofs.Listing.{pieces_text}
use Rattle.map_texts.proofs.ReadBack.{put_all, Answered, PutsBack-FitsRow}
use Rattle.map_texts.proofs.ReadBackLines.{key_line, map_line-key_line, no_feed-key_line, key_line-meaning}
use Rattle.map_texts.proofs.Splitting.{and_rest, left_at, left_none}

-- what the lines of a text do from here on
abbrev after_text : List MapDef → ℕ → List KeyValues → List ℕ → FilledMaps
after_text rows number contents bytes =
    after_lines ByEnd rows number contents (slice_split is_line_feed bytes)

module _ (rows : List MapDef) (front after : List KeyValues) (row : MapDef) (row_fits : IsRow row)
    (at : slice_get rows (length front) ≡ Some row) (small : length front < 2 ^ 64) where
  abbrev index : ℕ
  index = length front

  abbrev with_map : KeyValues → List KeyValues
  with_map held = front ++ held ∷ after

  -- the line of a key and its value
  line_back : (number : ℕ) (held : KeyValues) (e : List ℕ × List ℕ) (rest : List ℕ)
      → IsKeyValue row e → update_answer row held e.0 0 ≡ 0
      → after_text rows number (with_map held) (map_line index e ++ rest)
      ≡ after_text rows (number + 1) (with_map (with_key e.0 e.1 held)) rest
  line_back number held e rest fits answered =
      let line = key_line index e in
      let here : slice_index_or (with_map held) index [] ≡ held =
      get_or-append_seam front held after [] in
      let zero_is : nat_eq (update_answer row held e.0 0) 0 ≡ true =
      ap (λ (n : ℕ). nat_eq n 0) answered in
      let said : after_line rows number (with_map held) line
      ≡ after_meaning number (with_map held) (Update index row e.0 e.1 (key_column line)) =
      ap (after_meaning number (with_map held))
      (key_line-meaning index small e row fits row_fits rows at) in
      let done : after_meaning number (with_map held) (Update index row e.0 e.1 (key_column line))
      ≡ accepted (with_map (with_key e.0 e.1 held)) =
      ap (λ (es : KeyValues).
      if nat_eq (update_answer row es e.0 0) 0
      then accepted (slice_set (with_map held) index
      (if nat_eq (update_answer row es e.0 0) 0 then with_key e.0 e.1 es else es))
      else refused (with_map held) NoRoom number (key_column line)) here
      ∙ ap (λ (t : Bool).
      if t
      then accepted (slice_set (with_map held) index (if t then with_key e.0 e.1 held else held))
      else refused (with_map held) NoRoom number (key_column line)) zero_is
      ∙ ap accepted (set-append_seam front held after (with_key e.0 e.1 held)) in
      ap (after_text rows number (with_map held))
      (ap (λ (l : List ℕ). l ++ rest) (map_line-key_line index e)
      ∙ append_assoc line (10 ∷ []) rest)
      ∙ left_at rows number (with_map held) ByEnd line rest
      (no_feed-key_line index small e row fits row_fits)
      ∙ ap (and_rest rows number (with_map held) ByEnd rest) (said ∙ done)

  -- the lines of a map
  lines_back : (es : KeyValues) (number : ℕ) (held : KeyValues) (rest : List ℕ)
      → All (IsKeyValue row) es → Answered row held es
      → after_text rows number (with_map held) (lines_of index es ++ rest)
      ≡ after_text rows (number + length es) (with_map (put_all held es)) rest
  lines_back [] number held rest fits answered =
      let same : number ≡ number + 0 = omega arith in
      ap (λ (n : ℕ). after_text rows n (with_map held) rest) same
  lines_back (e ∷ es) number held rest fits answered =
      let same : (number + 1) + length es ≡ number + suc (length es) = omega arith in
      ap (after_text rows number (with_map held))
      (append_assoc (map_line index e) (lines_of index es) rest)
      ∙ line_back number held e (lines_of index es ++ rest)
      (All-head (IsKeyValue row) e es fits) answered.0
      ∙ lines_back es (number + 1) (with_key e.0 e.1 held) rest
      (All-tail (IsKeyValue row) e es fits) answered.1
      ∙ ap (λ (n : ℕ). after_text rows n (with_map (put_all (with_key e.0 e.1 held) es)) rest) same

-- the text of maps, the first of them after some others
module _ (rows : List MapDef) where
  maps_back : (some : List MapDef) (contents front : List KeyValues) (number : ℕ) → All IsRow some
      → FitRows some contents
      → ((i : ℕ) (row : MapDef) → slice_get some i ≡ Some row
      → slice_get rows (length front + i) ≡ Some row)
      → length front + length some < 2 ^ 64
      → after_text rows number (front ++ starting_contents some)
      (flat_map report_part (maps_pieces (length front) some contents))
      ≡ accepted (front ++ contents)
  maps_back [] [] front number are_rows fits at small =
      left_none rows number (front ++ []) ByEnd [] (All-nil NoFeed)
      ∙ passed_line rows number (front ++ []) [] refl
  maps_back [] (es ∷ contents) front number are_rows fits at small = absurd fits
  maps_back (row ∷ some) [] front number are_rows fits at small = absurd fits
  maps_back (row ∷ some) (es ∷ contents) front number are_rows fits at small =
      let row_fits = All-head IsRow row some are_rows in
      let back = PutsBack-FitsRow row es row_fits fits.0 in
      let k = length front in
      let listed = in_report_order row.kind row.entries es in
      let start = starting_key_values row.kind row in
      let others = starting_contents some in
      let rest = flat_map report_part (maps_pieces (k + 1) some contents) in
      let zero_is : k + 0 ≡ k = omega arith in
      let here : slice_get rows k ≡ Some row =
      ap (slice_get rows) (sym zero_is) ∙ at 0 row refl in
      let next : length (front ++ es ∷ []) ≡ k + 1 =
      (let l = length-append front (es ∷ []) in omega arith) in
      let later = number + length listed in
      ap (after_text rows number (front ++ start ∷ others))
      (flat_map-append report_part (map_pieces k row es) (maps_pieces (k + 1) some contents)
      ∙ ap (λ (l : List ℕ). l ++ rest) (pieces_text k listed))
      ∙ lines_back rows front others row row_fits here (omega arith) listed number start rest
      back.each back.answered
      ∙ ap (λ (held : KeyValues). after_text rows later (front ++ held ∷ others) rest) back.same
      ∙ ap (λ (c : List KeyValues). after_text rows later c rest)
      (sym (append_assoc front (es ∷ []) others))
      ∙ ap (λ (n : ℕ). after_text rows later ((front ++ es ∷ []) ++ others)
      (flat_map report_part (maps_pieces n some contents))) (sym next)
      ∙ maps_back some contents (front ++ es ∷ []) later (All-tail IsRow row some are_rows) fits.1
      (λ i r there.
      (let same : length (front ++ es ∷ []) + i ≡ k + suc i = omega arith in
      ap (slice_get rows) same ∙ at (suc i) r there))
      (omega arith)
      ∙ ap accepted (append_assoc front (es ∷ []) contents)

  -- what is written is read back
  pub read_back : (contents : List KeyValues) → All IsRow rows → FitRows rows contents
      → length rows < 2 ^ 64
      → filled_by rows (starting_contents rows)
      (record { bytes = text_of rows contents; ending = ByEnd })
      ≡ accepted contents
  read_back contents are_rows fits small =
      maps_back rows contents [] 1 are_rows fits
      (λ i row there. (let same : 0 + i ≡ i = omega arith in ap (slice_get rows) same ∙ there))
      (omega arith)

pub maps_read_back : (ms : List MapState) → All IsMap ms → length ms < 2 ^ 64
    → ReadsBack (rows_of ms) (contents_of ms)
maps_read_back ms all small =
    read_back (rows_of ms) (contents_of ms)
    (All-map IsRow (λ m. m.row) ms (All-weaker IsMap (λ m. IsRow m.row) (λ m h. h.is_row) ms all))
    (FitRows-IsMap ms all) (let l = length-rows_of ms in omega arith)
