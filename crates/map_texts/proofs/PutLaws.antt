-- What a line's update does to the maps, by the test that fails, or none.
use Rattle.map_texts.proofs.Common.{◌≡◌, ◌≢◌, ℕ, zero, suc, ◌<◌, ◌≤◌, List, [], ◌∷◌, length, Option, Some, None, Bool, true, false, refl, sym, ap, ◌∙◌, arith, nat_eq, slice_set, slice_index_or, if◌then◌else◌, ◌-◌, ◌^◌, slice_get, set-get_or, MapDef, update_answer, after_update, KeyValues, MapState, Updated, map_at, content_in, rows_of, contents_of, contents_of-at, contents_of-set, rows_of-set, NoMap, KeySize, ValueSize, NoRoom, Update, row_meaning, sized_meaning, FilledMaps, accepted, refused, updated, after_meaning}
use Rattle.maps.specs.Contents.{content as content_of}

-- ---- rows by index

row_at : (ms : List MapState) (i : ℕ) → i < length ms
    → slice_get (rows_of ms) i ≡ Some (map_at ms i).row
row_at [] i inside = absurd (omega arith)
row_at (m ∷ ms) zero inside = refl
row_at (m ∷ ms) (suc i) inside = row_at ms i (omega arith)

row_past : (ms : List MapState) (i : ℕ) → length ms ≤ i → slice_get (rows_of ms) i ≡ None
row_past [] i past = refl
row_past (m ∷ ms) zero past = absurd (omega arith)
row_past (m ∷ ms) (suc i) past = row_past ms i (omega arith)

module _ (ms : List MapState) (number key_at value_at i : ℕ) (key value : List ℕ) where
  abbrev pub put : FilledMaps
  put =
      after_meaning number (contents_of ms)
      (row_meaning key_at value_at i (slice_get (rows_of ms) i) key value)

  pub no_map : length ms ≤ i → refused (contents_of ms) NoMap number 5 ≡ put
  no_map past =
      sym (ap (λ (o : Option MapDef). after_meaning number (contents_of ms)
      (row_meaning key_at value_at i o key value)) (row_past ms i past))

  module _ (inside : i < length ms) where
    abbrev row : MapDef
    row = (map_at ms i).row

    put_at : put
        ≡ after_meaning number (contents_of ms) (sized_meaning key_at value_at i row key value)
    put_at =
        ap (λ (o : Option MapDef). after_meaning number (contents_of ms)
        (row_meaning key_at value_at i o key value)) (row_at ms i inside)

    pub other_key : length key ≢ row.key_size
        → refused (contents_of ms) KeySize number key_at ≡ put
    other_key apart =
        let t : nat_eq (length key) row.key_size ≡ false = grind arith in
        sym (put_at ∙ rw t refl)

    module _ (size : length key ≡ row.key_size) where
      key_test : nat_eq (length key) row.key_size ≡ true
      key_test = grind arith

      pub other_value : length value ≢ row.value_size
          → refused (contents_of ms) ValueSize number value_at ≡ put
      other_value apart =
          let t : nat_eq (length value) row.value_size ≡ false = grind arith in
          sym (put_at ∙ rw (key_test, t) refl)

      module _ (value_size : length value ≡ row.value_size) where
        value_test : nat_eq (length value) row.value_size ≡ true
        value_test = grind arith

        sized : put ≡ after_meaning number (contents_of ms) (Update i row key value key_at)
        sized = put_at ∙ rw (key_test, value_test) refl

        abbrev content : KeyValues
        content = content_in (map_at ms i)

        here : slice_index_or (contents_of ms) i [] ≡ content
        here = contents_of-at ms i [] inside

        module _ (new : List MapState) (answer : ℕ)
            (done : Updated key value 0 answer (map_at ms i) (map_at new i))
            (others : new ≡ slice_set ms i (map_at new i)) where
          pub rows_stay : rows_of new ≡ rows_of ms
          rows_stay = ap rows_of others ∙ rows_of-set ms i (map_at new i) done.row

          contents_are : contents_of new
              ≡ slice_set (contents_of ms) i (after_update row content key value 0)
          contents_are =
              ap contents_of others ∙ contents_of-set ms i (map_at new i)
              ∙ ap (slice_set (contents_of ms) i) done.content

          answer_is : (b : Bool) → nat_eq answer 0 ≡ b
              → nat_eq (update_answer row (slice_index_or (contents_of ms) i []) key 0) 0 ≡ b
          answer_is b e =
              ap (λ (es : KeyValues). nat_eq (update_answer row es key 0) 0) here
              ∙ ap (λ (n : ℕ). nat_eq n 0) (sym done.answer) ∙ e

          decided : (b : Bool) → nat_eq answer 0 ≡ b
              → put ≡ (if b then accepted (updated (contents_of ms) i row key value)
              else refused (contents_of ms) NoRoom number key_at)
          decided b e =
              sized
              ∙ ap (λ (t : Bool). if t then accepted (updated (contents_of ms) i row key value)
              else refused (contents_of ms) NoRoom number key_at) (answer_is b e)

          pub put_done : answer ≡ 0 → accepted (contents_of new) ≡ put
          put_done zero_is =
              sym (decided true (grind arith)
              ∙ ap (λ (es : KeyValues). accepted
              (slice_set (contents_of ms) i (after_update row es key value 0))) here
              ∙ ap accepted (sym contents_are))

          pub put_refused : answer ≢ 0 → refused (contents_of new) NoRoom number key_at ≡ put
          put_refused apart =
              let same : (map_at new i).places ≡ (map_at ms i).places =
              (done.updates.stays apart).0 in
              let block : (map_at new i).block ≡ (map_at ms i).block =
              (done.updates.stays apart).1 in
              let kept : content_in (map_at new i) ≡ content =
              (λ k. content_of (done.row k).value_size (same k) (block k)) in
              let stay : contents_of new ≡ contents_of ms =
              ap contents_of others ∙ contents_of-set ms i (map_at new i)
              ∙ ap (slice_set (contents_of ms) i) (kept ∙ sym here)
              ∙ set-get_or (contents_of ms) i [] in
              sym (decided false (grind arith)
              ∙ ap (λ (c : List KeyValues). refused c NoRoom number key_at) (sym stay))
