-- Maps whose values have serials: what each change makes of the contents, and that the serials stay
-- apart.
use Rattle.live_maps.proofs.Common.{◌≡◌, ℕ, suc, ◌+◌, ◌<◌, ◌≤◌, List, [], length, Option, Some, None, true, false, refl, sym, ap, subst, ◌∙◌, arith, ◌≢◌, ◌==◌, is_some, nat_le, slice_set, option_map, get, entries, eqb, eqb-true, eqb-false, nat_tests, get_or-set_same, get_or-set_other, set-get_or, length-set, length-map, Content, KeyValues, key_values_of, index_of_serial, put_value, at_key, with_key, without_key, update_answer, delete_answer, update_answer_by, delete_answer_by, with_block_row, Places, TakesPlace, MapState, IsMap, WritesValue, Updated, Deleted, map_at, content_in, Hash, Array, Serials, serial_in, serials_at, place_if_new, stored, live_content, live_contents, HasSerials, AreLive, content_at, with_content, with_value, with_bytes, without}
use Rattle.maps.proofs.UpdateLaws.{delete_answer-places}
use Rattle.isa_model.specs.declared.map_defs.MapType.{MapType}
use Rattle.isa_model.specs.Machine.MapHelpers.{serial_given, serial_after}
use Rattle.isa_model.proofs.ContentLaws.{has_key-key_values_of}
use Rattle.live_maps.proofs.ContentLaws.{live_contents-at, live_contents-set, live_contents-set_map, live_of, rows_of-set, key_values-stored}
use Rattle.live_maps.proofs.SerialLaws.{put_value-written, at_key-live, HasSerials-more, HasSerials-same, HasSerials-added, with_key-added, with_key-present, HasSerials-removed, without_key-removed}

map_at-set_same : (maps : List MapState) (m : ℕ) (x : MapState) → m < length maps
    → map_at (slice_set maps m x) m ≡ x
map_at-set_same maps m x l = get_or-set_same maps m x _ l

map_at-set_other : (maps : List MapState) (m k : ℕ) (x : MapState) → k ≢ m
    → map_at (slice_set maps m x) k ≡ map_at maps k
map_at-set_other maps m k x d = get_or-set_other maps m k x _ d

module _ (next more : ℕ) (maps : List MapState) (all : List Serials) (m : ℕ) (x : MapState)
    (le : next ≤ more) (inside : m < length maps)
    (h : AreLive next maps all) where
  AreLive-set : (s : Serials) → HasSerials more x s
      → AreLive more (slice_set maps m x) (slice_set all m s)
  AreLive-set s here = record {
    long = length-set all m s ∙ h.long ∙ sym (length-set maps m x);
    each = λ k l.
        let long = length-set maps m x in
        let old_long = h.long in
        elim (eqb k m) as (λ b. eqb k m ≡ b
        → HasSerials more (map_at (slice_set maps m x) k) (serials_at (slice_set all m s) k)) [
          | true ↦ λ t.
              let same = eqb-true k m t in
              subst (λ (j : ℕ). HasSerials more (map_at (slice_set maps m x) j)
              (serials_at (slice_set all m s) j)) (sym same)
              (subst (λ (y : MapState). HasSerials more y (serials_at (slice_set all m s) m))
              (sym (map_at-set_same maps m x inside))
              (subst (λ (r : Serials). HasSerials more x r)
              (sym (get_or-set_same all m s [] (omega arith))) here))
          | false ↦ λ t.
              let d = eqb-false k m t in
              subst (λ (y : MapState). HasSerials more y (serials_at (slice_set all m s) k))
              (sym (map_at-set_other maps m k x d))
              (subst (λ (r : Serials). HasSerials more (map_at maps k) r)
              (sym (get_or-set_other all m k s [] d))
              (HasSerials-more next (map_at maps k) (serials_at all k)
              (h.each k (omega arith)) more le))
        ] refl;
  }

  AreLive-set_map : HasSerials more x (serials_at all m) → AreLive more (slice_set maps m x) all
  AreLive-set_map here = record {
    long = h.long ∙ sym (length-set maps m x);
    each = λ k l.
        let long = length-set maps m x in
        elim (eqb k m) as (λ b. eqb k m ≡ b
        → HasSerials more (map_at (slice_set maps m x) k) (serials_at all k)) [
          | true ↦ λ t.
              let same = eqb-true k m t in
              subst (λ (j : ℕ). HasSerials more (map_at (slice_set maps m x) j) (serials_at all j))
              (sym same)
              (subst (λ (y : MapState). HasSerials more y (serials_at all m))
              (sym (map_at-set_same maps m x inside)) here)
          | false ↦ λ t.
              let d = eqb-false k m t in
              subst (λ (y : MapState). HasSerials more y (serials_at all k))
              (sym (map_at-set_other maps m k x d))
              (HasSerials-more next (map_at maps k) (serials_at all k)
              (h.each k (omega arith)) more le)
        ] refl;
  }

-- one map changed: what the maps and their contents are then
module _ (next : ℕ) (maps : List MapState) (all : List Serials) (m : ℕ) (new : List MapState)
    (inside : m < length maps) (h : AreLive next maps all)
    (others : new ≡ slice_set maps m (map_at new m)) where
  abbrev s : Serials
  s = serials_at all m

  abbrev x : MapState
  x = map_at new m

  mine : HasSerials next (map_at maps m) s
  mine = h.each m inside

  live_at : content_at (live_of maps all next) m ≡ live_content (map_at maps m) s
  live_at = live_contents-at maps all m h.long inside

  -- its serials are as they were
  same_serials : HasSerials next x s → x.row ≡ (map_at maps m).row → (content : Content)
      → live_content x s ≡ content
      → AreLive next new all
      × (live_of new all next ≡ with_content (live_of maps all next) m content)
  same_serials here same_row content is = (
    subst (λ (l : List MapState). AreLive next l all) (sym others)
        (AreLive-set_map next next maps all m x (omega arith) inside h here),
    ap (λ (l : List MapState). live_of l all next) others
        ∙ (λ i. record {
          rows = rows_of-set maps m x same_row i;
          contents =
              (live_contents-set_map maps all m x h.long inside
              ∙ ap (slice_set (live_contents maps all) m) is) i;
          next_serial = next;
        }),
  )

  -- a place has another serial, or none
  other_serials : (more : ℕ) (t : Serials) → next ≤ more → HasSerials more x t
      → x.row ≡ (map_at maps m).row → (content : Content)
      → live_content x t ≡ content
      → AreLive more new (slice_set all m t)
      × (live_of new (slice_set all m t) more
      ≡ record (live_of maps all next)
      { contents = slice_set (live_contents maps all) m content; next_serial = more })
  other_serials more t le here same_row content is = (
    subst (λ (l : List MapState). AreLive more l (slice_set all m t)) (sym others)
        (AreLive-set next more maps all m x le inside h t here),
    ap (λ (l : List MapState). live_of l (slice_set all m t) more) others
        ∙ (λ i. record {
          rows = rows_of-set maps m x same_row i;
          contents =
              (live_contents-set maps all m x t h.long inside
              ∙ ap (slice_set (live_contents maps all) m) is) i;
          next_serial = more;
        }),
  )

  -- bytes written into a value
  pub live-written : (n p i : ℕ) (bytes : List ℕ) → serial_in s p ≡ Some n
      → i + length bytes ≤ (map_at maps m).row.value_size → IsMap x
      → WritesValue p i bytes (map_at maps m) x
      → AreLive next new all
      × (live_of new all next ≡ with_value (live_of maps all next) m n i bytes)
  live-written n p i bytes here fits is w =
      let r = same_serials (HasSerials-same next (map_at maps m) s mine x is w.row w.places) w.row
      (put_value (live_content (map_at maps m) s)
      (index_of_serial (live_content (map_at maps m) s) n) i bytes)
      (put_value-written next (map_at maps m) s mine n p here x i bytes fits w) in (
        r.0,
        r.1 ∙ ap (λ (c : Content). with_content (live_of maps all next) m
            (put_value c (index_of_serial c n) i bytes)) (sym live_at),
      )

  -- a present key's value written
  pub live-updated : (key value : List ℕ) (flags p : ℕ) → IsMap x
      → length value ≡ (map_at maps m).row.value_size
      → Updated key value flags 0 (map_at maps m) x → get (map_at maps m).places key ≡ Some p
      → AreLive next new all
      × (live_of new all next ≡ with_bytes (live_of maps all next) m key value)
  live-updated key value flags p is long u there =
      let old = map_at maps m in
      let w = u.updates.writes refl in
      let same_places = w.kept p there in
      let same : Some w.place ≡ Some p =
      sym w.there ∙ ap (λ (P : Places). get P key) same_places ∙ there in
      let equal : w.place ≡ p = cc in
      let written =
      w.written ∙ ap (λ (q : ℕ). with_block_row old.row.value_size old.block q value) equal in
      let found : at_key key (content_at (live_of maps all next) m) ≡ Some (stored old s p) =
      ap (at_key key) live_at ∙ at_key-live next old s mine key
      ∙ ap (option_map (stored old s)) there in
      let r = same_serials (HasSerials-same next old s mine x is u.row same_places) u.row
      (with_key key (record { serial = (stored old s p).serial; bytes = value })
      (live_content old s))
      (with_key-present next old s mine x key value p there u.row same_places long written) in (
        r.0,
        r.1 ∙ (λ i. record (live_of maps all next) {
          contents =
              slice_set (live_contents maps all) m
              (with_key key (record { serial = serial_given next (sym found i); bytes = value })
              (sym live_at i));
          next_serial = serial_after next (sym found i);
        }),
      )

  -- a new key's value is given the next serial
  pub live-added : (key value : List ℕ) (flags p : ℕ) → IsMap x
      → length value ≡ (map_at maps m).row.value_size
      → Updated key value flags 0 (map_at maps m) x → get (map_at maps m).places key ≡ None
      → get x.places key ≡ Some p
      → AreLive (suc next) new (slice_set all m (slice_set s p (Some next)))
      × (live_of new (slice_set all m (slice_set s p (Some next))) (suc next)
      ≡ with_bytes (live_of maps all next) m key value)
  live-added key value flags p is long u absent there =
      let old = map_at maps m in
      let w = u.updates.writes refl in
      let same : Some w.place ≡ Some p = sym w.there ∙ there in
      let equal : w.place ≡ p = cc in
      let written =
      w.written ∙ ap (λ (q : ℕ). with_block_row old.row.value_size old.block q value) equal in
      let taken = subst (λ (q : ℕ). TakesPlace old.places key q x.places) equal (w.taken absent) in
      let found : at_key key (content_at (live_of maps all next) m) ≡ None =
      ap (at_key key) live_at ∙ at_key-live next old s mine key
      ∙ ap (option_map (stored old s)) absent in
      let r = other_serials (suc next) (slice_set s p (Some next)) (omega arith)
      (HasSerials-added next old s mine x key p is u.row absent taken) u.row
      (with_key key (record { serial = next; bytes = value }) (live_content old s))
      (with_key-added next old s mine x key p is u.row absent taken value long written) in (
        r.0,
        r.1 ∙ (λ i. record (live_of maps all next) {
          contents =
              slice_set (live_contents maps all) m
              (with_key key (record { serial = serial_given next (sym found i); bytes = value })
              (sym live_at i));
          next_serial = serial_after next (sym found i);
        }),
      )

  -- a key removed
  pub live-removed : (key : List ℕ) (p : ℕ) → IsMap x → Deleted key 0 (map_at maps m) x
      → get (map_at maps m).places key ≡ Some p
      → AreLive next new (slice_set all m (slice_set s p None))
      × (live_of new (slice_set all m (slice_set s p None)) next
      ≡ without (live_of maps all next) m key)
  live-removed key p is d there =
      let old = map_at maps m in
      let gone = d.deletes.removes refl in
      let r = other_serials next (slice_set s p None) (omega arith)
      (HasSerials-removed next old s mine x key p is d.row there gone) d.row
      (without_key key (live_content old s))
      (without_key-removed next old s mine x key p is d.row there gone d.deletes.block) in (
        r.0,
        r.1 ∙ ap (λ (c : Content). with_content (live_of maps all next) m (without_key key c))
            (sym live_at),
      )

  -- a map that has not changed
  pub live-same : x.row ≡ (map_at maps m).row → x.places ≡ (map_at maps m).places
      → x.block ≡ (map_at maps m).block → new ≡ maps
  live-same same_row same_places same_block =
      let same : x ≡ map_at maps m = λ i.
      record { row = same_row i; places = same_places i; block = same_block i } in
      others ∙ ap (slice_set maps m) same ∙ set-get_or maps m _

  -- the answers of one map, by its content and by that with serials
  pub update_answer-live : (key : List ℕ) (flags : ℕ)
      → update_answer (map_at maps m).row (content_in (map_at maps m)) key flags
      ≡ update_answer (map_at maps m).row (content_at (live_of maps all next) m) key flags
  update_answer-live key flags =
      sym (answer-key_values key flags
      ∙ ap (λ (c : KeyValues). update_answer (map_at maps m).row c key flags) plain)
    where
      plain : key_values_of (content_at (live_of maps all next) m) ≡ content_in (map_at maps m)
      plain =
          ap key_values_of live_at
          ∙ key_values-stored (map_at maps m) s (entries (map_at maps m).places)

      answer-key_values : (key : List ℕ) (flags : ℕ)
          → update_answer (map_at maps m).row (content_at (live_of maps all next) m) key flags
          ≡ update_answer (map_at maps m).row
          (key_values_of (content_at (live_of maps all next) m)) key flags
      answer-key_values key flags =
          let c = content_at (live_of maps all next) m in
          let row = (map_at maps m).row in
          let has = has_key-key_values_of key c in
          let long : length (key_values_of c) ≡ length c =
          length-map {B = List ℕ × List ℕ} c (λ e. (e.0, e.1.bytes)) in
          λ i. update_answer_by row.kind (sym has i) (nat_le row.entries (sym long i)) flags

  pub delete_answer-live : (key : List ℕ)
      → delete_answer (map_at maps m).row (content_in (map_at maps m)) key
      ≡ delete_answer (map_at maps m).row (content_at (live_of maps all next) m) key
  delete_answer-live key =
      let c = content_at (live_of maps all next) m in
      let row = (map_at maps m).row in
      let plain : key_values_of c ≡ content_in (map_at maps m) =
      ap key_values_of live_at
      ∙ key_values-stored (map_at maps m) s (entries (map_at maps m).places) in
      ap (λ (es : KeyValues). delete_answer row es key) (sym plain)
      ∙ (λ i. delete_answer_by row.kind (has_key-key_values_of key c i))

-- ---- the serial that is given next

pub AreLive-more : (next more : ℕ) (maps : List MapState) (all : List Serials) → next ≤ more
    → AreLive next maps all → AreLive more maps all
AreLive-more next more maps all le h = record {
  long = h.long;
  each = λ m l. HasSerials-more next (map_at maps m) (serials_at all m) (h.each m l) more le;
}

-- ---- what is deleted was there

pub deleted_there : (m : MapState) (key : List ℕ) → 0 ≡ delete_answer m.row (content_in m) key
    → get m.places key ≢ None
deleted_there m key e none =
    by m.row.kind (e ∙ delete_answer-places m.row m.places m.block key
    ∙ ap (λ (o : Option ℕ). delete_answer_by m.row.kind (is_some o)) none)
  where
    by : (kind : MapType) → 0 ≡ delete_answer_by kind false → ⊥
    by Hash f = absurd (omega arith)
    by Array f = absurd (omega arith)

-- an update that is done gives its key a place
pub updated_there : (m new : MapState) (key value : List ℕ) (flags : ℕ)
    → Updated key value flags 0 m new → get new.places key ≢ None
updated_there m new key value flags u none =
    let f = sym (u.updates.writes refl).there ∙ none in absurd cc

pub place_if_new-Some : (before now : Option ℕ) (p : ℕ) → place_if_new before now ≡ Some p
    → (before ≡ None) × (now ≡ Some p)
place_if_new-Some None now p e = (refl, e)
place_if_new-Some (Some q) now p e = absurd cc

pub place_if_new-None : (before now : Option ℕ) → place_if_new before now ≡ None → now ≢ None
    → (p : ℕ) × (before ≡ Some p)
place_if_new-None None now e d = absurd (d e)
place_if_new-None (Some q) now e d = (q, refl)

pub not_zero : (n : ℕ) → n ≢ 0 → (n == 0) ≡ false
not_zero n d = grind (arith, nat_tests)
