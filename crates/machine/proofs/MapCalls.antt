-- Look-ups, updates and deletes: the words after them represent the states after them.
use Rattle.machine.proofs.Common.{◌≡◌, ℕ, zero, suc, ◌+◌, ◌*◌, ◌<◌, List, [], ◌∷◌, length, refl, sym, ap, subst, ◌∙◌, arith, add-zero, mul-le-mul, Bool, true, false, cond, Option, Some, None, slice_set, if◌then◌else◌, ◌==◌, ◌≢◌, nat_le, is_some, slice_index_or, nat_tests, option_map, get, remove, len, entries, get-insert, len-entries, offset_limit, Program, State, Content, Stored, content_of, is_key, at_key, has_key, with_key, without_key, update_answer_by, update_answer, delete_answer_by, delete_answer, serial_given, serial_after, put_bytes, remove_key, pointer_or_zero, IsState, row_end, Places, changed, find-changed, MapState, IsMap, map_at, content_in, Updated, Deleted, values_base, Words, Layout, IsLayout, Represents, by_serial, by_place, RepresentsMap, RepresentsMaps, Related}
use Rattle.std.specs.Cmp.Lexicographic.{nat_list_cmp_total}
use Rattle.isa_model.proofs.HelperLaws.{value_serials_given}
use Rattle.map_indexes.proofs.PlaceKeysLaws.{is_key-itself}
use Rattle.maps.specs.Changes.{WritesPair}
use Rattle.maps.proofs.UpdateLaws.{update_answer-places, delete_answer-places}
use Rattle.machine.proofs.Extending.{ExtendsLayout, with_value_start, put_at-there, ExtendsLayout-with_value_start, IsLayout-with_value_start, registers_old, frames_old, maps_old, content_old}
use Rattle.machine.proofs.Contents.{changed-with_key, changed-without_key, find-placed, placed-remove, placed-put}
use Rattle.machine.proofs.LiveValues.{contents_are, as_many, set_shown}

-- a content that a map represents is represented by another map of the same row
same_shown : (b : Layout) (m : ℕ) (content : Content) (old new : MapState) → IsMap new
    → new.row ≡ old.row
    → changed (by_serial b m) content
    ≡ changed (by_place old.row.value_size new.block) (entries new.places)
    → RepresentsMap b m content new
same_shown b m content old new is row e = record {
  is = is;
  same =
      subst (λ r. changed (by_serial b m) content
      ≡ changed (by_place r.value_size new.block) (entries new.places)) (sym row) e;
}

-- ---- look-ups and answers, on the content and on the places of one map

module _ (a : Layout) (m : ℕ) (content : Content) (state : MapState)
    (shown : RepresentsMap a m content state) where
  abbrev size : ℕ
  size = state.row.value_size

  -- the key's value, by serial and by place
  pub found : (key : List ℕ)
      → option_map (by_serial a m) (at_key key content)
      ≡ option_map (by_place size state.block) (get state.places key)
  found key =
      sym (find-changed (by_serial a m) key content) ∙ ap (at_key key) shown.same
      ∙ find-placed (by_place size state.block) state.places key

  -- where the map value at a place begins, or 0
  abbrev pub address : Option ℕ → ℕ
  address (Some place) = values_base m + place * size
  address None = 0

  found_shown : (o : Option Stored) (q : Option ℕ)
      → option_map (by_serial a m) o ≡ option_map (by_place size state.block) q
      → Represents a (pointer_or_zero m o) (address q)
  found_shown None None e = refl
  found_shown None (Some place) e = absurd (cc)
  found_shown (Some v) None e = absurd (cc)
  found_shown (Some v) (Some place) e =
      let same : by_serial a m v ≡ by_place size state.block place = cc in
      ap (λ n. values_base m + n) (ap (λ x. x.0) (sym same))
      ∙ sym (add-zero (values_base m + a.value_start m v.serial))

  pub lookup_shown : (key : List ℕ)
      → Represents a (pointer_or_zero m (at_key key content)) (address (get state.places key))
  lookup_shown key = found_shown (at_key key content) (get state.places key) (found key)

  is_some-option_map : {X Y : Type 0} (f : X → Y) (o : Option X)
      → is_some (option_map f o) ≡ is_some o
  is_some-option_map f None = refl
  is_some-option_map f (Some x) = refl

  has_same : (key : List ℕ) → has_key key content ≡ is_some (get state.places key)
  has_same key =
      sym (is_some-option_map (by_serial a m) (at_key key content)) ∙ ap is_some (found key)
      ∙ is_some-option_map (by_place size state.block) (get state.places key)

  long_same : length content ≡ len state.places
  long_same = as_many a m content state shown ∙ sym (len-entries state.places)

  -- the answers are the same
  pub update_same : (key : List ℕ) (flags : ℕ)
      → update_answer state.row (content_in state) key flags
      ≡ update_answer state.row content key flags
  update_same key flags =
      update_answer-places state.row state.places state.block key flags
      ∙ (λ i. update_answer_by state.row.kind (sym (has_same key) i)
      (nat_le state.row.entries (sym long_same i)) flags)

  pub delete_same : (key : List ℕ)
      → delete_answer state.row (content_in state) key ≡ delete_answer state.row content key
  delete_same key =
      delete_answer-places state.row state.places state.block key
      ∙ ap (delete_answer_by state.row.kind) (sym (has_same key))

  -- ---- a delete

  pub deleted_shown : (new : MapState) (key : List ℕ) → IsMap new → new.row ≡ state.row
      → new.places ≡ remove state.places key
      → new.block ≡ state.block → RepresentsMap a m (without_key key content) new
  deleted_shown new key is row places block =
      same_shown a m (without_key key content) state new is row
      (changed-without_key (by_serial a m) key content
      ∙ ap (without_key key) shown.same
      ∙ sym (placed-remove (by_place size state.block) state.places key)
      ∙ (λ i. changed (by_place size (sym block i)) (entries (sym places i))))

  pub stays_shown : (new : MapState) → IsMap new → new.row ≡ state.row → new.places ≡ state.places
      → new.block ≡ state.block
      → RepresentsMap a m content new
  stays_shown new is row places block =
      same_shown a m content state new is row
      (shown.same ∙ (λ i. changed (by_place size (sym block i)) (entries (sym places i))))

  -- ---- an update

  -- no place is far from the block's beginning
  place_low : (new : MapState) (place : ℕ) → IsMap new → new.row ≡ state.row
      → place < new.row.entries → place * size < offset_limit
  place_low new place is row inside =
      let end = row_end place new.row.entries new.row.value_size inside in
      let all = mul-le-mul is.is_row.few_entries is.is_row.short_value in
      subst (λ r. place * r.value_size < offset_limit) row (omega arith)

  module _ (new : MapState) (key value : List ℕ) (is : IsMap new) (row : new.row ≡ state.row)
      (long : length value ≡ size)
      (writes : WritesPair size key value state.places state.block new.places new.block) where
    abbrev place : ℕ
    place = writes.place

    inside : place < state.row.entries
    inside = subst (λ r. place < r.entries) row (is.in_range key place writes.there)

    put_shown : (b : Layout) (v : Stored) → v.bytes ≡ value
        → b.value_start m v.serial ≡ place * size
        → changed (by_serial b m) content ≡ changed (by_serial a m) content
        → ((q : List ℕ) → is_key q key ≡ false → get new.places q ≡ get state.places q)
        → ((q : List ℕ) → is_key q key ≡ false → get state.places q ≡ Some place → ⊥)
        → RepresentsMap b m (with_key key v content) new
    put_shown b v bytes begins old others apart =
        same_shown b m (with_key key v content) state new is row
        (changed-with_key (by_serial b m) key v content
        ∙ (λ i. with_key {X = ℕ × List ℕ} key (begins i, bytes i) ((old ∙ shown.same) i))
        ∙ sym (placed-put size state.row.entries state.places new.places state.block key value place
        long shown.is.whole inside writes.there others apart)
        ∙ ap (λ block. changed (by_place size block) (entries new.places)) (sym writes.written))

    -- the layout after it, by the value that the key had
    abbrev pub layout_after : ℕ → Option Stored → Layout
    layout_after next (Some old) = a
    layout_after next None = with_value_start a next (place * size)

    pub given_extends : (next : ℕ) (o : Option Stored) → ExtendsLayout a (layout_after next o) next
    given_extends next (Some old) =
        record { depth = λ n h. refl; value_start = λ k n h. refl; end = refl }
    given_extends next None = ExtendsLayout-with_value_start a next (place * size)

    pub given_good : (count next : ℕ) (o : Option Stored) → IsLayout a count
        → IsLayout (layout_after next o) count
    given_good count next (Some old) good = good
    given_good count next None good =
        IsLayout-with_value_start a count next (place * size)
        (place_low new place is row (is.in_range key place writes.there)) good

    pub given_end : (next : ℕ) (o : Option Stored) → (layout_after next o).end ≡ a.end
    given_end next (Some old) = refl
    given_end next None = refl

    -- a present key keeps its place, and its value the serial
    present : (old : Stored) → at_key key content ≡ Some old → (q : Option ℕ)
        → get state.places key ≡ q
        → option_map (by_serial a m) (Some old) ≡ option_map (by_place size state.block) q
        → RepresentsMap a m
        (with_key key (record { serial = old.serial; bytes = value }) content) new
    present old e None f g = absurd (cc)
    present old e (Some p) f g =
        let kept = writes.kept p f in
        let there : get state.places key ≡ Some place =
        ap (λ (P : Places). get P key) (sym kept) ∙ writes.there in
        let one : Some p ≡ Some place = sym f ∙ there in
        let at : p ≡ place = cc in
        let same : by_serial a m old ≡ by_place size state.block p = cc in
        put_shown a (record { serial = old.serial; bytes = value }) refl
        (ap (λ x. x.0) same ∙ ap (λ p. p * size) at) refl
        (λ q t. ap (λ (P : Places). get P q) kept)
        (λ q t h. let u : q ≡ key = shown.is.apart q key place h there in
        let v : is_key q key ≡ true = ap (λ k. is_key k key) u ∙ is_key-itself key in absurd (cc))

    -- the value of a new key gets the next serial, at the place that the key takes
    absent : (next : ℕ) → get state.places key ≡ None
        → changed (by_serial (with_value_start a next (place * size)) m) content
        ≡ changed (by_serial a m) content
        → RepresentsMap (with_value_start a next (place * size)) m
        (with_key key (record { serial = next; bytes = value }) content) new
    absent next none old =
        let takes = writes.taken none in
        put_shown (with_value_start a next (place * size))
        (record { serial = next; bytes = value }) refl
        (put_at-there next (place * size) (a.value_start m)) old
        (λ q t. ap (λ (P : Places). get P q) takes.added
        ∙ get-insert nat_list_cmp_total state.places key place q
        ∙ ap (λ (c : Bool). cond c (Some place) (get state.places q)) t)
        (λ q t h. takes.free q h)

    no_place : (q : Option ℕ) → None ≡ option_map (by_place size state.block) q → q ≡ None
    no_place None e = refl
    no_place (Some p) e = absurd (cc)

    pub updated_shown : (next : ℕ) (o : Option Stored) → at_key key content ≡ o
        → changed (by_serial (layout_after next o) m) content ≡ changed (by_serial a m) content
        → RepresentsMap (layout_after next o) m
        (with_key key (record { serial = serial_given next o; bytes = value }) content) new
    updated_shown next (Some old) e same =
        present old e (get state.places key) refl
        (ap (option_map (by_serial a m)) (sym e) ∙ found key)
    updated_shown next None e same =
        absent next (no_place (get state.places key)
        (ap (option_map (by_serial a m)) (sym e) ∙ found key)) same

-- ---- states and words

module _ (p : Program) (a : Layout) (s : State) (w : Words) (R : Related p a s w) (K : IsState p s)
    (m : ℕ) (has_row : m < length p.maps) where
  abbrev state : MapState
  state = map_at w.maps m

  abbrev content : Content
  content = content_of s m

  shown : RepresentsMap a m content state
  shown = R.maps.maps m has_row

  -- the words represent the machine state after one map changed, and perhaps one more serial was
  -- given
  map_related : (b : Layout) (next : ℕ) (content : Content) (new : MapState)
      → ExtendsLayout a b s.next_serial → IsLayout b (length p.maps)
      → new.row ≡ state.row → RepresentsMap b m content new
      → Related p b (record s { maps = slice_set s.maps m content; next_serial = next })
      (record w { maps = slice_set w.maps m new })
  map_related b next content new E good same h = record {
    slot = R.slot;
    layout = good;
    registers = registers_old p s K a b E w.regs R.registers;
    frames = frames_old p s K a b E w.frames w.saved R.frames;
    packet = R.packet;
    end = E.end ∙ R.end;
    interface = R.interface;
    queue = R.queue;
    maps =
        set_shown b p.maps s.maps w.maps m content new (contents_are p s K) same (λ _. h)
        (maps_old p s K a b E w.maps R.maps);
    clock_calls = R.clock_calls;
  }

  unchanged : ExtendsLayout a a s.next_serial
  unchanged = record { depth = λ n h. refl; value_start = λ k n h. refl; end = refl }

  -- a map that did not change, put where it was
  same_related : (new : MapState) → IsMap new → new.row ≡ state.row → new.places ≡ state.places
      → new.block ≡ state.block
      → Related p a s (record w { maps = slice_set w.maps m new })
  same_related new is same places block = record {
    slot = R.slot;
    layout = R.layout;
    registers = R.registers;
    frames = R.frames;
    packet = R.packet;
    end = R.end;
    interface = R.interface;
    queue = R.queue;
    maps =
        subst (λ contents. RepresentsMaps a p.maps contents (slice_set w.maps m new))
        (slice_set-same s.maps m)
        (set_shown a p.maps s.maps w.maps m content new (contents_are p s K) same
        (λ _. stays_shown a m content state shown new is same places block) R.maps);
    clock_calls = R.clock_calls;
  }
    where
      slice_set-same : (xs : List Content) (m : ℕ) → slice_set xs m (slice_index_or xs m []) ≡ xs
      slice_set-same [] m = refl
      slice_set-same (x ∷ xs) zero = refl
      slice_set-same (x ∷ xs) (suc m) = ap (λ l. x ∷ l) (slice_set-same xs m)

  is_zero : (n : ℕ) → (n == 0) ≡ true → n ≡ 0
  is_zero n e = grind (arith, nat_tests)

  not_zero : (n : ℕ) → (n == 0) ≡ false → n ≢ 0
  not_zero n e = grind (arith, nat_tests)

  -- an update: the value of a present key keeps its serial, that of a new one gets the next
  pub update_related : (key value : List ℕ) (flags answer : ℕ) (new : MapState) → IsMap new
      → length value ≡ state.row.value_size
      → Updated key value flags answer state new
      → (b : Layout)
      × Related p b
      (if update_answer state.row content key flags == 0 then put_bytes s m key value else s)
      (record w { maps = slice_set w.maps m new })
      × (answer ≡ update_answer state.row content key flags)
  update_related key value flags answer new is long u =
      let same : answer ≡ update_answer state.row content key flags =
      u.answer ∙ update_same a m content state shown key flags in
      by_answer (update_answer state.row content key flags == 0) refl same
    where
      written : answer ≡ 0 → (o : Option Stored) → at_key key content ≡ o
          → (b : Layout)
          × Related p b
          (record s {
            maps = slice_set s.maps m
                (with_key key (record { serial = serial_given s.next_serial o; bytes = value })
                content);
            next_serial = serial_after s.next_serial o;
          })
          (record w { maps = slice_set w.maps m new })
      written ok o e =
          let writes = u.updates.writes ok in
          let b : Layout = layout_after a m content state shown new key value is u.row long writes
          s.next_serial o in
          let E = given_extends a m content state shown new key value is u.row long writes
          s.next_serial o in (
            b,
            map_related b (serial_after s.next_serial o)
                (with_key key
                (record { serial = serial_given s.next_serial o; bytes = value }) content) new E
                (given_good a m content state shown new key value is u.row long writes
                (length p.maps) s.next_serial o R.layout) u.row
                (updated_shown a m content state shown new key value is u.row long writes
                s.next_serial o e
                (content_old a b (length p.maps) s.next_serial E m content
                (value_serials_given p s m K))),
          )

      by_answer : (b : Bool) → (update_answer state.row content key flags == 0) ≡ b
          → answer ≡ update_answer state.row content key flags
          → (l : Layout)
          × Related p l (if b then put_bytes s m key value else s)
          (record w { maps = slice_set w.maps m new })
          × (answer ≡ update_answer state.row content key flags)
      by_answer true e same =
          let (b, related) = written (same ∙ is_zero (update_answer state.row content key flags) e)
          (at_key key content) refl in
          (b, related, same)
      by_answer false e same =
          let stays = u.updates.stays
          (λ z. not_zero (update_answer state.row content key flags) e (sym same ∙ z)) in
          (a, same_related new is u.row stays.0 stays.1, same)

  -- a delete: where the dead map value began is still in the layout
  pub delete_related : (key : List ℕ) (answer : ℕ) (new : MapState) → IsMap new
      → Deleted key answer state new
      → Related p a (if delete_answer state.row content key == 0 then remove_key s m key else s)
      (record w { maps = slice_set w.maps m new })
      × (answer ≡ delete_answer state.row content key)
  delete_related key answer new is d =
      let same : answer ≡ delete_answer state.row content key =
      d.answer ∙ delete_same a m content state shown key in
      (by_answer (delete_answer state.row content key == 0) refl same, same)
    where
      by_answer : (b : Bool) → (delete_answer state.row content key == 0) ≡ b
          → answer ≡ delete_answer state.row content key
          → Related p a (if b then remove_key s m key else s)
          (record w { maps = slice_set w.maps m new })
      by_answer true e same =
          let ok : answer ≡ 0 = same ∙ is_zero (delete_answer state.row content key) e in
          map_related a s.next_serial (without_key key content) new unchanged R.layout d.row
          (deleted_shown a m content state shown new key is d.row
          (d.deletes.removes ok) d.deletes.block)
      by_answer false e same =
          same_related new is d.row
          (d.deletes.stays
          (λ z. not_zero (delete_answer state.row content key) e (sym same ∙ z)))
          d.deletes.block
