-- One map whose values have serials: what each change makes of its content, and that the serials
-- stay apart.
use Rattle.live_maps.proofs.Common.{◌≡◌, ℕ, suc, ◌+◌, ◌<◌, ◌≤◌, List, [], length, Option, Some, None, Bool, true, false, cond, refl, sym, ap, ◌∙◌, arith, ◌≢◌, ◌==◌, All, slice_set, slice_index_or, unwrap_or, splice, option_map, nat_list_cmp_total, eqb, eqb-true, eqb-false, get_or-set_same, get_or-set_other, length-set, slice_get-get_or, Stored, index_of_serial, put_value, is_key, at_key, with_key, without_key, block_row, with_block_row, block_row-written, block_row-other, length-changed_row, Places, TakesPlace, is_key-equal, is_key-itself, changed, find-changed, get-taken, get_at, MapState, IsMap, WritesValue, Serials, serial_in, stored, live_content, value_bytes, HasSerials}
use Rattle.std.specs.FinMap.{get, remove, entries, get-entries, get-insert, get-remove}
use Rattle.live_maps.proofs.PlaceLists.{equal_to, not_equal}
use Rattle.live_maps.proofs.KeyValueLaws.{keys-apart, index_of_serial-none, value_bytes-found, put_value-changed, changed-put, changed-removed}

module _ (next : ℕ) (m : MapState) (s : Serials) (h : HasSerials next m s) where
  serial_of : (p n : ℕ) → serial_in s p ≡ Some n → (stored m s p).serial ≡ n
  serial_of p n e = ap (λ (o : Option ℕ). unwrap_or o 0) e

  -- each key's place
  at_place : (k d : ℕ) (l : k < length (entries m.places))
      → get m.places (slice_index_or (entries m.places) k ([], d)).0
      ≡ Some (slice_index_or (entries m.places) k ([], d)).1
  at_place k d l =
      get_at m.places k (slice_index_or (entries m.places) k ([], d))
      (slice_get-get_or (entries m.places) k ([], d) l)

  -- each key's place has a serial
  keyed : (e : List ℕ × ℕ) → get m.places e.0 ≡ Some e.1
      → serial_in s e.1 ≡ Some (stored m s e.1).serial
  keyed e there = let g = h.given e.0 e.1 there in g.1 ∙ ap Some (sym (serial_of e.1 g.0 g.1))

  each : (P : List ℕ × ℕ → Type 0) → ((e : List ℕ × ℕ) → get m.places e.0 ≡ Some e.1 → P e)
      → All P (entries m.places)
  each P all k d l =
      all (slice_index_or (entries m.places) k d)
      (get_at m.places k (slice_index_or (entries m.places) k d)
      (slice_get-get_or (entries m.places) k d l))

  -- a serial that no place has is not found
  pub index_of_serial-absent : (n : ℕ) → ((p : ℕ) → serial_in s p ≢ Some n)
      → index_of_serial (live_content m s) n ≡ None
  index_of_serial-absent n none =
      index_of_serial-none (stored m s) n (entries m.places)
      (each (λ e. ((stored m s e.1).serial == n) ≡ false)
      (λ e there. not_equal (stored m s e.1).serial n
      (λ same. none e.1 (keyed e there ∙ ap Some same))))

  module _ (n p : ℕ) (here : serial_in s p ≡ Some n) where
    hit : ((stored m s p).serial == n) ≡ true
    hit = equal_to (stored m s p).serial n (serial_of p n here)

    only : All (λ e. ((stored m s e.1).serial == n) ≡ true → e.1 ≡ p) (entries m.places)
    only = each (λ e. ((stored m s e.1).serial == n) ≡ true → e.1 ≡ p)
        (λ e there same. h.once e.1 p n
        (keyed e there ∙ ap Some (eqb-true (stored m s e.1).serial n same)) here)

    -- one that a place has is found there
    pub value_bytes-present : value_bytes (live_content m s) n
        ≡ Some (block_row m.row.value_size m.block p)
    value_bytes-present =
        let own = h.owned p n here in
        value_bytes-found (stored m s) n p hit own.1 (entries m.places) only
        (sym (get-entries m.places own.1) ∙ own.2)

    pub place_inside : p < m.row.entries
    place_inside = let own = h.owned p n here in h.is_map.in_range own.1 p own.2

    -- bytes written at that place
    pub put_value-written : (new : MapState) (i : ℕ) (bytes : List ℕ)
        → i + length bytes ≤ m.row.value_size → WritesValue p i bytes m new
        → live_content new s
        ≡ put_value (live_content m s) (index_of_serial (live_content m s) n) i bytes
    put_value-written new i bytes fits w =
        let size : ℕ = m.row.value_size in
        let whole = h.is_map.whole in
        let row = splice (block_row size m.block p) i (i + length bytes) bytes in
        let long =
        length-changed_row size m.row.entries m.block p whole place_inside i bytes fits in
        let same_size : new.row.value_size ≡ size = ap (λ r. r.value_size) w.row in
        let rows : (q : ℕ)
        → block_row new.row.value_size new.block q
        ≡ block_row size (with_block_row size m.block p row) q =
        λ q. (λ j. block_row (same_size j) (w.block j) q) in
        let at_p =
        rows p ∙ block_row-written size m.block p row m.row.entries long whole place_inside in
        sym (put_value-changed (stored m s) n p hit (stored new s) i bytes
        (λ j. record { serial = unwrap_or (serial_in s p) 0; bytes = at_p j })
        (λ q other. λ j. record {
          serial = unwrap_or (serial_in s q) 0;
          bytes =
              (rows q ∙ block_row-other size m.block p row m.row.entries long whole place_inside q
              other) j;
        })
        (entries m.places) only (keys-apart m.places h.is_map.apart)
        ∙ ap (λ (P : Places). changed (stored new s) (entries P)) (sym w.places))

  -- what a key has
  pub at_key-live : (key : List ℕ)
      → at_key key (live_content m s) ≡ option_map (stored m s) (get m.places key)
  at_key-live key =
      find-changed (stored m s) key (entries m.places)
      ∙ ap (option_map (stored m s)) (sym (get-entries m.places key))

  pub HasSerials-more : (more : ℕ) → next ≤ more → HasSerials more m s
  HasSerials-more more le = record {
    is_map = h.is_map;
    long = h.long;
    given = h.given;
    owned = λ p n e. let own = h.owned p n e in let less = own.0 in (omega arith, own.1, own.2);
    once = h.once;
  }

  -- a map with the same row and places
  pub HasSerials-same : (new : MapState) → IsMap new → new.row ≡ m.row → new.places ≡ m.places
      → HasSerials next new s
  HasSerials-same new is same_row same_places = record {
    is_map = is;
    long = h.long ∙ ap (λ r. r.entries) (sym same_row);
    given = λ key p e. h.given key p (ap (λ (P : Places). get P key) (sym same_places) ∙ e);
    owned =
        λ p n e. let own =
        h.owned p n e in (own.0, own.1, ap (λ (P : Places). get P own.1) same_places ∙ own.2);
    once = h.once;
  }

  set_here : (p : ℕ) (v : Option ℕ) → p < length s → serial_in (slice_set s p v) p ≡ v
  set_here p v inside = get_or-set_same s p v None inside

  set_else : (p q : ℕ) (v : Option ℕ) → q ≢ p → serial_in (slice_set s p v) q ≡ serial_in s q
  set_else p q v other = get_or-set_other s p q v None other

  either : (p q : ℕ) (A : Type 0) → (q ≡ p → A) → (q ≢ p → A) → A
  either p q A same other = by (eqb q p) refl
    where
      by : (b : Bool) → eqb q p ≡ b → A
      by true e = same (eqb-true q p e)
      by false e = other (eqb-false q p e)

  -- a new key's value is given the next serial
  module _ (new : MapState) (key : List ℕ) (p : ℕ) (is : IsMap new) (same_row : new.row ≡ m.row)
      (absent : get m.places key ≡ None)
      (taken : TakesPlace m.places key p new.places) where
    there : get new.places key ≡ Some p
    there = get-taken m.places new.places key p taken

    inside : p < length s
    inside =
        let within = is.in_range key p there in
        let same : new.row.entries ≡ m.row.entries = ap (λ r. r.entries) same_row in
        let long = h.long in
        omega arith

    got : (k : List ℕ) → get new.places k ≡ cond (is_key k key) (Some p) (get m.places k)
    got k =
        ap (λ (P : Places). get P k) taken.added ∙ get-insert nat_list_cmp_total m.places key p k

    abbrev after : Serials
    after = slice_set s p (Some next)

    not_taken : (k : List ℕ) (q : ℕ) → get m.places k ≡ Some q → q ≢ p
    not_taken k q e same = taken.free k (e ∙ ap Some same)

    still : (k : List ℕ) (q : ℕ) → get m.places k ≡ Some q → get new.places k ≡ Some q
    still k q e = got k ∙ by (is_key k key) refl
      where
        by : (b : Bool) → is_key k key ≡ b → cond b (Some p) (get m.places k) ≡ Some q
        by true t =
            let f = sym absent ∙ ap (get m.places) (sym (is_key-equal k key t)) ∙ e in absurd cc
        by false t = e

    pub HasSerials-added : HasSerials (suc next) new after
    HasSerials-added = record {
      is_map = is;
      long = length-set s p (Some next) ∙ h.long ∙ ap (λ r. r.entries) (sym same_row);
      given = λ k q e. either p q ((n : ℕ) × (serial_in after q ≡ Some n))
          (λ same. (next, ap (serial_in after) same ∙ set_here p (Some next) inside))
          (λ other.
          let old : get m.places k ≡ Some q = older k q other (sym (got k) ∙ e) in
          let g = h.given k q old in
          (g.0, set_else p q (Some next) other ∙ g.1));
      owned = λ q n e. either p q ((n < suc next) × (k : List ℕ) × (get new.places k ≡ Some q))
          (λ same.
          let given : Some next ≡ Some n =
          sym (set_here p (Some next) inside) ∙ ap (serial_in after) (sym same) ∙ e in
          let equal : next ≡ n = cc in
          (omega arith, key, there ∙ ap Some (sym same)))
          (λ other.
          let own = h.owned q n (sym (set_else p q (Some next) other) ∙ e) in
          let less = own.0 in
          (omega arith, own.1, still own.1 q own.2));
      once = λ q r n e f. either p q (q ≡ r)
          (λ same. either p r (q ≡ r) (λ also. same ∙ sym also)
          (λ other. fresh q r n same other e f))
          (λ other. either p r (q ≡ r) (λ also. sym (fresh r q n also other f e))
          (λ neither. h.once q r n (sym (set_else p q (Some next) other) ∙ e)
          (sym (set_else p r (Some next) neither) ∙ f)));
    }
      where
        older : (k : List ℕ) (q : ℕ) → q ≢ p
            → cond (is_key k key) (Some p) (get m.places k) ≡ Some q → get m.places k ≡ Some q
        older k q other e =
            elim (is_key k key) as (λ b. cond b (Some p) (get m.places k) ≡ Some q
            → get m.places k ≡ Some q) [
              | true ↦ λ f. let same : q ≡ p = cc in absurd (other same)
              | false ↦ λ f. f
            ] e

        fresh : (q r n : ℕ) → q ≡ p → r ≢ p → serial_in after q ≡ Some n
            → serial_in after r ≡ Some n → q ≡ r
        fresh q r n same other e f =
            let given : Some next ≡ Some n =
            sym (set_here p (Some next) inside) ∙ ap (serial_in after) (sym same) ∙ e in
            let equal : next ≡ n = cc in
            let own = h.owned r n (sym (set_else p r (Some next) other) ∙ f) in
            let less = own.0 in
            absurd (omega arith)

    -- and its content is that with the key
    pub with_key-added : (value : List ℕ) → length value ≡ m.row.value_size
        → new.block ≡ with_block_row m.row.value_size m.block p value
        → live_content new after
        ≡ with_key key (record { serial = next; bytes = value }) (live_content m s)
    with_key-added value long written =
        let size : ℕ = m.row.value_size in
        let whole = h.is_map.whole in
        let h_long = h.long in
        let within : p < m.row.entries = let i = inside in omega arith in
        let same_size : new.row.value_size ≡ size = ap (λ r. r.value_size) same_row in
        let rows : (q : ℕ)
        → block_row new.row.value_size new.block q
        ≡ block_row size (with_block_row size m.block p value) q =
        λ q. (λ j. block_row (same_size j) (written j) q) in
        let serial = ap (λ (o : Option ℕ). unwrap_or o 0) (set_here p (Some next) inside) in
        let bytes =
        rows p ∙ block_row-written size m.block p value m.row.entries long whole within in
        let here : stored new after p
        ≡ record { serial = next; bytes = value } = λ j.
        record { serial = serial j; bytes = bytes j } in
        changed-put (stored m s) (stored new after) m.places key
        (λ k q other e.
        let not_p = not_taken k q e in
        let same = ap (λ (o : Option ℕ). unwrap_or o 0) (set_else p q (Some next) not_p) in
        let old =
        rows q ∙ block_row-other size m.block p value m.row.entries long whole within q not_p in
        λ j. record { serial = same j; bytes = old j })
        new.places p there
        (λ k other. got k ∙ ap (λ (b : Bool). cond b (Some p) (get m.places k)) other)
        ∙ ap (λ (v : Stored). with_key key v (live_content m s)) here

  -- a present key's value keeps its serial
  pub with_key-present : (new : MapState) (key value : List ℕ) (p : ℕ) → get m.places key ≡ Some p
      → new.row ≡ m.row → new.places ≡ m.places
      → length value ≡ m.row.value_size
      → new.block ≡ with_block_row m.row.value_size m.block p value
      → live_content new s
      ≡ with_key key (record { serial = (stored m s p).serial; bytes = value }) (live_content m s)
  with_key-present new key value p there same_row same_places long written =
      let size : ℕ = m.row.value_size in
      let whole = h.is_map.whole in
      let within = h.is_map.in_range key p there in
      let same_size : new.row.value_size ≡ size = ap (λ r. r.value_size) same_row in
      let rows : (q : ℕ)
      → block_row new.row.value_size new.block q
      ≡ block_row size (with_block_row size m.block p value) q =
      λ q. (λ j. block_row (same_size j) (written j) q) in
      let bytes = rows p ∙ block_row-written size m.block p value m.row.entries long whole within in
      let here : stored new s p
      ≡ record { serial = (stored m s p).serial; bytes = value } = λ j.
      record { serial = (stored m s p).serial; bytes = bytes j } in
      changed-put (stored m s) (stored new s) m.places key
      (λ k q other e.
      let not_p : q ≢ p = λ same.
      let equal : k ≡ key = h.is_map.apart k key p (e ∙ ap Some same) there in
      let f = sym other ∙ ap (λ (x : List ℕ). is_key x key) equal ∙ is_key-itself key in
      absurd cc in
      let old =
      rows q ∙ block_row-other size m.block p value m.row.entries long whole within q not_p in
      λ j. record { serial = (stored m s q).serial; bytes = old j })
      new.places p (ap (λ (P : Places). get P key) same_places ∙ there)
      (λ k other. ap (λ (P : Places). get P k) same_places)
      ∙ ap (λ (v : Stored). with_key key v (live_content m s)) here

  -- a key's value loses its serial with the key
  module _ (new : MapState) (key : List ℕ) (p : ℕ) (is : IsMap new) (same_row : new.row ≡ m.row)
      (present : get m.places key ≡ Some p)
      (gone : new.places ≡ remove m.places key) where
    abbrev left : Serials
    left = slice_set s p None

    within_left : p < length s
    within_left =
        let within = h.is_map.in_range key p present in
        let long = h.long in
        omega arith

    left_at : (k : List ℕ) → get new.places k ≡ cond (is_key k key) None (get m.places k)
    left_at k = ap (λ (P : Places). get P k) gone ∙ get-remove nat_list_cmp_total m.places key k

    other_place : (k : List ℕ) (q : ℕ) → is_key k key ≡ false → get m.places k ≡ Some q → q ≢ p
    other_place k q other e same =
        let equal : k ≡ key = h.is_map.apart k key p (e ∙ ap Some same) present in
        let f = sym other ∙ ap (λ (x : List ℕ). is_key x key) equal ∙ is_key-itself key in
        absurd cc

    older_key : (k : List ℕ) (q : ℕ) → get new.places k ≡ Some q
        → (is_key k key ≡ false) × (get m.places k ≡ Some q)
    older_key k q e = by (is_key k key) refl (sym (left_at k) ∙ e)
      where
        by : (b : Bool) → is_key k key ≡ b → cond b None (get m.places k) ≡ Some q
            → (is_key k key ≡ false) × (get m.places k ≡ Some q)
        by true t f = absurd cc
        by false t f = (t, f)

    old_serial : (q n : ℕ) → serial_in left q ≡ Some n → (q ≢ p) × (serial_in s q ≡ Some n)
    old_serial q n e = either p q ((q ≢ p) × (serial_in s q ≡ Some n))
        (λ same. let f = sym (set_here p None within_left) ∙ ap (serial_in left) (sym same)
        ∙ e in absurd cc)
        (λ other. (other, sym (set_else p q None other) ∙ e))

    pub HasSerials-removed : HasSerials next new left
    HasSerials-removed = record {
      is_map = is;
      long = length-set s p None ∙ h.long ∙ ap (λ r. r.entries) (sym same_row);
      given = λ k q e.
          let old = older_key k q e in
          let g = h.given k q old.1 in
          (g.0, set_else p q None (other_place k q old.0 old.1) ∙ g.1);
      owned = λ q n e.
          let old = old_serial q n e in
          let own = h.owned q n old.1 in
          (own.0, own.1, left_at own.1 ∙ stays own.1 q old.0 own.2);
      once = λ q r n e f. h.once q r n (old_serial q n e).1 (old_serial r n f).1;
    }
      where
        stays : (k : List ℕ) (q : ℕ) → q ≢ p → get m.places k ≡ Some q
            → cond (is_key k key) None (get m.places k) ≡ Some q
        stays k q other e = by (is_key k key) refl
          where
            by : (b : Bool) → is_key k key ≡ b → cond b None (get m.places k) ≡ Some q
            by true t =
                let f : Some q ≡ Some p =
                sym e ∙ ap (get m.places) (is_key-equal k key t) ∙ present in
                let same : q ≡ p = cc in
                absurd (other same)
            by false t = e

    -- and its content is that without the key
    pub without_key-removed : new.block ≡ m.block
        → live_content new left ≡ without_key key (live_content m s)
    without_key-removed block =
        let same_size : new.row.value_size ≡ m.row.value_size = ap (λ r. r.value_size) same_row in
        ap (λ (P : Places). changed (stored new left) (entries P)) gone
        ∙ changed-removed (stored m s) (stored new left) m.places key
        (λ k q other e.
        let serial =
        ap (λ (o : Option ℕ). unwrap_or o 0) (set_else p q None (other_place k q other e)) in
        λ j. record { serial = serial j; bytes = block_row (same_size j) (block j) q })
