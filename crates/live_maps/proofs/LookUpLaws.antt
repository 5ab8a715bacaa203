-- Look-ups of values by a serial, and by a key.
use Rattle.live_maps.proofs.Common.{◌≡◌, ℕ, zero, suc, ◌<◌, ◌≤◌, List, [], ◌∷◌, length, Option, Some, None, Bool, true, false, cond, refl, sym, ap, ◌∙◌, inl, inr, arith, ◌≢◌, unwrap_or, position, option_map, nat_list_cmp_total, get, entries, len-empty, len-entries, entries-insert, put, cases_lt, nat_tests, get_or_past, Stored, Content, key_value_at, key_order, at_key, block_row, length-block_row, Places, changed, MapState, map_at, Array, Serials, serial_in, serials_at, has_serial, stored, live_content, value_bytes, AreLive, content_at}
use Rattle.std.proofs.lemmas.List.Quantifiers.{position-Some}
use Rattle.map_indexes.specs.ArrayPlaces.{array_places}
use Rattle.byteorder.specs.Endian.{little_bytes}
use Rattle.isa_model.specs.Machine.Steps.{one_serial}
use Rattle.live_maps.proofs.KeyValueLaws.{position-cons}
use Rattle.live_maps.proofs.ContentLaws.{live_contents-at, live_contents-past, live_of}
use Rattle.live_maps.proofs.SerialLaws.{index_of_serial-absent, value_bytes-present, place_inside, at_key-live}

-- ---- what is found by a serial, and by a key

module _ (next : ℕ) (maps : List MapState) (all : List Serials) (m : ℕ)
    (h : AreLive next maps all) where
  pub value-past : length maps ≤ m → (n : ℕ)
      → value_bytes (content_at (live_of maps all next) m) n ≡ None
  value-past past n =
      ap (λ (c : Content). value_bytes c n) (live_contents-past maps all m h.long past)

  module _ (inside : m < length maps) where
    abbrev old : MapState
    old = map_at maps m

    here : content_at (live_of maps all next) m ≡ live_content old (serials_at all m)
    here = live_contents-at maps all m h.long inside

    pub value-absent : (n : ℕ) → ((p : ℕ) → serial_in (serials_at all m) p ≢ Some n)
        → value_bytes (content_at (live_of maps all next) m) n ≡ None
    value-absent n none =
        ap (λ (c : Content). value_bytes c n) here
        ∙ ap (option_map (λ j. (key_value_at (live_content old (serials_at all m)) j).1.bytes))
        (index_of_serial-absent next old (serials_at all m) (h.each m inside) n none)

    pub value-present : (n p : ℕ) → serial_in (serials_at all m) p ≡ Some n
        → (p < old.row.entries)
        × (value_bytes (content_at (live_of maps all next) m) n
        ≡ Some (block_row old.row.value_size old.block p))
    value-present n p e = (
      place_inside next old (serials_at all m) (h.each m inside) n p e,
      ap (λ (c : Content). value_bytes c n) here
          ∙ value_bytes-present next old (serials_at all m) (h.each m inside) n p e,
    )

    pub lookup-absent : (key : List ℕ) → get old.places key ≡ None
        → option_map (λ v. v.serial) (at_key key (content_at (live_of maps all next) m)) ≡ None
    lookup-absent key e =
        ap (option_map (λ (v : Stored). v.serial))
        (ap (at_key key) here ∙ at_key-live next old (serials_at all m) (h.each m inside) key
        ∙ ap (option_map (stored old (serials_at all m))) e)

    pub lookup-present : (key : List ℕ) (p : ℕ) → get old.places key ≡ Some p
        → (p < length (serials_at all m))
        × (option_map (λ v. v.serial) (at_key key (content_at (live_of maps all next) m))
        ≡ serial_in (serials_at all m) p)
    lookup-present key p e =
        let mine = h.each m inside in
        let g = mine.given key p e in
        let within = mine.is_map.in_range key p e in
        let long = mine.long in (
          omega arith,
          ap (option_map (λ (v : Stored). v.serial))
              (ap (at_key key) here ∙ at_key-live next old (serials_at all m) mine key
              ∙ ap (option_map (stored old (serials_at all m))) e)
              ∙ ap (λ (o : Option ℕ). Some (unwrap_or o 0)) g.1 ∙ sym g.1,
        )

    -- the only value of an array of one key
    pub only-present : old.row.kind ≡ Array → old.row.entries ≡ 1
        → (0 < length (serials_at all m))
        × (unwrap_or (serial_in (serials_at all m) 0) 0
        ≡ one_serial (content_at (live_of maps all next) m))
    only-present array one =
        let mine = h.each m inside in
        let long = mine.long in
        let same : old.places ≡ array_places 1 =
        mine.is_map.array_places array ∙ ap array_places one in (
          omega arith,
          sym (ap one_serial
              (here ∙ ap (λ (P : Places). changed (stored old (serials_at all m)) (entries P))
              same)
              ∙ ap (λ (es : List (List ℕ × ℕ)). one_serial
              (changed (stored old (serials_at all m)) es)) (entries-array_one)),
        )
      where
        no_pairs : (es : List (List ℕ × ℕ)) → length es ≡ 0 → es ≡ []
        no_pairs [] e = refl
        no_pairs (x ∷ es) e = absurd (omega arith)

        entries-none : entries (array_places 0) ≡ []
        entries-none =
            no_pairs (entries (array_places 0))
            (sym (len-entries (array_places 0)) ∙ len-empty key_order ℕ)

        entries-array_one : entries (array_places 1) ≡ (little_bytes 4 0, 0) ∷ []
        entries-array_one =
            entries-insert nat_list_cmp_total (array_places 0) (little_bytes 4 0) 0
            ∙ ap (put key_order (little_bytes 4 0) 0) entries-none

-- ---- places found by their serials

pub has_serial-Some : (n : ℕ) (o : Option ℕ) → has_serial n o ≡ true → o ≡ Some n
has_serial-Some n None e = absurd cc
has_serial-Some n (Some k) e = let same : k ≡ n = grind (arith, nat_tests) in ap Some same

has_serial-same : (n : ℕ) → has_serial n (Some n) ≡ true
has_serial-same n = grind (arith, nat_tests)

pub position-serial : (n p : ℕ) (s : Serials) → position (has_serial n) s ≡ Some p
    → serial_in s p ≡ Some n
position-serial n p s e =
    has_serial-Some n (serial_in s p) (position-Some (has_serial n) s p None e).1

pub position-no_serial : (n : ℕ) (s : Serials) → position (has_serial n) s ≡ None → (p : ℕ)
    → serial_in s p ≢ Some n
position-no_serial n [] e p f = absurd cc
position-no_serial n (x ∷ s) e p f =
    by (has_serial n x) refl (sym (position-cons (has_serial n) x s) ∙ e)
    (position-no_serial n s) p f
  where
    rest_none : (o : Option ℕ) → option_map suc o ≡ None → o ≡ None
    rest_none None g = refl
    rest_none (Some k) g = absurd cc

    by : (b : Bool) → has_serial n x ≡ b
        → cond b (Some 0) (option_map suc (position (has_serial n) s)) ≡ None
        → (position (has_serial n) s ≡ None → (p : ℕ) → serial_in s p ≢ Some n) → (p : ℕ)
        → serial_in (x ∷ s) p ≡ Some n → ⊥
    by true h g rest p f = absurd cc
    by false h g rest zero f =
        let t = sym (has_serial-same n) ∙ sym (ap (has_serial n) f) ∙ h in absurd cc
    by false h g rest (suc p) f = rest (rest_none (position (has_serial n) s) g) p f

-- where one place has a serial, it is found there
pub position-once : (n p : ℕ) (s : Serials)
    → ((p q : ℕ) → serial_in s p ≡ Some n → serial_in s q ≡ Some n → p ≡ q) → serial_in s p ≡ Some n
    → position (has_serial n) s ≡ Some p
position-once n p s once here = by (position (has_serial n) s) refl
  where
    by : (o : Option ℕ) → position (has_serial n) s ≡ o → o ≡ Some p
    by None e = absurd (position-no_serial n s e p here)
    by (Some q) e = ap Some (once q p (position-serial n q s e) here)

-- no two places of a map have one serial
pub serials-once : (next : ℕ) (maps : List MapState) (all : List Serials) (m n : ℕ)
    → AreLive next maps all
    → (p q : ℕ) → serial_in (serials_at all m) p ≡ Some n → serial_in (serials_at all m) q ≡ Some n
    → p ≡ q
serials-once next maps all m n h p q a b = elim (cases_lt m (length maps)) [
  | inl inside ↦ (h.each m inside).once p q n a b
  | inr past ↦
      let long = h.long in
      let none : serials_at all m ≡ [] = get_or_past all m [] (omega arith) in
      let f : None ≡ Some n = ap (λ (s : Serials). serial_in s p) (sym none) ∙ a in
      absurd cc
]

-- ---- what the place of a serial shows

module _ (next : ℕ) (maps : List MapState) (all : List Serials) (m n : ℕ)
    (h : AreLive next maps all) where
  abbrev serial_place : Option ℕ
  serial_place = position (has_serial n) (serials_at all m)

  pub serial_place-none : serial_place ≡ None
      → value_bytes (content_at (live_of maps all next) m) n ≡ None
  serial_place-none e = elim (cases_lt m (length maps)) [
    | inl inside ↦
        value-absent next maps all m h inside n (position-no_serial n (serials_at all m) e)
    | inr past ↦ value-past next maps all m h past n
  ]

  pub serial_place-inside : (p : ℕ) → serial_place ≡ Some p → m < length maps
  serial_place-inside p e = elim (cases_lt m (length maps)) [
    | inl inside ↦ inside
    | inr past ↦
        let long = h.long in
        let none : serials_at all m ≡ [] = get_or_past all m [] (omega arith) in
        let f : Some p ≡ None = sym e ∙ ap (position (has_serial n)) none in
        absurd cc
  ]

  pub serial_place-some : (p : ℕ) (e : serial_place ≡ Some p)
      → (p < (map_at maps m).row.entries)
      × (value_bytes (content_at (live_of maps all next) m) n
      ≡ Some (block_row (map_at maps m).row.value_size (map_at maps m).block p))
      × (length (block_row (map_at maps m).row.value_size (map_at maps m).block p)
      ≡ (map_at maps m).row.value_size)
  serial_place-some p e =
      let inside = serial_place-inside p e in
      let there = position-serial n p (serials_at all m) e in
      let r = value-present next maps all m h inside n p there in
      let old = map_at maps m in (
        r.0,
        r.1,
        length-block_row old.row.value_size old.row.entries old.block p
            (h.each m inside).is_map.whole r.0 0 [] (omega arith),
      )
