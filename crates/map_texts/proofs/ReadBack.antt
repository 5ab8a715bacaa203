-- The text of what maps hold fills new maps of the same rows with the same: keys and values that
-- are put in one after another.
use Rattle.map_texts.proofs.Common.{◌≡◌, ◌≢◌, ℕ, zero, suc, ◌+◌, ◌<◌, ◌≤◌, ◌⊎◌, inl, inr, List, [], ◌∷◌, length, get_or, Option, Some, None, is_some, Bool, true, false, cond, refl, sym, ap, ◌∙◌, subst, arith, T, All, Contains, nat_le, nat_eq, filter_map, cons_option, range_with_len, length-map, get_or-map, take_all, All-nil, All-cons, All-head, All-tail, All-weaker, All-map, All-contains, MapDef, key_order, is_key, at_key, has_key, with_key, update_answer, update_answer_by, hash_update, array_update, AreBytes, FitsRow, IsKeyValue, KeysFit, keys_of, KeyValues, in_report_order, key_value_by_index, starting_key_values, IsRow, KeyFits}
use Rattle.std.specs.Option.{option_map}
use Rattle.std.specs.Ordering.{is_lt, is_eq}
use Rattle.std.specs.declared.cmp.Ordering.{Ordering}
use Rattle.std.specs.Cmp.Lexicographic.{nat_list_cmp_total}
use Rattle.std.specs.FinMap.{slice_cmp-IsAntisymmetric, nat_cmp-IsAntisymmetric}
use Rattle.std.specs.FinMap.Entries.{below_all, is_sorted, is_sorted-put, find-put, same_entries}
use Rattle.byteorder.specs.Endian.{little_bytes, little_number}
use Rattle.isa_model.specs.declared.map_defs.MapType.{MapType}
use Rattle.isa_model.specs.declared.map_defs.MapType.TheVariants.{Hash, Array}
use Rattle.isa_model.proofs.PutKeys.{Contains-has_key, has_key-after_with_key, length-with_key, is_key-itself}
use Rattle.isa_model.proofs.ContentLaws.{is_sorted-IsStrictlySortedBy}
use Rattle.isa_model.proofs.ValueLaws.{slice_index_fits}
use Rattle.isa_model.proofs.LittleEndianLaws.{little_bytes-little_from}
use Rattle.map_texts.proofs.Listing.{filtered}
use Rattle.isa_model.proofs.StartingContents.{FitsRow-starting_key_values}
use Rattle.isa_model.proofs.TestLaws.{both_parts, is_less, is_equal}

-- ---- keys that are equal

same_key : (q k : List ℕ) → is_key q k ≡ true → q ≡ k
same_key q k e =
    slice_cmp-IsAntisymmetric nat_cmp-IsAntisymmetric q k (is_equal (key_order q k) e)

below_none : (q : List ℕ) (es : KeyValues) → T (below_all key_order q es) → at_key q es ≡ None
below_none q [] h = refl
below_none q (e ∷ es) h =
    let (first, rest) = both_parts (is_lt (key_order q e.0)) (below_all key_order q es) h in
    ap (λ (r : Ordering). cond (is_eq r) (Some e.1) (at_key q es)) (is_less (key_order q e.0) first)
    ∙ below_none q es rest

-- in a content in order each key has its value
abbrev IsIn : KeyValues → (List ℕ × List ℕ) → Type 0
IsIn target e = at_key e.0 target ≡ Some e.1

each_own : (es : KeyValues) → T (is_sorted key_order es) → All (IsIn es) es
each_own [] h = All-nil (IsIn [])
each_own (e ∷ es) h =
    let (below, rest) = both_parts (below_all key_order e.0 es) (is_sorted key_order es) h in
    let none = below_none e.0 es below in
    All-cons (IsIn (e ∷ es)) e es
    (ap (λ (b : Bool). cond b (Some e.1) (at_key e.0 es)) (is_key-itself e.0))
    (All-weaker (IsIn es) (IsIn (e ∷ es))
    (λ f g. elim (is_key f.0 e.0) as (λ t. is_key f.0 e.0 ≡ t
    → cond t (Some e.1) (at_key f.0 es) ≡ Some f.1) [
      | true ↦ λ t.
          let same = ap (λ (k : List ℕ). at_key k es) (same_key f.0 e.0 t) in
          let no : Some f.1 ≡ None = sym g ∙ same ∙ none in absurd (cc)
      | false ↦ λ t. g
    ] refl) es (each_own es rest))

has_at : (k : List ℕ) (es : KeyValues) (j : ℕ) → j < length es
    → (d : List ℕ × List ℕ) → (get_or es j d).0 ≡ k → has_key k es ≡ true
has_at k [] j inside d e = absurd (omega arith)
has_at k (x ∷ es) zero inside d e =
    ap (λ (b : Bool). is_some (cond b (Some x.1) (at_key k es)))
    (subst (λ (q : List ℕ). is_key q x.0 ≡ true) e (is_key-itself x.0))
has_at k (x ∷ es) (suc j) inside d e =
    elim (is_key k x.0) as (λ t. is_some (cond t (Some x.1) (at_key k es)) ≡ true) [
      | true ↦ refl
      | false ↦ has_at k es j (omega arith) d e
    ]

has_key-Contains : (k : List ℕ) (es : KeyValues) → Contains (keys_of es) k → has_key k es ≡ true
has_key-Contains k es c =
    let (j, inside, is) = c in
    let size = length-map es (λ e. e.0) in
    has_at k es j (omega arith) (k, [])
    (sym (get_or-map (λ e. e.0) es j (k, []) k (omega arith)) ∙ is)

-- ---- all keys and values of a list are put into a content

abbrev pub put_all : KeyValues → KeyValues → KeyValues
put_all held [] = held
put_all held (e ∷ es) = put_all (with_key e.0 e.1 held) es

-- each of these updates has the answer 0
abbrev pub Answered : MapDef → KeyValues → KeyValues → Type 0
Answered row held [] = Unit {0}
Answered row held (e ∷ es) =
    (update_answer row held e.0 0 ≡ 0) × Answered row (with_key e.0 e.1 held) es

at_put_all : (q : List ℕ) (es held target : KeyValues) → All (IsIn target) es
    → (at_key q held ≡ at_key q target) ⊎ (has_key q es ≡ true)
    → at_key q (put_all held es) ≡ at_key q target
at_put_all q [] held target all (inl h) = h
at_put_all q [] held target all (inr h) = absurd (cc)
at_put_all q (e ∷ es) held target all h =
    let put = find-put key_order nat_list_cmp_total q e.0 e.1 held in
    let rest = All-tail (IsIn target) e es all in
    elim (is_key q e.0) as (λ t. is_key q e.0 ≡ t
    → at_key q (put_all (with_key e.0 e.1 held) es) ≡ at_key q target) [
      | true ↦ λ t.
          at_put_all q es (with_key e.0 e.1 held) target rest
          (inl (put ∙ ap (λ (b : Bool). cond b (Some e.1) (at_key q held)) t
          ∙ sym (All-head (IsIn target) e es all)
          ∙ ap (λ (k : List ℕ). at_key k target) (sym (same_key q e.0 t))))
      | false ↦ λ t.
          at_put_all q es (with_key e.0 e.1 held) target rest
          (elim h [
            | inl g ↦ inl (put ∙ ap (λ (b : Bool). cond b (Some e.1) (at_key q held)) t ∙ g)
            | inr g ↦ inr (sym (ap (λ (b : Bool). is_some (cond b (Some e.1) (at_key q es))) t) ∙ g)
          ])
    ] refl

sorted_put_all : (es held : KeyValues) → T (is_sorted key_order held)
    → T (is_sorted key_order (put_all held es))
sorted_put_all [] held h = h
sorted_put_all (e ∷ es) held h =
    sorted_put_all es (with_key e.0 e.1 held)
    (is_sorted-put key_order nat_list_cmp_total e.0 e.1 held h)

put_all_same : (es held target : KeyValues) → T (is_sorted key_order held)
    → T (is_sorted key_order target) → All (IsIn target) es
    → ((q : List ℕ) → (at_key q held ≡ at_key q target) ⊎ (has_key q es ≡ true))
    → put_all held es ≡ target
put_all_same es held target sorted ordered all each =
    same_entries key_order nat_list_cmp_total
    (λ x y e. slice_cmp-IsAntisymmetric nat_cmp-IsAntisymmetric x y e) (put_all held es) target
    (sorted_put_all es held sorted) ordered
    (λ q. at_put_all q es held target all (each q))

-- ---- a hash map

hash_open : (has : Bool) → hash_update has false 0 ≡ 0
hash_open true = refl
hash_open false = refl

hash_answered : (row : MapDef) (es held : KeyValues) → row.kind ≡ Hash
    → T (is_sorted key_order held) → length held + length es ≤ row.entries → Answered row held es
hash_answered row [] held kind sorted room = tt
hash_answered row (e ∷ es) held kind sorted room =
    let open_is : nat_le row.entries (length held) ≡ false = grind arith in
    let more = length-with_key e.0 e.1 held sorted in (
      ap (λ (k : MapType). update_answer_by k (has_key e.0 held)
          (nat_le row.entries (length held)) 0) kind
          ∙ ap (λ (f : Bool). hash_update (has_key e.0 held) f 0) open_is
          ∙ hash_open (has_key e.0 held),
      hash_answered row es (with_key e.0 e.1 held) kind
          (is_sorted-put key_order nat_list_cmp_total e.0 e.1 held sorted) (omega arith),
    )

hash_put : (es : KeyValues) → T (is_sorted key_order es) → put_all [] es ≡ es
hash_put es ordered =
    put_all_same es [] es tt ordered (each_own es ordered)
    (λ q. elim (at_key q es) as (λ o. at_key q es ≡ o
    → (None ≡ at_key q es) ⊎ (has_key q es ≡ true)) [
      | None ↦ λ e. inl (sym e)
      | Some v ↦ λ e. inr (ap is_some e)
    ] refl)

-- ---- an array

abbrev Has : KeyValues → (List ℕ × List ℕ) → Type 0
Has held e = has_key e.0 held ≡ true

array_answered : (row : MapDef) (es held : KeyValues) → row.kind ≡ Array → All (Has held) es
    → Answered row held es
array_answered row [] held kind all = tt
array_answered row (e ∷ es) held kind all =
    let first : has_key e.0 held ≡ true = All-head (Has held) e es all in (
      ap (λ (k : MapType). update_answer_by k (has_key e.0 held)
          (nat_le row.entries (length held)) 0) kind
          ∙ ap (λ (h : Bool). array_update h 0) first,
      array_answered row es (with_key e.0 e.1 held) kind
          (All-weaker (Has held) (Has (with_key e.0 e.1 held))
          (λ f h. has_key-after_with_key f.0 e.0 e.1 held h) es (All-tail (Has held) e es all)),
    )

-- what holds of each key with its value holds of one that is found
found_pair : (P : List ℕ × List ℕ → Type 0) (q v : List ℕ) (es : KeyValues) → All P es
    → at_key q es ≡ Some v → P (q, v)
found_pair P q v [] all h = absurd (cc)
found_pair P q v (e ∷ es) all h =
    elim (is_key q e.0) as (λ t. is_key q e.0 ≡ t → cond t (Some e.1) (at_key q es) ≡ Some v
    → P (q, v)) [
      | true ↦ λ t g.
          let key = same_key q e.0 t in
          let value : e.1 ≡ v = cc in
          subst P (λ i. (sym key i, value i)) (All-head P e es all)
      | false ↦ λ t g. found_pair P q v es (All-tail P e es all) g
    ] refl h

-- an index of a range is listed, if its key is there
in_range : (es : KeyValues) (i : ℕ) (v : List ℕ) → at_key (little_bytes 4 i) es ≡ Some v
    → (first count : ℕ) → first ≤ i → i < first + count
    → has_key (little_bytes 4 i) (filter_map (key_value_by_index es) (range_with_len first count))
    ≡ true
in_range es i v there first zero low high = absurd (omega arith)
in_range es i v there first (suc count) low high =
    let key = little_bytes 4 i in
    let rest = filter_map (key_value_by_index es) (range_with_len (first + 1) count) in
    elim (nat_eq first i) as (λ t. nat_eq first i ≡ t
    → has_key key (cons_option (key_value_by_index es first) rest) ≡ true) [
      | true ↦ λ t.
          let same : first ≡ i = grind arith in
          let here : key_value_by_index es first ≡ Some (key, v) =
          ap (key_value_by_index es) same ∙ ap (option_map (λ value. (key, value))) there in
          ap (λ (o : Option (List ℕ × List ℕ)). has_key key (cons_option o rest)) here
          ∙ ap (λ (b : Bool). is_some (cond b (Some v) (at_key key rest))) (is_key-itself key)
      | false ↦ λ t.
          let apart : first ≢ i = grind arith in
          let later = in_range es i v there (first + 1) count (omega arith) (omega arith) in
          elim (key_value_by_index es first) as (λ o. has_key key (cons_option o rest) ≡ true) [
            | None ↦ later
            | Some e ↦
                elim (is_key key e.0) as (λ b. is_some (cond b (Some e.1) (at_key key rest))
                ≡ true) [ true ↦ refl | false ↦ later ]
          ]
    ] refl

module _ (row : MapDef) (array : row.kind ≡ Array) (row_fits : IsRow row) where
  four : row.key_size ≡ 4
  four = subst (λ (k : MapType). KeyFits k row.key_size) array row_fits.key

  module _ (es : KeyValues) (fits : FitsRow row es) where
    keys_are : KeysFit Array row.entries (keys_of es)
    keys_are = subst (λ (k : MapType). KeysFit k row.entries (keys_of es)) array fits.keys

    module _ (q : List ℕ) (there : has_key q es ≡ true) where
      among : Contains (keys_of es) q
      among = Contains-has_key q es there

      below : little_number 4 q < row.entries
      below = All-contains (λ k. little_number 4 k < row.entries) (keys_of es) q keys_are.1 among

      read_back : little_bytes 4 (little_number 4 q) ≡ q
      read_back =
          let size =
          All-contains (λ k. length k ≡ row.key_size) (keys_of es) q
          (All-map (λ k. length k ≡ row.key_size) (λ e. e.0) es
          (All-weaker (IsKeyValue row) (λ e. length e.0 ≡ row.key_size) (λ e h. h.key_size) es
          fits.key_values)) among in
          let bytes =
          All-contains AreBytes (keys_of es) q
          (All-map AreBytes (λ e. e.0) es
          (All-weaker (IsKeyValue row) (λ e. AreBytes e.0) (λ e h. h.key) es
          fits.key_values)) among in
          let long : length q ≡ 4 = size ∙ four in
          little_bytes-little_from 4 0 q (slice_index_fits q bytes) (omega arith)
          ∙ take_all 4 q (omega arith)

  -- the contents of an array have the same keys
  exchange : (es fs : KeyValues) → FitsRow row es → FitsRow row fs → (q : List ℕ)
      → has_key q es ≡ true → has_key q fs ≡ true
  exchange es fs one other q there =
      has_key-Contains q fs
      (subst (Contains (keys_of fs)) (read_back es one q there)
      ((keys_are fs other).0 (little_number 4 q) (below es one q there)))

  module _ (es : KeyValues) (fits : FitsRow row es) where
    abbrev listed : KeyValues
    listed = in_report_order Array row.entries es

    abbrev start : KeyValues
    start = starting_key_values Array row

    start_fits : FitsRow row start
    start_fits =
        subst (λ (k : MapType). FitsRow row (starting_key_values k row)) array
        (FitsRow-starting_key_values row row_fits)

    listed_in : All (IsIn es) listed
    listed_in =
        (filtered (IsIn es) (key_value_by_index es) (λ i e is. by_find i e is)
        (range_with_len 0 row.entries)).0
      where
        by_find : (i : ℕ) (e : List ℕ × List ℕ) → key_value_by_index es i ≡ Some e → IsIn es e
        by_find i e is =
            elim (at_key (little_bytes 4 i) es) as (λ o. at_key (little_bytes 4 i) es ≡ o
            → option_map (λ value. (little_bytes 4 i, value)) o ≡ Some e → IsIn es e) [
              | None ↦ λ f g. absurd (cc)
              | Some v ↦ λ f g.
                  let same : (little_bytes 4 i, v) ≡ e = cc in subst (IsIn es) same f
            ] refl is

    start_has : All (Has start) listed
    start_has =
        All-weaker (IsIn es) (Has start)
        (λ e h. exchange es start fits start_fits e.0 (ap is_some h)) listed listed_in

    array_put : put_all start listed ≡ es
    array_put =
        put_all_same listed start es
        (is_sorted-IsStrictlySortedBy start start_fits.ordered)
        (is_sorted-IsStrictlySortedBy es fits.ordered) listed_in
        (λ q. elim (at_key q es) as (λ o. at_key q es ≡ o
        → (at_key q start ≡ at_key q es) ⊎ (has_key q listed ≡ true)) [
          | None ↦ λ e. inl (none_at q e ∙ sym e)
          | Some v ↦ λ e. inr (listed_at q v e)
        ] refl)
      where
        none_at : (q : List ℕ) → at_key q es ≡ None → at_key q start ≡ None
        none_at q e =
            elim (at_key q start) as (λ o. at_key q start ≡ o → o ≡ None) [
              | None ↦ λ f. refl
              | Some v ↦ λ f.
                  let there = exchange start es start_fits fits q (ap is_some f) in
                  let no : has_key q es ≡ false = ap is_some e in absurd (cc)
            ] refl

        listed_at : (q : List ℕ) (v : List ℕ) → at_key q es ≡ Some v → has_key q listed ≡ true
        listed_at q v e =
            let there = ap is_some e in
            let i = little_number 4 q in
            let back = read_back es fits q there in
            subst (λ (k : List ℕ). has_key k listed ≡ true) back
            (in_range es i v (ap (λ (k : List ℕ). at_key k es) back ∙ e) 0 row.entries
            (omega arith) (let l = below es fits q there in omega arith))

-- ---- a map

pub record PutsBack (row : MapDef) (es : KeyValues) : Type 0 where
  pub same : put_all (starting_key_values row.kind row)
      (in_report_order row.kind row.entries es) ≡ es
  pub answered : Answered row (starting_key_values row.kind row)
      (in_report_order row.kind row.entries es)
  pub each : All (IsKeyValue row) (in_report_order row.kind row.entries es)

put_by : (kind : MapType) (row : MapDef) (es : KeyValues) → row.kind ≡ kind → IsRow row
    → FitsRow row es
    → (put_all (starting_key_values kind row) (in_report_order kind row.entries es) ≡ es)
    × Answered row (starting_key_values kind row) (in_report_order kind row.entries es)
    × All (IsKeyValue row) (in_report_order kind row.entries es)
put_by Hash row es kind row_fits fits = (
  hash_put es (is_sorted-IsStrictlySortedBy es fits.ordered),
  hash_answered row es [] kind tt (let r = fits.room in omega arith),
  fits.key_values,
)
put_by Array row es kind row_fits fits = (
  array_put row kind row_fits es fits,
  array_answered row (in_report_order Array row.entries es) (starting_key_values Array row) kind
      (start_has row kind row_fits es fits),
  All-weaker (IsIn es) (IsKeyValue row)
      (λ e h. found_pair (IsKeyValue row) e.0 e.1 es fits.key_values h)
      (in_report_order Array row.entries es) (listed_in row kind row_fits es fits),
)

pub PutsBack-FitsRow : (row : MapDef) (es : KeyValues) → IsRow row → FitsRow row es
    → PutsBack row es
PutsBack-FitsRow row es row_fits fits =
    let (same, answered, each) = put_by row.kind row es refl row_fits fits in
    record { same = same; answered = answered; each = each }
