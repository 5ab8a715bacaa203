-- Laws of a map's content with one key put or removed: it still fits its row, and which serials it
-- has. Which answers change it, and that answers have 64 bits.
use Rattle.isa_model.proofs.Common.{◌≡◌, ℕ, suc, ◌+◌, ◌^◌, ◌<◌, ◌≤◌, ◌==◌, ◌⊎◌, Bool, true, false, not, ◌&&◌, cond, nat_lt, nat_le, if◌then◌else◌, List, [], ◌∷◌, map, length, filter, is_some, All, Option, Some, None, T, sym, ap, ◌∙◌, subst, arith, inl, inr, refl, AllByRecursion, is_lt, is_eq, Less, Equal, Greater, nat_list_cmp_total, by_order, below_all, is_sorted, is_sorted-put, is_sorted-where_key, length-put, length_without, nat_tests, length-map, All-head, All-tail, All-filter, MapType, Hash, Array, MapDef, Stored, Content, KeyValues, key_values_of, key_order, is_key, at_key, has_key, with_key, without_key, enoent, e2big, eexist, einval, noexist, exist, hash_update, array_update, update_answer_by, delete_answer_by, update_answer, delete_answer, IsKeyValue, keys_of, KeysFit, FitsRow, value_serials}
use Rattle.std.specs.List.Sorted.{IsStrictlySortedBy}
use Rattle.isa_model.proofs.TestLaws.{both, less_is}
use Rattle.isa_model.proofs.PutKeys.{All-with_key, IsStrictlySortedBy-is_sorted}
use Rattle.isa_model.proofs.SerialLaws.{HasOneMore, HasOneMore-before}

-- ---- keys in order

abbrev keys_in : {X : Type 0} → List (List ℕ × X) → List (List ℕ)
keys_in es = map (λ e. e.0) es

below_all-keys : {X : Type 0} (k : List ℕ) (es : List (List ℕ × X))
    → AllByRecursion (λ y. key_order k y ≡ Less) (keys_in es)
    → T (below_all key_order k es)
below_all-keys k [] h = tt
below_all-keys k (e ∷ es) h =
    both (is_lt (key_order k e.0)) (below_all key_order k es)
    (less_is (key_order k e.0) h.0) (below_all-keys k es h.1)

-- keys in order rise
pub is_sorted-IsStrictlySortedBy : {X : Type 0} (es : List (List ℕ × X))
    → IsStrictlySortedBy key_order (keys_in es)
    → T (is_sorted key_order es)
unfolding IsStrictlySortedBy
is_sorted-IsStrictlySortedBy [] h = tt
is_sorted-IsStrictlySortedBy (e ∷ es) h =
    both (below_all key_order e.0 es) (is_sorted key_order es) (below_all-keys e.0 es h.0)
    (is_sorted-IsStrictlySortedBy es h.1)

-- ---- map values without their serials

abbrev key_value_of : List ℕ × Stored → List ℕ × List ℕ
key_value_of e = (e.0, e.1.bytes)

pub key_values_of-with_key : (key : List ℕ) (new : Stored) (content : Content)
    → key_values_of (with_key key new content) ≡ with_key key new.bytes (key_values_of content)
key_values_of-with_key key new [] = refl
key_values_of-with_key key new (e ∷ es) =
    elim (key_order key e.0) as (λ o.
    map key_value_of (by_order o ((key, new) ∷ e ∷ es) ((e.0, new) ∷ es) (e ∷ with_key key new es))
    ≡ by_order o ((key, new.bytes) ∷ key_value_of e ∷ key_values_of es)
    ((e.0, new.bytes) ∷ key_values_of es)
    (key_value_of e ∷ with_key key new.bytes (key_values_of es))) [
      | Less ↦ refl
      | Equal ↦ refl
      | Greater ↦ ap (λ l. key_value_of e ∷ l) (key_values_of-with_key key new es)
    ]

pub key_values_of-without_key : (key : List ℕ) (content : Content)
    → key_values_of (without_key key content) ≡ without_key key (key_values_of content)
key_values_of-without_key key [] = refl
key_values_of-without_key key (e ∷ es) =
    elim (is_key key e.0) as (λ b. map key_value_of
    (cond (not b) (e ∷ without_key key es) (without_key key es))
    ≡ cond (not b) (key_value_of e ∷ without_key key (key_values_of es))
    (without_key key (key_values_of es))) [
      | true ↦ key_values_of-without_key key es
      | false ↦ ap (λ l. key_value_of e ∷ l) (key_values_of-without_key key es)
    ]

-- the same keys are there with serials and without them
pub has_key-key_values_of : (key : List ℕ) (content : Content)
    → has_key key (key_values_of content) ≡ has_key key content
has_key-key_values_of key [] = refl
has_key-key_values_of key (e ∷ es) =
    elim (is_key key e.0) as (λ b. is_some (cond b (Some e.1.bytes) (at_key key (key_values_of es)))
    ≡ is_some (cond b (Some e.1) (at_key key es))) [
      | true ↦ refl
      | false ↦ has_key-key_values_of key es
    ]

-- ---- a key put

-- a content that does not grow when a value is put has the same keys
keys-with_key : {X : Type 0} (key : List ℕ) (x : X) (es : List (List ℕ × X))
    → length (with_key key x es) ≡ length es → keys_in (with_key key x es) ≡ keys_in es
keys-with_key key x [] h = absurd (omega arith)
keys-with_key key x (e ∷ es) h =
    elim (key_order key e.0) as (λ o.
    length (by_order o ((key, x) ∷ e ∷ es) ((e.0, x) ∷ es) (e ∷ with_key key x es))
    ≡ suc (length es)
    → keys_in (by_order o ((key, x) ∷ e ∷ es) ((e.0, x) ∷ es) (e ∷ with_key key x es))
    ≡ e.0 ∷ keys_in es) [
      | Less ↦ λ h. absurd (omega arith)
      | Equal ↦ λ h. refl
      | Greater ↦ λ h. ap (λ l. e.0 ∷ l) (keys-with_key key x es (omega arith))
    ] h

-- a content has room for a key that is there; that of a hash map that is not full, for any key
abbrev pub HasRoomForKey : MapDef → List ℕ → KeyValues → Type 0
HasRoomForKey row key es = (has_key key es ≡ true) ⊎ ((row.kind ≡ Hash) × (length es < row.entries))

pub FitsRow-with_key : (row : MapDef) (key bytes : List ℕ) (es : KeyValues)
    → IsKeyValue row (key, bytes)
    → HasRoomForKey row key es → FitsRow row es → FitsRow row (with_key key bytes es)
FitsRow-with_key row key bytes es new has h = at (has_key key es) refl has
  where
    sorted : T (is_sorted key_order es)
    sorted = is_sorted-IsStrictlySortedBy es h.ordered

    long : (b : Bool) → has_key key es ≡ b
        → length (with_key key bytes es) ≡ cond b (length es) (length es + 1)
    long b e =
        length-put key_order nat_list_cmp_total key bytes es sorted
        ∙ ap (λ (b : Bool). cond b (length es) (length es + 1)) e

    changed : (k old : List ℕ) → IsKeyValue row (k, old) → IsKeyValue row (k, bytes)
    changed k old here =
        record {
          key_size = here.key_size;
          key = here.key;
          value_size = new.value_size;
          value = new.value;
        }

    still : length (with_key key bytes es) ≤ row.entries
        → KeysFit row.kind row.entries (keys_of (with_key key bytes es))
        → FitsRow row (with_key key bytes es)
    still room keys = record {
      key_values = All-with_key (IsKeyValue row) key bytes es new changed h.key_values;
      ordered = IsStrictlySortedBy-is_sorted (with_key key bytes es)
          (is_sorted-put key_order nat_list_cmp_total key bytes es sorted);
      room = room;
      keys = keys;
    }

    at : (b : Bool) → has_key key es ≡ b → HasRoomForKey row key es
        → FitsRow row (with_key key bytes es)
    at true e k =
        let same = long true e in
        let room = h.room in
        let keys = sym (keys-with_key key bytes es same) in
        still (omega arith) (subst (λ ks. KeysFit row.kind row.entries ks) keys h.keys)
    at false e (inl there) = absurd cc
    at false e (inr (hash, less)) =
        let more = long false e in
        still (omega arith)
        (subst (λ k. KeysFit k row.entries (keys_of (with_key key bytes es))) (sym hash) tt)

-- ---- a key removed

length-filter : {X : Type 0} (p : X → Bool) (xs : List X) → length (filter p xs) ≤ length xs
length-filter p [] = omega arith
length-filter p (x ∷ xs) =
    let rest = length-filter p xs in
    elim (p x) as (λ b. length (cond b (x ∷ filter p xs) (filter p xs)) ≤ suc (length xs))
    [ true ↦ omega arith | false ↦ omega arith ]

pub FitsRow-without_key : (row : MapDef) (key : List ℕ) (es : KeyValues) → row.kind ≡ Hash
    → FitsRow row es
    → FitsRow row (without_key key es)
FitsRow-without_key row key es hash h =
    let p : List ℕ → Bool = λ k. not (is_key key k) in
    let shorter = length-filter (λ e. p e.0) es in
    let room = h.room in
    record {
      key_values = All-filter (λ e. p e.0) (IsKeyValue row) es h.key_values;
      ordered = IsStrictlySortedBy-is_sorted (without_key key es)
          (is_sorted-where_key key_order p es (is_sorted-IsStrictlySortedBy es h.ordered));
      room = omega arith;
      keys = subst (λ k. KeysFit k row.entries (keys_of (without_key key es))) (sym hash) tt;
    }

-- ---- answers that change a content

-- an update changes a content that has room
hash_update_has_room : (has full : Bool) (flags : ℕ) → (hash_update has full flags == 0) ≡ true
    → (has ≡ true) ⊎ (full ≡ false)
hash_update_has_room true full flags h = inl refl
hash_update_has_room false false flags h = inr refl
hash_update_has_room false true flags h = absurd (fails (nat_lt exist flags) (flags == exist) h)
  where
    fails : (over exists : Bool)
        → ((if over then einval else if exists then enoent else e2big) == 0) ≡ true → ⊥
    fails true exists h = absurd cc
    fails false true h = absurd cc
    fails false false h = absurd cc

array_update_has_key : (has : Bool) (flags : ℕ) → (array_update has flags == 0) ≡ true → has ≡ true
array_update_has_key true flags h = refl
array_update_has_key false flags h = absurd (fails (nat_lt exist flags) h)
  where
    fails : (over : Bool) → ((if over then einval else e2big) == 0) ≡ true → ⊥
    fails true h = absurd cc
    fails false h = absurd cc

pub update_has_room : (row : MapDef) (key : List ℕ) (flags : ℕ) (content : Content)
    → (update_answer row content key flags == 0) ≡ true
    → HasRoomForKey row key (key_values_of content)
update_has_room row key flags content h = by row.kind refl h
  where
    by : (kind : MapType) → row.kind ≡ kind
        → (update_answer_by kind (has_key key content)
        (nat_le row.entries (length content)) flags == 0) ≡ true
        → HasRoomForKey row key (key_values_of content)
    by Array e h =
        inl (has_key-key_values_of key content ∙ array_update_has_key (has_key key content) flags h)
    by Hash e h = elim
        (hash_update_has_room (has_key key content) (nat_le row.entries (length content)) flags h) [
          | inl there ↦ inl (has_key-key_values_of key content ∙ there)
          | inr less ↦
              let long = length-map content key_value_of in inr (e, grind (arith, nat_tests))
        ]

-- nothing is removed from an array
pub deletes_from_hash : (row : MapDef) (key : List ℕ) (content : Content)
    → (delete_answer row content key == 0) ≡ true → row.kind ≡ Hash
deletes_from_hash row key content h = by row.kind refl h
  where
    by : (kind : MapType) → row.kind ≡ kind
        → (delete_answer_by kind (has_key key content) == 0) ≡ true
        → row.kind ≡ Hash
    by Hash e h = e
    by Array e h = absurd cc

-- only a key that is there is deleted
pub deletes_present : (row : MapDef) (key : List ℕ) (content : Content)
    → (delete_answer row content key == 0) ≡ true
    → has_key key content ≡ true
deletes_present row key content h = by row.kind (has_key key content) h
  where
    by : (kind : MapType) (has : Bool) → (delete_answer_by kind has == 0) ≡ true → has ≡ true
    by kind true h = refl
    by Hash false h = absurd cc
    by Array false h = absurd cc

-- ---- answers

either_fits : (b : Bool) (m n : ℕ) → m < 2 ^ 64 → n < 2 ^ 64 → (if b then m else n) < 2 ^ 64
either_fits true m n h k = h
either_fits false m n h k = k

-- 0 and errors have 64 bits
pub update_answer_fits : (row : MapDef) (content : Content) (key : List ℕ) (flags : ℕ)
    → update_answer row content key flags < 2 ^ 64
update_answer_fits row content key flags =
    by row.kind (has_key key content) (nat_le row.entries (length content))
  where
    by : (kind : MapType) (has full : Bool) → update_answer_by kind has full flags < 2 ^ 64
    by Hash has full =
        either_fits (nat_lt exist flags) einval _ (omega arith)
        (either_fits (has && (flags == noexist)) eexist _ (omega arith)
        (either_fits (not has && (flags == exist)) enoent _ (omega arith)
        (either_fits (not has && full) e2big 0 (omega arith) (omega arith))))
    by Array has full =
        either_fits (nat_lt exist flags) einval _ (omega arith)
        (either_fits (not has) e2big _ (omega arith)
        (either_fits (flags == noexist) eexist 0 (omega arith) (omega arith)))

pub delete_answer_fits : (row : MapDef) (content : Content) (key : List ℕ)
    → delete_answer row content key < 2 ^ 64
delete_answer_fits row content key = by row.kind (has_key key content)
  where
    by : (kind : MapType) (has : Bool) → delete_answer_by kind has < 2 ^ 64
    by Hash has = either_fits has 0 enoent (omega arith) (omega arith)
    by Array has = omega arith

-- ---- serials

-- a content in order, by its keys and values without serials
pub is_sorted-key_values_of : (row : MapDef) (content : Content)
    → FitsRow row (key_values_of content)
    → T (is_sorted key_order content)
is_sorted-key_values_of row content h =
    is_sorted-IsStrictlySortedBy content
    (subst (IsStrictlySortedBy key_order) (keys-key_values_of content) h.ordered)
  where
    keys-key_values_of : (content : Content) → keys_of (key_values_of content) ≡ keys_in content
    keys-key_values_of [] = refl
    keys-key_values_of (e ∷ es) = ap (λ l. e.0 ∷ l) (keys-key_values_of es)

-- what holds of a map's serials, holds of the serial of a key's value
pub at_key-value_serials : (P : ℕ → Type 0) (key : List ℕ) (stored : Stored) (content : Content)
    → at_key key content ≡ Some stored → All P (value_serials content) → P stored.serial
at_key-value_serials P key stored [] e h = absurd cc
at_key-value_serials P key stored (x ∷ content) e h =
    let here = All-head P x.1.serial (value_serials content) h in
    let rest = All-tail P x.1.serial (value_serials content) h in
    elim (is_key key x.0) as (λ b. cond b (Some x.1) (at_key key content) ≡ Some stored
    → P stored.serial) [
      | true ↦ λ e. let same : x.1 ≡ stored = cc in subst (λ (v : Stored). P v.serial) same here
      | false ↦ λ e. at_key-value_serials P key stored content e rest
    ] e

-- a present key's value keeps its serial, and so the map's serials stay
pub value_serials-with_key : (key : List ℕ) (new old : Stored) (content : Content)
    → new.serial ≡ old.serial
    → at_key key content ≡ Some old → T (is_sorted key_order content)
    → value_serials (with_key key new content) ≡ value_serials content
value_serials-with_key key new old content same e h =
    stay content e (length-put key_order nat_list_cmp_total key new content h
    ∙ ap (λ (o : Option Stored). cond (is_some o) (length content) (length content + 1)) e)
  where
    stay : (content : Content) → at_key key content ≡ Some old
        → length (with_key key new content) ≡ length content
        → value_serials (with_key key new content) ≡ value_serials content
    stay [] e h = absurd cc
    stay (x ∷ content) e h =
        elim (key_order key x.0) as (λ o. cond (is_eq o) (Some x.1) (at_key key content) ≡ Some old
        → length (by_order o ((key, new) ∷ x ∷ content) ((x.0, new) ∷ content)
        (x ∷ with_key key new content))
        ≡ suc (length content)
        → value_serials (by_order o ((key, new) ∷ x ∷ content) ((x.0, new) ∷ content)
        (x ∷ with_key key new content)) ≡ x.1.serial ∷ value_serials content) [
          | Less ↦ λ e h. absurd (omega arith)
          | Equal ↦ λ e h. let found : x.1 ≡ old = cc in ap (λ n. n ∷ value_serials content)
              (same ∙ sym (ap (λ (v : Stored). v.serial) found))
          | Greater ↦ λ e h. ap (λ l. x.1.serial ∷ l) (stay content e (omega arith))
        ] e h

-- a content with a new key has one serial more
pub HasOneMore-with_key : (key : List ℕ) (new : Stored) (content : Content)
    → at_key key content ≡ None
    → HasOneMore new.serial (value_serials content) (value_serials (with_key key new content))
HasOneMore-with_key key new [] e = record { front = []; back = []; some_is = refl; more_is = refl }
HasOneMore-with_key key new (x ∷ content) e =
    let serials : List ℕ = value_serials content in
    elim (key_order key x.0) as (λ o. cond (is_eq o) (Some x.1) (at_key key content) ≡ None
    → HasOneMore new.serial (x.1.serial ∷ serials)
    (value_serials (by_order o ((key, new) ∷ x ∷ content) ((x.0, new) ∷ content)
    (x ∷ with_key key new content)))) [
      | Less ↦
          λ e. record { front = []; back = x.1.serial ∷ serials; some_is = refl; more_is = refl }
      | Equal ↦ λ e. absurd cc
      | Greater ↦ λ e. HasOneMore-before new.serial (x.1.serial ∷ []) serials
          (value_serials (with_key key new content)) (HasOneMore-with_key key new content e)
    ] e

-- a filter that leaves out none
filter_whole : {X : Type 0} (p : X → Bool) (xs : List X) → length (filter p xs) ≡ length xs
    → filter p xs ≡ xs
filter_whole p [] h = refl
filter_whole p (x ∷ xs) h =
    let shorter = length-filter p xs in
    elim (p x) as (λ b. length (cond b (x ∷ filter p xs) (filter p xs)) ≡ suc (length xs)
    → cond b (x ∷ filter p xs) (filter p xs) ≡ x ∷ xs) [
      | true ↦ λ h. ap (λ l. x ∷ l) (filter_whole p xs (omega arith))
      | false ↦ λ h. absurd (omega arith)
    ] h

-- a key removed takes one serial with it
pub HasOneMore-without_key : (key : List ℕ) (content : Content) → has_key key content ≡ true
    → T (is_sorted key_order content)
    → (n : ℕ) × HasOneMore n (value_serials (without_key key content)) (value_serials content)
HasOneMore-without_key key content there h =
    less content (subst (λ b. cond b 1 0 + length (without_key key content) ≡ length content) there
    (length_without key_order nat_list_cmp_total key content h))
  where
    less : (content : Content) → 1 + length (without_key key content) ≡ length content
        → (n : ℕ) × HasOneMore n (value_serials (without_key key content)) (value_serials content)
    less [] h = absurd (omega arith)
    less (x ∷ content) h =
        let left : Content = without_key key content in
        let serials : List ℕ = value_serials content in
        let one : ℕ = x.1.serial in
        elim (is_key key x.0) as (λ b. 1 + length (cond (not b) (x ∷ left) left)
        ≡ suc (length content)
        → (n : ℕ) × HasOneMore n (value_serials (cond (not b) (x ∷ left) left)) (one ∷ serials)) [
          | true ↦ λ h.
              let whole : left ≡ content =
              filter_whole (λ e. not (is_key key e.0)) content (omega arith) in (
                one,
                record {
                  front = [];
                  back = serials;
                  some_is = ap value_serials whole;
                  more_is = refl;
                },
              )
          | false ↦ λ h.
              let (n, more) = less content (omega arith) in
              (n, HasOneMore-before n (one ∷ []) (value_serials left) serials more)
        ] h
