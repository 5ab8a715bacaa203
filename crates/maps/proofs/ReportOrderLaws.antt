-- Laws of the keys and values of a map in the order of the report.
use Rattle.maps.proofs.Common.{◌≡◌, ℕ, zero, suc, ◌+◌, ◌^◌, ◌<◌, ◌≤◌, List, [], ◌∷◌, Option, Some, None, Bool, true, false, cond, map, refl, sym, ap, subst, ◌∙◌, arith, inl, inr, T, is_some, slice_get-map, slice_get-get_or, slice_get_past, nat_list_cmp_total, entries, entries_sorted, find, get, get-entries, is_sorted, values, below_all, slice_get, filter_map, cons_option, range_with_len, option_map, is_eq, is_lt, ordering_reverse, little_bytes, MapType, Hash, Array, key_order, is_key, KeyValues, EitherIndex, array_places, content, places_of, kind_of, room_of, either_in_range, block_row, Places, PlaceKeys, key_in, places, is_key-itself, got, listed_of, with_key_of}
use Rattle.std.proofs.lemmas.Bool.{cases_lt}
use Rattle.std.proofs.lemmas.List.FromFn.{get_or-range_with_len, length-range_with_len}
use Rattle.std.specs.declared.cmp.Ordering.{Ordering}
use Rattle.std.specs.declared.cmp.Ordering.TheVariants.{Less, Equal, Greater}
use Rattle.isa_model.specs.Reporting.Reports.{in_report_order, key_value_by_index}
use Rattle.isa_model.proofs.TestLaws.{both_parts}
use Rattle.maps.specs.declared.either.EitherIndex.TheVariants as either
use Rattle.map_indexes.proofs.ArrayLaws.{get_index}
use Rattle.maps.proofs.ContentLaws.{at_key-content}

all_some : {Y : Type 0} (h : ℕ → Option Y) (f : ℕ → Y) (a n : ℕ)
    → ((i : ℕ) → a ≤ i → i < a + n → h i ≡ Some (f i))
    → filter_map h (range_with_len a n) ≡ map f (range_with_len a n)
all_some h f a zero each = refl
all_some h f a (suc n) each =
    let here = each a (omega arith) (omega arith) in
    let rest = all_some h f (a + 1) n (λ i l m. each i (omega arith) (omega arith)) in
    λ k. cons_option (here k) (rest k)

map_twice : {A B C : Type 0} (f : B → C) (g : A → B) (xs : List A)
    → map f (map g xs) ≡ map (λ x. f (g x)) xs
map_twice f g [] = refl
map_twice {C = C} f g (x ∷ xs) = ap (λ (ys : List C). f (g x) ∷ ys) (map_twice f g xs)

by_index : (n size : ℕ) (block : List ℕ) → n ≤ 2 ^ 32 → (i : ℕ) → i < n
    → key_value_by_index (content size (array_places n) block) i
    ≡ Some (little_bytes 4 i, block_row size block i)
by_index n size block small i l =
    ap (option_map (λ (value : List ℕ). (little_bytes 4 i, value)))
    (at_key-content size (array_places n) block (little_bytes 4 i)
    ∙ ap (option_map (block_row size block)) (get_index n i small l))

-- a number below an array's count of keys is an index that is listed
pub listed-index : (n k : ℕ) → k < n
    → slice_get {X = List ℕ × ℕ} (map (λ i. (little_bytes 4 i, i)) (range_with_len 0 n)) k
    ≡ Some (little_bytes 4 k, k)
listed-index n k l =
    let long = length-range_with_len 0 n in
    let here : slice_get (range_with_len 0 n) k ≡ Some k =
    slice_get-get_or (range_with_len 0 n) k 0 (omega arith)
    ∙ ap Some (let e = get_or-range_with_len 0 n k 0 l in omega arith) in
    slice_get-map {B = List ℕ × ℕ} (λ i. (little_bytes 4 i, i)) (range_with_len 0 n) k
    ∙ ap (option_map (λ (i : ℕ). (little_bytes 4 i, i))) here

-- and no other
pub listed-past : (n k : ℕ) → n ≤ k
    → slice_get {X = List ℕ × ℕ} (map (λ i. (little_bytes 4 i, i)) (range_with_len 0 n)) k ≡ None
listed-past n k l =
    let long = length-range_with_len 0 n in
    slice_get-map {B = List ℕ × ℕ} (λ i. (little_bytes 4 i, i)) (range_with_len 0 n) k
    ∙ ap (option_map (λ (i : ℕ). (little_bytes 4 i, i)))
    (slice_get_past (range_with_len 0 n) k (omega arith))

behind_less : (r : Ordering) → T (is_lt r) → is_eq (ordering_reverse r) ≡ false
behind_less Less t = refl
behind_less Equal t = absurd t
behind_less Greater t = absurd t

pub above : (x : List ℕ) (es : List (List ℕ × ℕ)) (k : ℕ) (e : List ℕ × ℕ)
    → T (below_all key_order x es) → slice_get es k ≡ Some e → T (is_lt (key_order x e.0))
above x [] k e b g = absurd (cc)
above x (y ∷ es) zero e b g =
    let same : y ≡ e = cc in
    subst (λ (z : List ℕ × ℕ). T (is_lt (key_order x z.0))) same
    (both_parts (is_lt (key_order x y.0)) (below_all key_order x es) b).0
above x (y ∷ es) (suc k) e b g =
    above x es k e (both_parts (is_lt (key_order x y.0)) (below_all key_order x es) b).1 g

placed : (es : List (List ℕ × ℕ)) (k : ℕ) (e : List ℕ × ℕ) → T (is_sorted key_order es)
    → slice_get es k ≡ Some e → find key_order e.0 es ≡ Some e.1
placed [] k e s g = absurd (cc)
placed (x ∷ es) zero e s g =
    let same : x ≡ e = cc in
    ap (λ (z : List ℕ × ℕ). find key_order z.0 (x ∷ es)) (sym same)
    ∙ ap (λ (b : Bool). cond b (Some x.1) (find key_order x.0 es)) (is_key-itself x.0)
    ∙ ap (λ (z : List ℕ × ℕ). Some z.1) same
placed (x ∷ es) (suc k) e s g =
    let less =
    above x.0 es k e (both_parts (below_all key_order x.0 es) (is_sorted key_order es) s).0 g in
    let other : is_key e.0 x.0 ≡ false =
    ap is_eq (nat_list_cmp_total.antisymm e.0 x.0) ∙ behind_less (key_order x.0 e.0) less in
    ap (λ (b : Bool). cond b (Some x.1) (find key_order e.0 es)) other
    ∙ placed es k e (both_parts (below_all key_order x.0 es) (is_sorted key_order es) s).1 g

-- a key that is listed has its place
pub get_at : (m : Places) (k : ℕ) (e : List ℕ × ℕ) → slice_get (entries m) k ≡ Some e
    → get m e.0 ≡ Some e.1
get_at m k e g = get-entries m e.0 ∙ placed (entries m) k e (entries_sorted m) g

module _ (keys : PlaceKeys) (k p : ℕ) (there : slice_get (values (places keys)) k ≡ Some p) where
  listed : (e : List ℕ × ℕ) × (slice_get (entries (places keys)) k ≡ Some e) × (e.1 ≡ p)
  listed =
      elim (slice_get (entries (places keys)) k) as (λ o. slice_get (entries (places keys)) k ≡ o
      → option_map (λ e. e.1) o ≡ Some p
      → (e : List ℕ × ℕ) × (slice_get (entries (places keys)) k ≡ Some e) × (e.1 ≡ p)) [
        | None ↦ λ g f. absurd (cc)
        | Some e ↦ λ g f. (e, g, cc)
      ] refl (sym (slice_get-map (λ e. e.1) (entries (places keys)) k) ∙ there)

  key_there : key_in keys p ≡ Some (listed.0.0)
  key_there =
      ap (key_in keys) (sym listed.2)
      ∙ got keys listed.0.0 listed.0.1 (get_at (places keys) k listed.0 listed.1)

  -- a place that is listed has a key
  pub listed-some : is_some (key_in keys p) ≡ true
  listed-some = ap is_some key_there

  -- and what is there is that key with the place
  pub listed-key : (key : List ℕ) → key_in keys p ≡ Some key
      → slice_get (entries (places keys)) k ≡ Some (key, p)
  listed-key key e =
      let same : listed.0.0 ≡ key = let f = key_there in cc in
      listed.1 ∙ (λ i. Some (same i, listed.2 i))

pub listed-none : (keys : PlaceKeys) (k : ℕ) → slice_get (values (places keys)) k ≡ None
    → slice_get (entries (places keys)) k ≡ None
listed-none keys k none =
    elim (slice_get (entries (places keys)) k) as (λ o. option_map (λ e. e.1) o ≡ None → o ≡ None) [
      | None ↦ λ f. refl
      | Some e ↦ λ f. absurd (cc)
    ] (sym (slice_get-map (λ e. e.1) (entries (places keys)) k) ∙ none)

-- the keys and values in the order of the report are the listed keys, with the rows of the block at
-- their places
pub in_report_order-listed : (index : EitherIndex) (kind : MapType) (n size : ℕ) (block : List ℕ)
    → kind_of index ≡ kind → room_of index ≡ n
    → in_report_order kind n (content size (places_of index) block)
    ≡ map (λ e. (e.0, block_row size block e.1)) (listed_of index)
in_report_order-listed (either.Array s) Array n size block k room =
    let small = s.small in
    let es : KeyValues = content size (array_places s.entries) block in
    ap (λ (m : ℕ). filter_map (key_value_by_index es) (range_with_len 0 m)) (sym room)
    ∙ all_some (key_value_by_index es) (λ i. (little_bytes 4 i, block_row size block i)) 0 s.entries
    (λ i l m. by_index s.entries size block (omega arith) i (omega arith))
    ∙ sym (map_twice (λ (e : List ℕ × ℕ). (e.0, block_row size block e.1))
    (λ (i : ℕ). (little_bytes 4 i, i)) (range_with_len 0 s.entries))
in_report_order-listed (either.Array s) Hash n size block k room = absurd (cc)
in_report_order-listed (either.Chain s) Hash n size block k room = refl
in_report_order-listed (either.Chain s) Array n size block k room = absurd (cc)

-- the place of a key that is listed is below the room
pub listed-in_range : (index : EitherIndex) (k : ℕ) (e : List ℕ × ℕ)
    → slice_get (listed_of index) k ≡ Some e → e.1 < room_of index
listed-in_range (either.Array s) k e g = elim (cases_lt k s.entries) [
  | inl below ↦
      let f : Some (little_bytes 4 k, k) ≡ Some e = sym (listed-index s.entries k below) ∙ g in
      let here : (little_bytes 4 k, k) ≡ e = cc in
      let same : k ≡ e.1 = ap (λ (x : List ℕ × ℕ). x.1) here in
      omega arith
  | inr past ↦ let f = sym (listed-past s.entries k past) ∙ g in absurd (cc)
]
listed-in_range (either.Chain s) k e g =
    either_in_range (either.Chain s) e.0 e.1 (get_at (places s.keys.by_place) k e g)

pub listed-place : (index : EitherIndex) (k p : ℕ)
    → Some p ≡ option_map (λ e. e.1) (slice_get (listed_of index) k) → p < room_of index
listed-place index k p e =
    elim (slice_get (listed_of index) k) as (λ o. slice_get (listed_of index) k ≡ o
    → Some p ≡ option_map (λ e. e.1) o → p < room_of index) [
      | None ↦ λ g f. absurd (cc)
      | Some x ↦
          λ g f. let l = listed-in_range index k x g in let same : p ≡ x.1 = cc in omega arith
    ] refl e

value_of : (size : ℕ) (block : List ℕ) (o : Option (List ℕ × ℕ))
    → option_map (λ e. e.1) (option_map {U = List ℕ
    × List ℕ} (λ e. (e.0, block_row size block e.1)) o)
    ≡ option_map (block_row size block) (option_map (λ e. e.1) o)
value_of size block None = refl
value_of size block (Some e) = refl

key_of : (size : ℕ) (block : List ℕ) (o : Option (List ℕ × ℕ)) (bytes : List ℕ)
    → with_key_of (option_map {U = List ℕ × List ℕ} (λ e. (e.0, block_row size block e.1)) o) bytes
    ≡ with_key_of o bytes
key_of size block None bytes = refl
key_of size block (Some e) bytes = refl

-- the k-th key of a map with its value, by the k-th key that is listed
module _ (index : EitherIndex) (kind : MapType) (n size : ℕ) (block : List ℕ)
    (same : kind_of index ≡ kind) (room : room_of index ≡ n) (k : ℕ) where
  abbrev pub reported : KeyValues
  reported = in_report_order kind n (content size (places_of index) block)

  pair-listed : slice_get reported k
      ≡ option_map {U = List ℕ × List ℕ} (λ e. (e.0, block_row size block e.1))
      (slice_get (listed_of index) k)
  pair-listed =
      ap (λ (es : KeyValues). slice_get es k)
      (in_report_order-listed index kind n size block same room)
      ∙ slice_get-map {B = List ℕ × List ℕ} (λ e. (e.0, block_row size block e.1))
      (listed_of index) k

  pub key_value-value : (place : Option ℕ)
      → place ≡ option_map (λ e. e.1) (slice_get (listed_of index) k)
      → option_map (λ e. e.1) (slice_get reported k) ≡ option_map (block_row size block) place
  key_value-value place e =
      ap (option_map (λ (x : List ℕ × List ℕ). x.1)) pair-listed
      ∙ value_of size block (slice_get (listed_of index) k)
      ∙ ap (option_map (block_row size block)) (sym e)

  pub key_value-key : (bytes : List ℕ)
      → with_key_of (slice_get reported k) bytes ≡ with_key_of (slice_get (listed_of index) k) bytes
  key_value-key bytes =
      ap (λ (o : Option (List ℕ × List ℕ)). with_key_of o bytes) pair-listed
      ∙ key_of size block (slice_get (listed_of index) k) bytes
