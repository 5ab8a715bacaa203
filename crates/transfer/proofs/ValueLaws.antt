-- Through pointers to map values: what the machine loads and stores is allowed by the kind that
-- the step computes.
use Rattle.transfer.proofs.Common.{◌≡◌, ℕ, ◌+◌, ◌-◌, ◌*◌, ◌^◌, ◌<◌, ◌≤◌, ◌==◌, ℤ, ◌+ℤ◌, ◌≤ℤ◌, nat_le, nat_lt, Bool, true, false, cond, List, [], map, take, drop, length, slice_get, slice_set, slice_index_or, Contains, Option, Some, None, Result, Ok, IfOk, inl, inr, sym, ap, ◌∙◌, subst, arith, refl, position_or_len, le-leb, cases_lt, nat_tests, ints, length-map, length-take-le, length-drop, Size, U8, U16, U32, U64, SignedSize, Value, Num, Ptr, Cell, Byte, TrapReason, MapDef, Program, bytes_of, number_from, sign_extended, size_bytes, unsigned_size, size_extension, Stored, Content, key_values_of, content_of, byte_in, index_from, index_of_serial, key_value_at, put_value, load, load_number, load_signed, store, store_number, AreBytes, IsKeyValue, value_serials, IsState, store_number_keeps, number_in-Byte, value_in-Byte, take-drop-Byte, content_fits, put_value_serials, slice_index_fits, Scalar, Kind, Number, MapValue, MapValueOrNull, Has, Assigned, Allows, AllowsMapValue, HasLiveValue, State, length-bytes_of, number_from_below, MeansBy, with_maps, IsOfSize, IsOfSignedSize, value_size, AreInValue, ValueLoads, ValueLoadsSigned, ValueStores}
use Rattle.std.proofs.lemmas.List.Sums.{fails_before_first}
use Rattle.std.proofs.lemmas.List.Elements.{All-get_or, at_from_Contains}
use Rattle.std.proofs.Math.Seq.{map-set_same}
use Rattle.std.proofs.Math.ListN.{get_or-map as get_or-map_default}
use Rattle.isa_model.specs.declared.values.Region.TheVariants as region
use Rattle.isa_model.proofs.LittleEndianLaws.{EachByte-take, EachByte-drop}
use Rattle.isa_model.proofs.ExtensionLaws.{sign_extended_fits}
use Rattle.isa_model.specs.Machine.States as Machine
use Rattle.stack_state.proofs.ValueEffects.{KeepsLive, MeansBy-values}
use Rattle.transfer.proofs.ResultLaws.{Yields}
use Rattle.transfer.proofs.PacketLaws.{place_from, number_yields, extended_fits}
use Rattle.transfer.proofs.StackAccessLaws.{ContinuesIn}

-- ---- live map values

-- a test that passes somewhere in a list has a first index in it at which it passes
first_there : {X : Type 0} (p : X → Bool) (xs : List X) (k : ℕ) (d : X) → k < length xs
    → p (slice_index_or xs k d) ≡ true → position_or_len p xs < length xs
first_there p xs k d within passes =
    elim (cases_lt (position_or_len p xs) (length xs)) [
      | inl before ↦ before
      | inr past ↦
          let fails : p (slice_index_or xs k d) ≡ false =
          fails_before_first p xs k d (omega arith) in absurd (cc)
    ]

-- the key of a live value is found by its serial
live_key_value : (content : Content) (n : ℕ) → Contains (value_serials content) n
    → (j : ℕ) × (j < length content) × (index_of_serial content n ≡ Some j)
live_key_value content n live =
    let none : List ℕ × Stored = ([], record { serial = 0; bytes = [] }) in
    let there = at_from_Contains (value_serials content) n live in
    let long = length-map content (λ e. e.1.serial) in
    let within = there.1 in
    let serial : (key_value_at content there.0).1.serial ≡ n =
    sym (get_or-map_default (λ e. e.1.serial) content there.0 none) ∙ there.2 0 in
    let passes : ((key_value_at content there.0).1.serial == n) ≡ true = grind (arith, nat_tests) in
    let j : ℕ = position_or_len (λ e. e.1.serial == n) content in
    let first : j < length content =
    first_there (λ e. e.1.serial == n) content there.0 none (omega arith) passes in
    let yes : nat_lt j (length content) ≡ true = grind (arith, nat_tests) in
    (j, first, ap (λ b. cond b (Some j) None) yes)

-- the index of a live value in its map's content, and its bytes
pub record IsLiveValue (p : Program) (s : Machine.State) (m n : ℕ) (nth : ℕ) : Type 0 where
  pub found : index_of_serial (content_of s m) n ≡ Some nth
  pub long : length (key_value_at (content_of s m) nth).1.bytes ≡ value_size (slice_get p.maps m)
  pub are_bytes : AreBytes (key_value_at (content_of s m) nth).1.bytes

key_value_there : (p : Program) (s : Machine.State) (m n j : ℕ) (row : MapDef)
    → slice_get p.maps m ≡ Some row → IsState p s → j < length (content_of s m) → IsKeyValue row
    ((key_value_at (content_of s m) j).0, (key_value_at (content_of s m) j).1.bytes)
key_value_there p s m n j row here is within =
    let content : Content = content_of s m in
    let none : List ℕ × Stored = ([], record { serial = 0; bytes = [] }) in
    let long = length-map {B = List ℕ × List ℕ} content (λ e. (e.0, e.1.bytes)) in
    subst (IsKeyValue row) (get_or-map_default (λ e. (e.0, e.1.bytes)) content j none)
    (All-get_or (IsKeyValue row) (key_values_of content) j ([], []) (omega arith)
    (content_fits p s m row here is).key_values)

live_value : (p : Program) (s : Machine.State) (m n : ℕ) (o : Option MapDef)
    → slice_get p.maps m ≡ o → IsState p s → HasLiveValue s.maps m n
    → 0 < value_size o → (j : ℕ) × IsLiveValue p s m n j
live_value p s m n None here is live some = absurd (omega arith)
live_value p s m n (Some row) here is live some =
    let (j, within, found) = live_key_value (content_of s m) n live in
    let pair = key_value_there p s m n j row here is within in (
      j,
      record {
        found = found;
        long = pair.value_size ∙ ap value_size (sym here);
        are_bytes = pair.value;
      },
    )

-- ---- places

-- bytes that are known to be in a map value are there
value_place : (value_bytes : ℕ) (least greatest z by : ℤ) (count : ℕ)
    → AreInValue value_bytes least greatest by count → least ≤ℤ z → z ≤ℤ greatest
    → (i : ℕ) × (index_from (z +ℤ by) ≡ Some i) × (i + count ≤ value_bytes)
value_place value_bytes least greatest z by count h from to =
    let low = h.from in
    let high = h.to in
    place_from (z +ℤ by) count value_bytes (omega (arith, ints)) (omega (arith, ints))

some_bytes : (size : Size) → 0 < size_bytes size
some_bytes U8 = omega arith
some_bytes U16 = omega arith
some_bytes U32 = omega arith
some_bytes U64 = omega arith

-- where the bytes of a pointer to a map value are
pub record HasBytesAt (p : Program) (s : Machine.State) (m n : ℕ) (z : ℤ) (count : ℕ) : Type 0 where
  pub nth : ℕ
  pub live : IsLiveValue p s m n nth
  pub index : ℕ
  pub found : index_from z ≡ Some index
  pub inside : index + count ≤ length (key_value_at (content_of s m) nth).1.bytes

-- some bytes that are known to be in a map value are there
pub at_value : (p : Program) (e : Assigned) (a : State) (s : Machine.State) (m : ℕ)
    (least greatest by : ℤ) (v : Value) (count : ℕ) → 0 < count
    → MeansBy p e a s → (h : AllowsMapValue e m least greatest v)
    → AreInValue (value_size (slice_get p.maps m)) least greatest by count
    → HasBytesAt p s m h.serial (h.offset +ℤ by) count
at_value p e a s m least greatest by v count some means h inside =
    let value_bytes : ℕ = value_size (slice_get p.maps m) in
    let (i, found, within) =
    value_place value_bytes least greatest h.offset by count inside h.from h.to in
    let live : HasLiveValue s.maps m h.serial =
    subst (λ maps. HasLiveValue maps m h.serial) means.assigned.contents h.live in
    let (j, value) =
    live_value p s m h.serial (slice_get p.maps m) refl means.is_state live (omega arith) in
    let long = value.long in
    record { nth = j; live = value; index = i; found = found; inside = omega arith }

-- ---- loads

abbrev bytes_from : Machine.State → ℕ → ℕ → ℕ → ℕ → List ℕ
bytes_from s m j i n = take n (drop i (key_value_at (content_of s m) j).1.bytes)

value_number : (p : Program) (s : Machine.State) (size : Size) (m n : ℕ) (z by : ℤ)
    (h : HasBytesAt p s m n (z +ℤ by) (size_bytes size))
    → load_number s size (Ptr (region.MapValue m n) z) by
    ≡ Ok (number_from (bytes_from s m h.nth h.index (size_bytes size)))
value_number p s size m n z by h =
    let bytes : List ℕ = (key_value_at (content_of s m) h.nth).1.bytes in
    let long : length (map Byte bytes) ≡ length bytes = length-map bytes Byte in
    let inside = h.inside in
    let yes : nat_le (h.index + size_bytes size) (length (map Byte bytes)) ≡ true =
    le-leb (h.index + size_bytes size) (length (map Byte bytes)) (omega arith) in
    rw (h.live.found, h.found, yes, take-drop-Byte bytes h.index (size_bytes size))
    (number_in-Byte (bytes_from s m h.nth h.index (size_bytes size)))

value_whole : (p : Program) (s : Machine.State) (m n : ℕ) (z by : ℤ)
    (h : HasBytesAt p s m n (z +ℤ by) 8)
    → load s U64 (Ptr (region.MapValue m n) z) by
    ≡ Ok (Num (number_from (bytes_from s m h.nth h.index 8)))
value_whole p s m n z by h =
    let bytes : List ℕ = (key_value_at (content_of s m) h.nth).1.bytes in
    let long : length (map Byte bytes) ≡ length bytes = length-map bytes Byte in
    let inside = h.inside in
    let yes : nat_le (h.index + 8) (length (map Byte bytes)) ≡ true =
    le-leb (h.index + 8) (length (map Byte bytes)) (omega arith) in
    rw (h.live.found, h.found, yes, take-drop-Byte bytes h.index 8)
    (value_in-Byte (bytes_from s m h.nth h.index 8))

value_load : (p : Program) (s : Machine.State) (size : Size) (m n : ℕ) (z by : ℤ)
    (h : HasBytesAt p s m n (z +ℤ by) (size_bytes size))
    → load s size (Ptr (region.MapValue m n) z) by
    ≡ Ok (Num (number_from (bytes_from s m h.nth h.index (size_bytes size))))
value_load p s U64 m n z by h = value_whole p s m n z by h
value_load p s U8 m n z by h = rw (value_number p s U8 m n z by h)
value_load p s U16 m n z by h = rw (value_number p s U16 m n z by h)
value_load p s U32 m n z by h = rw (value_number p s U32 m n z by h)

-- a number of that many bytes
value_number_below : (p : Program) (s : Machine.State) (size : Size) (m n : ℕ) (z : ℤ)
    (h : HasBytesAt p s m n z (size_bytes size))
    → number_from (bytes_from s m h.nth h.index (size_bytes size)) < 2 ^ (8 * size_bytes size)
value_number_below p s size m n z h =
    let bytes : List ℕ = (key_value_at (content_of s m) h.nth).1.bytes in
    let inside = h.inside in
    let dropped : length (drop h.index bytes) ≡ length bytes - h.index =
    length-drop h.index bytes in
    let long : length (bytes_from s m h.nth h.index (size_bytes size)) ≡ size_bytes size =
    length-take-le (size_bytes size) (drop h.index bytes) (omega arith) in
    number_from_below size (bytes_from s m h.nth h.index (size_bytes size)) long
    (EachByte-take (size_bytes size) (drop h.index bytes)
    (EachByte-drop h.index bytes (slice_index_fits bytes h.live.are_bytes)))

pub value_load_yields : (p : Program) (e : Assigned) (a : State) (s : Machine.State) (size : Size)
    (m : ℕ) (least greatest by : ℤ) (k : Kind) (v : Value)
    → MeansBy p e a s → ValueLoads size (value_size (slice_get p.maps m)) least greatest by (Ok k)
    → Allows e (MapValue m least greatest) v → Yields e k (load s size v by)
value_load_yields p e a s size m least greatest by k v means (inside, number) allowed =
    let h = at_value p e a s m least greatest by v (size_bytes size)
    (some_bytes size) means allowed inside in
    let x : ℕ = number_from (bytes_from s m h.nth h.index (size_bytes size)) in
    rw (allowed.points, value_load p s size m allowed.serial allowed.offset by h)
    (number_yields e (IsOfSize size) k x
    (λ c is.
    (is.members x).1 (value_number_below p s size m allowed.serial (allowed.offset +ℤ by) h))
    number)

pub value_load_signed_yields : (p : Program) (e : Assigned) (a : State) (s : Machine.State)
    (size : SignedSize) (m : ℕ) (least greatest by : ℤ) (k : Kind)
    (v : Value) → MeansBy p e a s
    → ValueLoadsSigned size (value_size (slice_get p.maps m)) least greatest by (Ok k)
    → Allows e (MapValue m least greatest) v → Yields e k (load_signed s size v by)
value_load_signed_yields p e a s size m least greatest by k v means (inside, number) allowed =
    let h = at_value p e a s m least greatest by v (size_bytes (unsigned_size size))
    (some_bytes (unsigned_size size)) means allowed inside in
    let n : ℕ = number_from (bytes_from s m h.nth h.index (size_bytes (unsigned_size size))) in
    let x : ℕ = sign_extended (size_extension size) n in
    rw (allowed.points, value_number p s (unsigned_size size) m allowed.serial allowed.offset by h)
    (number_yields e (IsOfSignedSize size) k x
    (λ c is. (is.members x).1 (sign_extended_fits (size_extension size) n, extended_fits size n))
    number)

-- ---- stores

-- the machine does not trap, and under some assignment the abstract state that is left means its
-- next state
abbrev pub GoesIntoSome : Program → State → Result Machine.State TrapReason → Type 0
GoesIntoSome p b went = (f : Assigned) × ContinuesIn p f b went

-- a content with the same serials in place of another keeps all map values live
kept_live : (maps : List Content) (m : ℕ) (content : Content)
    → value_serials content ≡ value_serials (slice_index_or maps m [])
    → KeepsLive maps (slice_set maps m content)
kept_live maps m content same = λ j n live.
    let serials : value_serials (slice_index_or (slice_set maps m content) j [])
    ≡ value_serials (slice_index_or maps j []) =
    sym (get_or-map_default value_serials (slice_set maps m content) j [])
    ∙ ap (λ l. slice_index_or l j []) (map-set_same value_serials maps m content [] same)
    ∙ get_or-map_default value_serials maps j [] in
    subst (λ l. Contains l n) (sym serials) live

-- a number's bytes go where they are known to be in the map value
pub value_stored : (p : Program) (e : Assigned) (a : State) (s : Machine.State) (size : Size)
    (m : ℕ) (least greatest by : ℤ) (x : ℕ) (v : Value)
    → MeansBy p e a s
    → AreInValue (value_size (slice_get p.maps m)) least greatest by (size_bytes size)
    → Allows e (MapValue m least greatest) v → GoesIntoSome p a (store_number s size v by x)
value_stored p e a s size m least greatest by x v means inside allowed =
    let h = at_value p e a s m least greatest by v (size_bytes size)
    (some_bytes size) means allowed inside in
    let n : ℕ = allowed.serial in
    let bytes : List ℕ = (key_value_at (content_of s m) h.nth).1.bytes in
    let new : List Cell = map Byte (bytes_of size x) in
    let as_many : length new ≡ size_bytes size = length-map (bytes_of size x) Byte
    ∙ length-bytes_of size x in
    let long : length (map Byte bytes) ≡ length bytes = length-map bytes Byte in
    let room = h.inside in
    let yes : nat_le (h.index + length new) (length (map Byte bytes)) ≡ true =
    le-leb (h.index + length new) (length (map Byte bytes)) (omega arith) in
    let content : Content = put_value (content_of s m) (Some h.nth) h.index (map byte_in new) in
    let maps : List Content = slice_set s.maps m content in
    let t : Machine.State = record s { maps = maps } in
    let went : store_number s size (Ptr (region.MapValue m n) allowed.offset) by x ≡ Ok t =
    rw (h.live.found, h.found, yes) in
    let goes : store_number s size v by x ≡ Ok t =
    ap (λ u. store_number s size u by x) allowed.points ∙ went in
    let is : IsState p t =
    subst (λ r. IfOk r (IsState p)) goes (store_number_keeps p s size v by x means.is_state) in
    let live = kept_live s.maps m content
    (put_value_serials (content_of s m) (Some h.nth) h.index (map byte_in new)) in (
      with_maps e maps,
      subst (ContinuesIn p (with_maps e maps) a) (sym goes)
          (MeansBy-values p e a s maps live is means),
    )

-- what is not refused is a number, and is stored
pub value_store_goes : (p : Program) (e : Assigned) (a : State) (s : Machine.State) (size : Size)
    (m : ℕ) (least greatest by : ℤ) (source : Kind)
    (v u : Value) → MeansBy p e a s
    → ValueStores size (value_size (slice_get p.maps m)) least greatest by source (Ok tt)
    → Allows e (MapValue m least greatest) v → Allows e source u
    → GoesIntoSome p a (store s size v by u)
value_store_goes p e a s size m least greatest by (Number c) v u means (inl h) allowed
    (x, is, has) =
    subst (λ w. GoesIntoSome p a (store s size v by w)) (sym is)
    (value_stored p e a s size m least greatest by x v means h.0 allowed)
value_store_goes p e a s size m least greatest by (MapValueOrNull j i) v u means
    (inl h) allowed other = absurd (cc (h.1))
value_store_goes p e a s size m least greatest by k v u means (inl h) allowed other =
    absurd (cc (h.1))
value_store_goes p e a s size m least greatest by k v u means (inr h) allowed other =
    absurd (cc (h.1))

-- the number that an atomic instruction finds
pub value_number_read : (p : Program) (e : Assigned) (a : State) (s : Machine.State) (size : Size)
    (m : ℕ) (least greatest by : ℤ) (c : Scalar)
    (v : Value) → MeansBy p e a s
    → AreInValue (value_size (slice_get p.maps m)) least greatest by (size_bytes size)
    → Allows e (MapValue m least greatest) v → IsOfSize size c
    → (n : ℕ) × (load_number s size v by ≡ Ok n) × Has c n
value_number_read p e a s size m least greatest by c v means inside allowed is =
    let h = at_value p e a s m least greatest by v (size_bytes size)
    (some_bytes size) means allowed inside in
    let x : ℕ = number_from (bytes_from s m h.nth h.index (size_bytes size)) in (
      x,
      ap (λ u. load_number s size u by) allowed.points
          ∙ value_number p s size m allowed.serial allowed.offset by h,
      (is.members x).1 (value_number_below p s size m allowed.serial (allowed.offset +ℤ by) h),
    )
