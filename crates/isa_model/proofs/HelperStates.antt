-- The call of a helper leads from a state to a state.
use Rattle.isa_model.proofs.Common.{◌≡◌, ℕ, zero, suc, ◌+◌, ◌<◌, ◌≤◌, ◌==◌, ◌++◌, Bool, true, false, if◌then◌else◌, List, [], ◌∷◌, map, drop, replicate, length, slice_get, slice_set, All, Option, Some, None, Result, Ok, Err, IfOk, sym, ap, ◌∙◌, subst, arith, length-drop, refl, list_any, list_all, flat_map, slice_get_within, map-set, length-map, length-take-le, All-cons, All-append, All-drop, All-weaker, All-replicate, R1, R2, R3, R4, Value, Unset, Num, Ptr, Cell, Hash, MapDef, TrapReason, UnsetRead, BadAccess, Program, Stored, Content, KeyValues, key_values_of, State, reg, content_of, and_then, is_unwritten, is_byte, byte_in, index_at, region_cells, cells_at, place_of, read, at_key, has_key, with_key, without_key, update_answer, delete_answer, AreBytes, IsKeyValue, FitsRow, FitRows, IsValue, IsCell, IsCallFrame, value_serials, live_serials, IsState, IsClock}
use Rattle.isa_model.specs.declared.helpers.Helper.{Helper}
use Rattle.isa_model.specs.declared.helpers.Helper.TheVariants.{MapLookupElem, MapUpdateElem, MapDeleteElem, KtimeGetNs}
use Rattle.isa_model.specs.declared.values.Region.TheVariants as region
use Rattle.isa_model.specs.Machine.MapHelpers.{Helped, serial_given, serial_after, put_bytes, remove_key, pointer_or_zero, map_lookup_elem, map_update_elem, map_delete_elem}
use Rattle.isa_model.specs.Machine.HelperCalls.{MapArgument, map_of_row, map_argument, BytesArgument, bytes_argument, number_argument, bytes_in, bytes_at, lookup_call, update_call, delete_call, helper_call, answered, after_call}
use Rattle.isa_model.proofs.ValueLaws.{IfOk-and_then, IfOk-then, IfOk-if, IsValue-more, bytes_in_fit}
use Rattle.isa_model.proofs.StateLaws.{IsState-moved, HasCells, place_in_room, serial_of, flat_map-set_same}
use Rattle.isa_model.proofs.CallLaws.{IsCallFrame-more}
use Rattle.isa_model.proofs.AccessLaws.{read_fits}
use Rattle.isa_model.proofs.SerialLaws.{HasOneMore, HasOneMore-before, HasOneMore-after, AreSerials, AreSerials-more, AreSerials-fewer, part_replaced}
use Rattle.isa_model.proofs.ContentLaws.{key_values_of-with_key, key_values_of-without_key, HasRoomForKey, FitsRow-with_key, FitsRow-without_key, update_has_room, deletes_from_hash, deletes_present, update_answer_fits, delete_answer_fits, is_sorted-key_values_of, at_key-value_serials, value_serials-with_key, HasOneMore-with_key, HasOneMore-without_key}
use Rattle.isa_model.proofs.HelperLaws.{value_serials_given, content_fits}

-- ---- the arguments

-- a map's index names its row
abbrev IsArgument : Program → MapArgument → Type 0
IsArgument p m = slice_get p.maps m.index ≡ Some m.row

map_argument_fits : (p : Program) (v : Value) → IfOk (map_argument p v) (IsArgument p)
map_argument_fits p (Ptr (region.Map m) z) = of_row (slice_get p.maps m) refl
  where
    of_row : (o : Option MapDef) → slice_get p.maps m ≡ o → IfOk (map_of_row m o) (IsArgument p)
    of_row (Some row) e = e
    of_row None e = tt
map_argument_fits p (Ptr region.Context z) = tt
map_argument_fits p (Ptr region.Packet z) = tt
map_argument_fits p (Ptr region.PacketEnd z) = tt
map_argument_fits p (Ptr (region.CallFrame n) z) = tt
map_argument_fits p (Ptr (region.MapValue m n) z) = tt
map_argument_fits p (Num n) = tt
map_argument_fits p Unset = tt

-- n cells are read where n are asked for
read_length : (s : State) (at : BytesArgument) (n : ℕ)
    → IfOk (read s at.region (index_at at.region at.offset) n) (λ cs. length cs ≡ n)
read_length s at n =
    let cells = region_cells s at.region in
    let o = index_at at.region at.offset in
    IfOk-and_then (λ i. HasCells cells i n) (λ cs. length cs ≡ n) (place_of s at.region o n)
    (λ i. Ok (cells_at cells i n))
    (place_in_room cells o n) (λ i room. whole cells i room)
  where
    whole : (cells : Option (List Cell)) (i : ℕ) → HasCells cells i n
        → length (cells_at cells i n) ≡ n
    whole (Some cells) i room =
        let left = length-drop i cells in
        length-take-le n (drop i cells) (omega arith)
    whole None i room = absurd room

-- n bytes
abbrev AreBytesOf : ℕ → List ℕ → Type 0
AreBytesOf n bytes = (length bytes ≡ n) × AreBytes bytes

bytes_in_fits : (count next : ℕ) (cs : List Cell) → All (IsCell count next) cs
    → IfOk (bytes_in cs) (AreBytesOf (length cs))
bytes_in_fits count next cs h =
    IfOk-if (AreBytesOf (length cs)) (list_any is_unwritten cs) (Err UnsetRead) _ (λ unwritten. tt)
    (λ written. IfOk-if (AreBytesOf (length cs)) (list_all is_byte cs) (Ok (map byte_in cs))
    (Err BadAccess)
    (λ all. (length-map cs byte_in, bytes_in_fit count next cs h)) (λ some. tt))

-- what is read at an argument is n bytes
pub bytes_at_fits : (p : Program) (s : State) (at : BytesArgument) (n : ℕ) → IsState p s
    → IfOk (bytes_at s at n) (AreBytesOf n)
bytes_at_fits p s at n k =
    let o = index_at at.region at.offset in
    found (read s at.region o n) (read_length s at n) (read_fits p s at.region o n k)
  where
    found : (r : Result (List Cell) TrapReason) → IfOk r (λ cs. length cs ≡ n)
        → IfOk r (All (IsCell (length p.maps) s.next_serial))
        → IfOk (and_then r bytes_in) (AreBytesOf n)
    found (Ok cs) long h =
        subst (λ m. IfOk (bytes_in cs) (AreBytesOf m)) long
        (bytes_in_fits (length p.maps) s.next_serial cs h)
    found (Err e) long h = tt

-- ---- a map's content replaced

-- a map with a row has a content
content_there : (rows : List MapDef) (contents : List KeyValues) (m : ℕ) (row : MapDef)
    → slice_get rows m ≡ Some row
    → FitRows rows contents → m < length contents
content_there [] contents m row e h = absurd cc
content_there (r ∷ rows) [] m row e h = absurd h
content_there (r ∷ rows) (c ∷ contents) zero row e h = omega arith
content_there (r ∷ rows) (c ∷ contents) (suc m) row e h =
    let there = content_there rows contents m row e h.1 in
    omega arith

FitRows-put : (rows : List MapDef) (contents : List KeyValues) (m : ℕ) (row : MapDef)
    (es : KeyValues)
    → slice_get rows m ≡ Some row → FitsRow row es → FitRows rows contents
    → FitRows rows (slice_set contents m es)
FitRows-put [] contents m row es e fits h = absurd cc
FitRows-put (r ∷ rows) [] m row es e fits h = absurd h
FitRows-put (r ∷ rows) (c ∷ contents) zero row es e fits h =
    let same : row ≡ r = cc in
    (subst (λ x. FitsRow x es) same fits, h.1)
FitRows-put (r ∷ rows) (c ∷ contents) (suc m) row es e fits h =
    (h.0, FitRows-put rows contents m row es e fits h.1)

-- the serials of the live map values and call frames, with another content of a map
abbrev serials_with : State → ℕ → Content → List ℕ
serials_with s m content =
    flat_map value_serials (slice_set s.maps m content) ++ map serial_of s.frames

-- a map's content is replaced by one that fits its row, where the live serials are still different
-- and below the next one
IsState-with_content : (p : Program) (s : State) (m : ℕ) (row : MapDef) (content : Content)
    (next : ℕ)
    → slice_get p.maps m ≡ Some row → s.next_serial ≤ next → FitsRow row (key_values_of content)
    → AreSerials next (serials_with s m content) → IsState p s
    → IsState p (record s { maps = slice_set s.maps m content; next_serial = next })
IsState-with_content p s m row content next e le fits serials k =
    let count : ℕ = length p.maps in
    let old : ℕ = s.next_serial in
    record {
      slot = k.slot;
      registers = k.registers;
      values = All-weaker (IsValue count old) (IsValue count next)
          (λ v h. IsValue-more count old next v le h) s.regs k.values;
      called = k.called;
      depth = k.depth;
      frames = All-weaker (IsCallFrame p old) (IsCallFrame p next)
          (λ f h. IsCallFrame-more p old next f le h) s.frames k.frames;
      short = k.short;
      packet = k.packet;
      interface = k.interface;
      queue = k.queue;
      maps = subst (FitRows p.maps) (sym (map-set key_values_of s.maps m content))
          (FitRows-put p.maps (map key_values_of s.maps) m row
          (key_values_of content) e fits k.maps);
      given = serials.0;
      once = serials.1;
    }

-- a relation of one content's serials, before and after, is one of all live serials
live_related : (R : List ℕ → List ℕ → Type 0)
    → ((front xs ys : List ℕ) → R xs ys → R (front ++ xs) (front ++ ys))
    → ((xs ys rest : List ℕ) → R xs ys → R (xs ++ rest) (ys ++ rest))
    → (p : Program) (s : State) (m : ℕ) (row : MapDef) (content : Content)
    → slice_get p.maps m ≡ Some row
    → R (value_serials (content_of s m)) (value_serials content)
    → IsState p s → R (live_serials s) (serials_with s m content)
live_related R before after p s m row content e one k =
    let there = content_there p.maps (map key_values_of s.maps) m row e k.maps in
    let long = length-map s.maps key_values_of in
    let part = part_replaced value_serials s.maps m content [] (omega arith) in
    let old : List ℕ = value_serials (content_of s m) in
    let new : List ℕ = value_serials content in
    let within = before part.before (old ++ part.after) (new ++ part.after)
    (after old new part.after one) in
    let were : List ℕ = flat_map value_serials s.maps in
    let are : List ℕ = flat_map value_serials (slice_set s.maps m content) in
    let in_maps : R were are =
    subst (λ l. R were l) (sym part.is)
    (subst (λ l. R l (part.before ++ (new ++ part.after))) (sym part.was) within) in
    after were are (map serial_of s.frames) in_maps

one_more_live : (p : Program) (s : State) (m : ℕ) (row : MapDef) (content : Content) (n : ℕ)
    → slice_get p.maps m ≡ Some row
    → HasOneMore n (value_serials (content_of s m)) (value_serials content)
    → IsState p s → HasOneMore n (live_serials s) (serials_with s m content)
one_more_live p s m row content n =
    live_related (HasOneMore n) (HasOneMore-before n) (HasOneMore-after n) p s m row content

one_fewer_live : (p : Program) (s : State) (m : ℕ) (row : MapDef) (content : Content) (n : ℕ)
    → slice_get p.maps m ≡ Some row
    → HasOneMore n (value_serials content) (value_serials (content_of s m))
    → IsState p s → HasOneMore n (serials_with s m content) (live_serials s)
one_fewer_live p s m row content n =
    live_related (λ more some. HasOneMore n some more)
    (λ front more some. HasOneMore-before n front some more)
    (λ more some rest. HasOneMore-after n some more rest) p s m row content

-- ---- a key put, and a key removed

put_bytes_keeps : (p : Program) (s : State) (m : ℕ) (row : MapDef) (key bytes : List ℕ)
    → slice_get p.maps m ≡ Some row
    → IsKeyValue row (key, bytes) → HasRoomForKey row key (key_values_of (content_of s m))
    → IsState p s
    → IsState p (put_bytes s m key bytes)
put_bytes_keeps p s m row key bytes e pair room k = by (at_key key (content_of s m)) refl
  where
    fits : FitsRow row (key_values_of (content_of s m))
    fits = content_fits p s m row e k

    changed : (new : Stored) → new.bytes ≡ bytes
        → FitsRow row (key_values_of (with_key key new (content_of s m)))
    changed new same =
        subst (FitsRow row) (sym (key_values_of-with_key key new (content_of s m)
        ∙ ap (λ b. with_key key b (key_values_of (content_of s m))) same))
        (FitsRow-with_key row key bytes (key_values_of (content_of s m)) pair room fits)

    new_value : Option Stored → Stored
    new_value old = record { serial = serial_given s.next_serial old; bytes = bytes }

    by : (old : Option Stored) → at_key key (content_of s m) ≡ old
        → IsState p (record s {
          maps = slice_set s.maps m (with_key key (new_value old) (content_of s m));
          next_serial = serial_after s.next_serial old;
        })
    by (Some old) found =
        let content : Content = with_key key (new_value (Some old)) (content_of s m) in
        let serials = value_serials-with_key key (new_value (Some old)) old (content_of s m) refl
        found (is_sorted-key_values_of row (content_of s m) fits) in
        let live : serials_with s m content ≡ live_serials s = ap (λ l. l ++ map serial_of s.frames)
        (flat_map-set_same value_serials s.maps m content [] serials) in
        IsState-with_content p s m row content s.next_serial e (omega arith)
        (changed (new_value (Some old)) refl)
        (subst (AreSerials s.next_serial) (sym live) (k.given, k.once)) k
    by None found =
        let content : Content = with_key key (new_value None) (content_of s m) in
        let one = one_more_live p s m row content s.next_serial e
        (HasOneMore-with_key key (new_value None) (content_of s m) found) k in
        IsState-with_content p s m row content (suc s.next_serial) e (omega arith)
        (changed (new_value None) refl)
        (AreSerials-more s.next_serial (live_serials s) (serials_with s m content) one
        (k.given, k.once)) k

remove_key_keeps : (p : Program) (s : State) (m : ℕ) (row : MapDef) (key : List ℕ)
    → slice_get p.maps m ≡ Some row
    → row.kind ≡ Hash → has_key key (content_of s m) ≡ true → IsState p s
    → IsState p (remove_key s m key)
remove_key_keeps p s m row key e hash there k =
    let old : Content = content_of s m in
    let content : Content = without_key key old in
    let fits = content_fits p s m row e k in
    let fewer = subst (FitsRow row) (sym (key_values_of-without_key key old))
    (FitsRow-without_key row key (key_values_of old) hash fits) in
    let (n, one) = HasOneMore-without_key key old there (is_sorted-key_values_of row old fits) in
    let live = one_fewer_live p s m row content n e one k in
    IsState-with_content p s m row content s.next_serial e (omega arith) fewer
    (AreSerials-fewer s.next_serial n (serials_with s m content) (live_serials s) live
    (k.given, k.once)) k

-- ---- the helpers

-- an answer that is a value, and a state
abbrev pub IsHelped : Program → Helped → Type 0
IsHelped p helped =
    IsState p helped.state × IsValue (length p.maps) helped.state.next_serial helped.answer

lookup_keeps : (p : Program) (s : State) (m : ℕ) (row : MapDef) (key : List ℕ)
    → slice_get p.maps m ≡ Some row
    → IsState p s → IsHelped p (map_lookup_elem s m key)
lookup_keeps p s m row key e k = (k, by (at_key key (content_of s m)) refl)
  where
    by : (o : Option Stored) → at_key key (content_of s m) ≡ o
        → IsValue (length p.maps) s.next_serial (pointer_or_zero m o)
    by (Some stored) found =
        let given = at_key-value_serials (λ n. n < s.next_serial) key stored (content_of s m) found
        (value_serials_given p s m k) in
        ((slice_get_within p.maps m row e, given), omega arith)
    by None found = omega arith

update_keeps : (p : Program) (s : State) (m : MapArgument) (key bytes : List ℕ) (flags : ℕ)
    → IsArgument p m
    → IsKeyValue m.row (key, bytes) → IsState p s
    → IsHelped p (map_update_elem m.row s m.index key bytes flags)
update_keeps p s m key bytes flags e pair k =
    let content = content_of s m.index in (
      by (update_answer m.row content key flags == 0) refl,
      update_answer_fits m.row content key flags,
    )
  where
    by : (b : Bool) → (update_answer m.row (content_of s m.index) key flags == 0) ≡ b
        → IsState p (if b then put_bytes s m.index key bytes else s)
    by true passed =
        put_bytes_keeps p s m.index m.row key bytes e pair
        (update_has_room m.row key flags (content_of s m.index) passed) k
    by false failed = k

delete_keeps : (p : Program) (s : State) (m : MapArgument) (key : List ℕ) → IsArgument p m
    → IsState p s
    → IsHelped p (map_delete_elem m.row s m.index key)
delete_keeps p s m key e k =
    let content = content_of s m.index in
    (by (delete_answer m.row content key == 0) refl, delete_answer_fits m.row content key)
  where
    by : (b : Bool) → (delete_answer m.row (content_of s m.index) key == 0) ≡ b
        → IsState p (if b then remove_key s m.index key else s)
    by true passed =
        let content = content_of s m.index in
        remove_key_keeps p s m.index m.row key e (deletes_from_hash m.row key content passed)
        (deletes_present m.row key content passed) k
    by false failed = k

-- with any count of the times that the clock was asked
clock_asked : (p : Program) (s : State) (asked : ℕ) → IsState p s
    → IsState p (record s { clock_calls = asked })
clock_asked p s asked k = IsState-moved p s s.slot s.regs asked k.slot k.registers k.values k

-- ---- the calls

lookup_call_keeps : (p : Program) (s : State) → IsState p s → IfOk (lookup_call p s) (IsHelped p)
lookup_call_keeps p s k =
    let H : Helped → Type 0 = IsHelped p in
    IfOk-and_then (IsArgument p) H (map_argument p (reg s R1)) _ (map_argument_fits p (reg s R1))
    (λ m e.
    IfOk-then H (bytes_argument (reg s R2)) _ (λ key_argument.
    IfOk-then H (bytes_at s key_argument m.row.key_size) _ (λ key.
    lookup_keeps p s m.index m.row key e k)))

update_call_keeps : (p : Program) (s : State) → IsState p s → IfOk (update_call p s) (IsHelped p)
update_call_keeps p s k =
    let H : Helped → Type 0 = IsHelped p in
    IfOk-and_then (IsArgument p) H (map_argument p (reg s R1)) _ (map_argument_fits p (reg s R1))
    (λ m e.
    IfOk-then H (bytes_argument (reg s R2)) _ (λ key_argument.
    IfOk-then H (bytes_argument (reg s R3)) _ (λ value_argument.
    IfOk-then H (number_argument (reg s R4)) _ (λ flags.
    IfOk-and_then (AreBytesOf m.row.key_size) H (bytes_at s key_argument m.row.key_size) _
    (bytes_at_fits p s key_argument m.row.key_size k) (λ key key_is.
    IfOk-and_then (AreBytesOf m.row.value_size) H (bytes_at s value_argument m.row.value_size) _
    (bytes_at_fits p s value_argument m.row.value_size k) (λ bytes value_is.
    update_keeps p s m key bytes flags e
    (record { key_size = key_is.0; key = key_is.1; value_size = value_is.0; value = value_is.1 })
    k))))))

delete_call_keeps : (p : Program) (s : State) → IsState p s → IfOk (delete_call p s) (IsHelped p)
delete_call_keeps p s k =
    let H : Helped → Type 0 = IsHelped p in
    IfOk-and_then (IsArgument p) H (map_argument p (reg s R1)) _ (map_argument_fits p (reg s R1))
    (λ m e.
    IfOk-then H (bytes_argument (reg s R2)) _ (λ key_argument.
    IfOk-then H (bytes_at s key_argument m.row.key_size) _ (λ key.
    delete_keeps p s m key e k)))

-- a helper's answer is a value, and what it leaves is a state
pub helper_call_fits : (p : Program) (clock : ℕ → ℕ) (s : State) (o : Option Helper) → IsClock clock
    → IsState p s
    → IfOk (helper_call p clock s o) (IsHelped p)
helper_call_fits p clock s (Some MapLookupElem) answers k = lookup_call_keeps p s k
helper_call_fits p clock s (Some MapUpdateElem) answers k = update_call_keeps p s k
helper_call_fits p clock s (Some MapDeleteElem) answers k = delete_call_keeps p s k
helper_call_fits p clock s (Some KtimeGetNs) answers k =
    (clock_asked p s (s.clock_calls + 1) k, answers s.clock_calls)
helper_call_fits p clock s None answers k = tt

-- ---- what is in the registers after it

-- r0 holds the answer, and r1 to r5 are unset
pub IsState-answered : (p : Program) (helped : Helped) → IsHelped p helped
    → IsState p (answered helped)
IsState-answered p helped h =
    let s : State = helped.state in
    let k = h.0 in
    let V : Value → Type 0 = IsValue (length p.maps) s.next_serial in
    let rest : List Value = drop 6 s.regs in
    let left = length-drop 6 s.regs in
    let all = k.registers in
    record {
      slot = k.slot;
      registers = omega arith;
      values = All-cons V helped.answer (replicate 5 Unset ++ rest) h.1
          (All-append V (replicate 5 Unset) rest (All-replicate V 5 Unset tt)
          (All-drop V 6 s.regs k.values));
      called = k.called;
      depth = k.depth;
      frames = k.frames;
      short = k.short;
      packet = k.packet;
      interface = k.interface;
      queue = k.queue;
      maps = k.maps;
      given = k.given;
      once = k.once;
    }

-- the call of a helper leaves a state
pub helper_call_keeps : (p : Program) (clock : ℕ → ℕ) (s : State) (o : Option Helper)
    → IsClock clock → IsState p s
    → IfOk (after_call (helper_call p clock s o)) (IsState p)
helper_call_keeps p clock s o answers k =
    IfOk-and_then (IsHelped p) (IsState p) (helper_call p clock s o)
    (λ helped. Ok (answered helped))
    (helper_call_fits p clock s o answers k) (λ helped h. IsState-answered p helped h)
