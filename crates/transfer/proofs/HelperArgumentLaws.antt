-- Arguments of helpers: the machine's are those that the kinds show, and their bytes are there.
use Rattle.transfer.proofs.Common.{◌≡◌, ℕ, ◌+◌, ◌<◌, ◌≤◌, ℤ, pos, ◌+ℤ◌, nat_le, Bool, true, false, ◌&&◌, List, [], map, take, drop, length, slice_get, Option, Some, None, Result, Ok, sym, ap, ◌∙◌, subst, arith, refl, list_all, le-leb, ints, length-map, stack_size, MapDef, Value, Ptr, Cell, Byte, Program, content_of, call_frame_at, new_call_frame, and_then, is_byte, byte_in, index_from, index_at, key_value_at, read, IsCallFrame, MapArgument, map_of_row, map_argument, BytesArgument, bytes_argument, number_argument, bytes_in, bytes_at, list_all-is_byte-Byte, take-drop-Byte, Kind, Number, Stack, Packet, Map, MapValue, Assigned, Allows, State, stack_slots_of, MeansBy, depth_is_length, part_of, none_unwritten, Refusal, CalledMap, map_with_row, called_map, is_number, judged, AreInFrame, AreKnown}
use Rattle.isa_model.specs.declared.values.Region.TheVariants as region
use Rattle.isa_model.specs.Machine.States as Machine
use Rattle.stack_state.proofs.StackLaws.{marked_are_bytes}
use Rattle.stack_state.proofs.FrameLaws.{IsHere, read_here}
use Rattle.stack_state.proofs.FramePlaceLaws.{call_frame_index-serial}
use Rattle.transfer.proofs.PacketLaws.{packet_place}
use Rattle.transfer.proofs.ValueLaws.{HasBytesAt, at_value}

-- ---- the kinds of the arguments

-- the map of the machine's call
abbrev pub argument_of : CalledMap → MapArgument
argument_of m = record { index = m.index; row = m.row }

row_there : (rows : List MapDef) (j : ℕ) (o : Option MapDef) (m : CalledMap) → slice_get rows j ≡ o
    → map_with_row j o ≡ Ok m
    → (map_of_row j o ≡ Ok (argument_of m)) × (slice_get rows m.index ≡ Some m.row)
row_there rows j (Some row) m here is =
    let called : CalledMap = record { index = j; row = row } in
    let same : called ≡ m = cc in (
      ap (λ (c : CalledMap). Ok (argument_of c)) same,
      subst (λ (c : CalledMap). slice_get rows c.index ≡ Some c.row) same here,
    )
row_there rows j None m here is = absurd (cc)

-- r1 names the map that its kind does
pub map_called : (p : Program) (e : Assigned) (k : Kind) (v : Value) (m : CalledMap)
    → called_map p.maps k ≡ Ok m → Allows e k v
    → (map_argument p v ≡ Ok (argument_of m)) × (slice_get p.maps m.index ≡ Some m.row)
map_called p e (Map j) v m is allowed =
    subst (λ u. (map_argument p u ≡ Ok (argument_of m)) × (slice_get p.maps m.index ≡ Some m.row))
    (sym allowed)
    (row_there p.maps j (slice_get p.maps j) m refl is)
map_called p e k v m is allowed = absurd (cc)

-- where a call is not refused, its map is r1's, and its kinds fit
pub judged_map : (untested fit : Bool) (map : Result CalledMap Refusal) (m : CalledMap)
    → judged untested fit map ≡ Ok m → (map ≡ Ok m) × (fit ≡ true)
judged_map true fit map m is = absurd (cc)
judged_map false true map m is = (is, refl)
judged_map false false map m is = absurd (cc)

-- r4 holds a number
pub flags_there : (e : Assigned) (k : Kind) (v : Value) → is_number k ≡ true → Allows e k v
    → (n : ℕ) × (number_argument v ≡ Ok n)
flags_there e (Number numbers) v is allowed = (allowed.0, ap number_argument allowed.1)
flags_there e k v is allowed = absurd (cc)

pub last_of : (a b c : Bool) → (a && (b && c)) ≡ true → c ≡ true
last_of true true c is = is
last_of true false c is = absurd (cc)
last_of false b c is = absurd (cc)

-- ---- the bytes that they point to

-- an argument points to n number bytes
abbrev Points : Machine.State → Value → ℕ → Type 0
Points s v n =
    (at : BytesArgument) × (bytes_argument v ≡ Ok at)
    × ((bytes : List ℕ) × (bytes_at s at n ≡ Ok bytes))

read_bytes : (cs : List Cell) → list_all is_byte cs ≡ true → bytes_in cs ≡ Ok (map byte_in cs)
read_bytes cs all = let written = none_unwritten cs all in rw (written, all)

read_there : (s : Machine.State) (at : BytesArgument) (n : ℕ) (cs : List Cell)
    → read s at.region (index_at at.region at.offset) n ≡ Ok cs
    → list_all is_byte cs ≡ true → (bytes : List ℕ) × (bytes_at s at n ≡ Ok bytes)
read_there s at n cs found all = (
  map byte_in cs,
  subst (λ r. and_then r bytes_in ≡ Ok (map byte_in cs)) (sym found) (read_bytes cs all),
)

no_move : (z : ℤ) → (z +ℤ pos 0) ≡ z
no_move z = omega (arith, ints)

-- written number bytes of a live call frame
frame_points : (p : Program) (e : Assigned) (a : State) (s : Machine.State) (frame n serial : ℕ)
    (z : ℤ) → MeansBy p e a s
    → slice_get e.frames frame ≡ Some serial → AreInFrame a frame z n
    → Points s (Ptr (region.CallFrame serial) z) n
frame_points p e a s frame n serial z m found h =
    let mine : slice_get (map (λ f. f.serial) s.frames) frame ≡ Some serial =
    rw (sym m.assigned.serials) found in
    let count = depth_is_length p e a s m in
    let live = h.live in
    let fits : IsCallFrame p s.next_serial (call_frame_at s.frames frame) =
    m.is_state.frames frame (new_call_frame 0 0 []) (omega arith) in
    let whole : length (call_frame_at s.frames frame).cells ≡ stack_size = fits.whole in
    let inside = h.inside in
    let here : IsHere s serial frame h.at n z (pos 0) = record {
      found = call_frame_index-serial p s frame serial m.is_state mine;
      index = ap index_from (ap (λ y. y +ℤ pos stack_size) (no_move z) ∙ h.from_start);
      inside = omega arith;
    } in
    let cs : List Cell = part_of (call_frame_at s.frames frame).cells h.at n in
    let is : read s (region.CallFrame serial) (index_at (region.CallFrame serial) z) n ≡ Ok cs =
    subst (λ y. read s (region.CallFrame serial) (index_at (region.CallFrame serial) y) n ≡ Ok cs)
    (no_move z)
    (read_here s serial frame h.at n z (pos 0) here) in
    let at : BytesArgument = record { region = region.CallFrame serial; offset = z } in (
      at,
      refl,
      read_there s at n cs is
          (marked_are_bytes e (stack_slots_of a frame)
          (call_frame_at s.frames frame).cells h.at n inside h.marked (m.stacks frame live)),
    )

-- bytes of the packet
packet_points : (s : Machine.State) (n i : ℕ) (z : ℤ) → index_from z ≡ Some i
    → i + n ≤ length s.packet → Points s (Ptr region.Packet z) n
packet_points s n i z found inside =
    let at : BytesArgument = record { region = region.Packet; offset = z } in
    let long : length (map Byte s.packet) ≡ length s.packet = length-map s.packet Byte in
    let yes : nat_le (i + n) (length (map Byte s.packet)) ≡ true =
    le-leb (i + n) (length (map Byte s.packet)) (omega arith) in
    let bytes : List ℕ = take n (drop i s.packet) in (
      at,
      refl,
      read_there s at n (map Byte bytes) (rw (found, yes, take-drop-Byte s.packet i n))
          (list_all-is_byte-Byte bytes),
    )

-- bytes of a live map value
value_points : (p : Program) (s : Machine.State) (m serial n : ℕ) (z : ℤ)
    → HasBytesAt p s m serial z n → Points s (Ptr (region.MapValue m serial) z) n
value_points p s m serial n z h =
    let at : BytesArgument = record { region = region.MapValue m serial; offset = z } in
    let all : List ℕ = (key_value_at (content_of s m) h.nth).1.bytes in
    let long : length (map Byte all) ≡ length all = length-map all Byte in
    let inside = h.inside in
    let yes : nat_le (h.index + n) (length (map Byte all)) ≡ true =
    le-leb (h.index + n) (length (map Byte all)) (omega arith) in
    let bytes : List ℕ = take n (drop h.index all) in (
      at,
      refl,
      read_there s at n (map Byte bytes)
          (rw (h.live.found, h.found, yes, take-drop-Byte all h.index n))
          (list_all-is_byte-Byte bytes),
    )

-- bytes that are known are there
pub known_points : (p : Program) (e : Assigned) (a : State) (s : Machine.State) (k : Kind)
    (v : Value) (n : ℕ) → 0 < n → MeansBy p e a s
    → Allows e k v → AreKnown p.maps a k n → Points s v n
known_points p e a s (Stack frame z) v n some m allowed h =
    let (serial, found, is) = allowed in
    subst (λ u. Points s u n) (sym is) (frame_points p e a s frame n serial z m found h)
known_points p e a s (Packet fixed identity least greatest proved) v n some m allowed h =
    let (i, found, inside) =
    packet_place e s fixed least greatest identity proved n (pos 0) v m.assigned h allowed in
    let z : ℤ = fixed +ℤ e.offset identity in
    subst (λ u. Points s u n) (sym allowed.points)
    (packet_points s n i z (subst (λ y. index_from y ≡ Some i) (no_move z) found) inside)
known_points p e a s (MapValue j least greatest) v n some m allowed h =
    let at = at_value p e a s j least greatest (pos 0) v n some m allowed h in
    subst (λ u. Points s u n) (sym allowed.points)
    (value_points p s j allowed.serial n allowed.offset
    (subst (λ y. HasBytesAt p s j allowed.serial y n) (no_move allowed.offset) at))
known_points p e a s k v n some m allowed h = absurd h
