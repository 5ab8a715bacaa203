-- A state is still a state with another slot, with a register set, and with cells written. For call
-- frames pushed and popped see CallLaws.
use Rattle.isa_model.proofs.Common.{◌≡◌, ℕ, zero, suc, ◌+◌, ◌<◌, ◌≤◌, ◌==◌, nat_le, List, [], ◌∷◌, ◌++◌, map, length, slice_set, slice_index_or, All, Option, Some, None, Ok, Err, IfOk, sym, ap, ◌∙◌, subst, arith, refl, flat_map, splice, option_map, map-set_same, nat_tests, length-set, map-set, length-map, All-head, All-tail, All-get_or, All-set, position-Some, Reg, Region, Value, Cell, Byte, CallFrame, MapDef, BadAccess, Program, Stored, Content, KeyValues, key_values_of, State, value_at, reg, set_reg, go_to, content_of, new_call_frame, call_frame_at, byte_in, call_frame_index, index_of_serial, key_value_at, region_cells, place_in, put_call_frame, put_value, put, AreBytes, IsKeyValue, keys_of, FitsRow, FitRows, IsValue, IsCell, IsCallFrame, IsSlot, value_serials, live_serials, IsState}
use Rattle.std.proofs.Math.ListN.{get_or-map as get_or-map_default}
use Rattle.isa_model.specs.declared.values.Region.TheVariants as region
use Rattle.isa_model.specs.Code.Registers.{reg_number}
use Rattle.isa_model.proofs.ValueLaws.{IfOk-if, bytes_in_fit, length-splice, All-splice}

-- ---- another slot, other registers, and another count of the times that the clock was asked

pub IsState-moved : (p : Program) (s : State) (slot : ℕ) (regs : List Value) (asked : ℕ)
    → IsSlot p slot → length regs ≡ 11 → All (IsValue (length p.maps) s.next_serial) regs
    → IsState p s → IsState p (record s { slot = slot; regs = regs; clock_calls = asked })
IsState-moved p s slot regs asked there long fit k = record {
  slot = there;
  registers = long;
  values = fit;
  called = k.called;
  depth = k.depth;
  frames = k.frames;
  short = k.short;
  packet = k.packet;
  interface = k.interface;
  queue = k.queue;
  maps = k.maps;
  given = k.given;
  once = k.once;
}

pub IsState-go_to : (p : Program) (s : State) (slot : ℕ) → IsSlot p slot → IsState p s
    → IsState p (go_to s slot)
IsState-go_to p s slot h k = IsState-moved p s slot s.regs s.clock_calls h k.registers k.values k

-- ---- a register set

-- what a list of values has at an index is a value
pub value_at_fits : (count next : ℕ) (regs : List Value) (n : ℕ) → All (IsValue count next) regs
    → IsValue count next (value_at regs n)
value_at_fits count next [] n h = tt
value_at_fits count next (v ∷ regs) zero h = All-head (IsValue count next) v regs h
value_at_fits count next (v ∷ regs) (suc n) h =
    value_at_fits count next regs n (All-tail (IsValue count next) v regs h)

-- a register of a state holds a value
pub reg_fits : (p : Program) (s : State) (r : Reg) → IsState p s
    → IsValue (length p.maps) s.next_serial (reg s r)
reg_fits p s r k = value_at_fits (length p.maps) s.next_serial s.regs (reg_number r) k.values

pub IsState-set_reg : (p : Program) (s : State) (r : Reg) (v : Value)
    → IsValue (length p.maps) s.next_serial v → IsState p s → IsState p (set_reg s r v)
IsState-set_reg p s r v h k =
    IsState-moved p s s.slot (slice_set s.regs (reg_number r) v) s.clock_calls k.slot
    (length-set s.regs (reg_number r) v ∙ k.registers)
    (All-set (IsValue (length p.maps) s.next_serial) s.regs (reg_number r) v h k.values) k

-- ---- cells written

-- n cells from i on are there
abbrev pub HasCells : Option (List Cell) → ℕ → ℕ → Type 0
HasCells (Some cells) i n = i + n ≤ length cells
HasCells None i n = ⊥

-- where a place is found, its cells are there
pub place_in_room : (cells : Option (List Cell)) (o : Option ℕ) (n : ℕ)
    → IfOk (place_in cells o n) (λ i. HasCells cells i n)
place_in_room (Some cells) (Some i) n =
    IfOk-if (λ i. i + n ≤ length cells) (nat_le (i + n) (length cells)) (Ok i) (Err BadAccess)
    (λ h. grind (arith, nat_tests)) (λ h. tt)
place_in_room (Some cells) None n = tt
place_in_room None o n = tt

abbrev pub serial_of : CallFrame → ℕ
serial_of f = f.serial

-- a call frame with other cells from an index on
put_cells_fit : (p : Program) (next : ℕ) (f : CallFrame) (i : ℕ) (new : List Cell)
    → i + length new ≤ length f.cells → All (IsCell (length p.maps) next) new
    → IsCallFrame p next f
    → IsCallFrame p next (record f { cells = splice f.cells i (i + length new) new })
put_cells_fit p next f i new room fit h = record {
  whole = length-splice f.cells new i room ∙ h.whole;
  cells = All-splice (IsCell (length p.maps) next) f.cells new i (i + length new) h.cells fit;
  returns = h.returns;
  four = h.four;
  saved = h.saved;
}

-- cells put into one of the call frames: there are as many call frames, with the same serials
pub put_call_frame_fits : (p : Program) (next : ℕ) (fs : List CallFrame) (o : Option ℕ) (i : ℕ)
    (new : List Cell)
    → ((j : ℕ) → o ≡ Some j → j < length fs)
    → HasCells (option_map (λ j. (call_frame_at fs j).cells) o) i (length new)
    → All (IsCell (length p.maps) next) new → All (IsCallFrame p next) fs
    → All (IsCallFrame p next) (put_call_frame fs o i new)
    × (length (put_call_frame fs o i new) ≡ length fs)
    × (map serial_of (put_call_frame fs o i new) ≡ map serial_of fs)
put_call_frame_fits p next fs None i new within room fit h = (h, refl, refl)
put_call_frame_fits p next fs (Some j) i new within room fit h =
    let here = within j refl in
    let f = call_frame_at fs j in
    let g = record f { cells = splice f.cells i (i + length new) new } in
    let old = All-get_or (IsCallFrame p next) fs j (new_call_frame 0 0 []) here h in
    let d : CallFrame = new_call_frame 0 0 [] in (
      All-set (IsCallFrame p next) fs j g (put_cells_fit p next f i new room fit old) h,
      length-set fs j g,
      map-set_same serial_of fs j g d refl,
    )

-- the map contents with another content of the same serials
pub flat_map-set_same : {X Y : Type 0} (f : X → List Y) (xs : List X) (i : ℕ) (y d : X)
    → f y ≡ f (slice_index_or xs i d)
    → flat_map f (slice_set xs i y) ≡ flat_map f xs
flat_map-set_same f [] i y d e = refl
flat_map-set_same f (x ∷ xs) zero y d e = ap (λ l. l ++ flat_map f xs) e
flat_map-set_same f (x ∷ xs) (suc i) y d e = ap (λ l. f x ++ l) (flat_map-set_same f xs i y d e)

-- one of the contents is replaced by one that fits the same row
FitRows-set : (rows : List MapDef) (contents : List KeyValues) (m : ℕ) (es d : KeyValues)
    → ((row : MapDef) → FitsRow row (slice_index_or contents m d) → FitsRow row es)
    → FitRows rows contents → FitRows rows (slice_set contents m es)
FitRows-set [] [] m es d more h = h
FitRows-set [] (c ∷ contents) m es d more h = absurd h
FitRows-set (row ∷ rows) [] m es d more h = absurd h
FitRows-set (row ∷ rows) (c ∷ contents) zero es d more h = (more row h.0, h.1)
FitRows-set (row ∷ rows) (c ∷ contents) (suc m) es d more h =
    (h.0, FitRows-set rows contents m es d more h.1)

-- a content with bytes put into one of its map values: the same serials, and it fits the same row
pub put_value_serials : (content : Content) (o : Option ℕ) (i : ℕ) (new : List ℕ)
    → value_serials (put_value content o i new) ≡ value_serials content
put_value_serials content None i new = refl
put_value_serials content (Some j) i new =
    let e = key_value_at content j in
    map-set_same (λ e. e.1.serial) content j
    (e.0, record e.1 { bytes = splice e.1.bytes i (i + length new) new })
    ([], record { serial = 0; bytes = [] }) refl

put_value_fits : (row : MapDef) (content : Content) (o : Option ℕ) (i : ℕ) (new : List ℕ)
    → ((j : ℕ) → o ≡ Some j
    → (j < length content) × (i + length new ≤ length (key_value_at content j).1.bytes))
    → AreBytes new
    → FitsRow row (key_values_of content) → FitsRow row (key_values_of (put_value content o i new))
put_value_fits row content None i new within bytes h = h
put_value_fits row content (Some j) i new within bytes h =
    let (here, room) = within j refl in
    let e = key_value_at content j in
    let f : List ℕ × Stored =
    (e.0, record e.1 { bytes = splice e.1.bytes i (i + length new) new }) in
    let none : List ℕ × Stored = ([], record { serial = 0; bytes = [] }) in
    let es : KeyValues = key_values_of content in
    let x : List ℕ × List ℕ = (f.0, f.1.bytes) in
    let found : slice_index_or es j ([], []) ≡ (e.0, e.1.bytes) =
    get_or-map_default (λ e. (e.0, e.1.bytes)) content j none in
    let old = subst (IsKeyValue row) found
    (All-get_or (IsKeyValue row) es j ([], [])
    (rw (length-map {B = List ℕ × List ℕ} content (λ e. (e.0, e.1.bytes))) here) h.key_values) in
    let keys : keys_of (slice_set es j x) ≡ keys_of es =
    map-set_same (λ e. e.0) es j x ([], []) (sym (ap (λ e. e.0) found)) in
    let new_pair : IsKeyValue row x = record {
      key_size = old.key_size;
      key = old.key;
      value_size = length-splice e.1.bytes new i room ∙ old.value_size;
      value = All-splice (λ b. b < 256) e.1.bytes new i (i + length new) old.value bytes;
    } in
    let fits : FitsRow row (slice_set es j x) = record {
      key_values = All-set (IsKeyValue row) es j x new_pair h.key_values;
      ordered = rw keys h.ordered;
      room = rw (length-set es j x) h.room;
      keys = rw keys h.keys;
    } in
    let same : key_values_of (slice_set content j f) ≡ slice_set es j x =
    map-set (λ e. (e.0, e.1.bytes)) content j f in
    rw same fits

-- where a value has the serial, its key is there, and so are its bytes from the index on
pub value_room : (content : Content) (n i len : ℕ) (o : Option ℕ) → index_of_serial content n ≡ o
    → HasCells (option_map (λ j. map Byte (key_value_at content j).1.bytes) o) i len
    → (j : ℕ) → o ≡ Some j → (j < length content)
    × (i + len ≤ length (key_value_at content j).1.bytes)
value_room content n i len None e room j h = absurd room
value_room content n i len (Some k) e room j h =
    let same : k ≡ j = cc in
    let found =
    position-Some (λ e. e.1.serial == n) content k ([], record { serial = 0; bytes = [] }) e in
    let long = length-map (key_value_at content k).1.bytes Byte in
    rw (← same) (found.0, omega arith)

-- where a call frame has the serial, it is there
pub call_frame_room : (fs : List CallFrame) (n : ℕ) (j : ℕ) → call_frame_index fs n ≡ Some j
    → j < length fs
call_frame_room fs n j e = (position-Some (λ f. f.serial == n) fs j (new_call_frame 0 0 []) e).0

pub IsState-put : (p : Program) (s : State) (r : Region) (i : ℕ) (new : List Cell)
    → HasCells (region_cells s r) i (length new)
    → All (IsCell (length p.maps) s.next_serial) new → IsState p s → IsState p (put s r i new)
IsState-put p s (region.CallFrame n) i new room fit k =
    let put_in = put_call_frame_fits p s.next_serial s.frames (call_frame_index s.frames n) i new
    (call_frame_room s.frames n) room fit k.frames in
    let fs : List CallFrame = put_call_frame s.frames (call_frame_index s.frames n) i new in
    let serials : flat_map value_serials s.maps ++ map serial_of fs ≡ live_serials s =
    ap (λ l. flat_map value_serials s.maps ++ l) put_in.2 in
    record {
      slot = k.slot;
      registers = k.registers;
      values = k.values;
      called = rw put_in.1 k.called;
      depth = rw put_in.1 k.depth;
      frames = put_in.0;
      short = k.short;
      packet = k.packet;
      interface = k.interface;
      queue = k.queue;
      maps = k.maps;
      given = rw serials k.given;
      once = rw serials k.once;
    }
IsState-put p s region.Packet i new room fit k =
    let long = length-map new byte_in in
    let lengths = length-map s.packet Byte in
    let same : length (splice s.packet i (i + length new) (map byte_in new)) ≡ length s.packet =
    subst (λ n. length (splice s.packet i (i + n) (map byte_in new)) ≡ length s.packet) long
    (length-splice s.packet (map byte_in new) i (omega arith)) in
    record {
      slot = k.slot;
      registers = k.registers;
      values = k.values;
      called = k.called;
      depth = k.depth;
      frames = k.frames;
      short = rw same k.short;
      packet = All-splice (λ b. b < 256) s.packet (map byte_in new) i (i + length new) k.packet
          (bytes_in_fit (length p.maps) s.next_serial new fit);
      interface = k.interface;
      queue = k.queue;
      maps = k.maps;
      given = k.given;
      once = k.once;
    }
IsState-put p s (region.MapValue m n) i new room fit k =
    let content = content_of s m in
    let bytes : List ℕ = map byte_in new in
    let long = length-map new byte_in in
    let there =
    value_room content n i (length bytes) (index_of_serial content n) refl (rw long room) in
    let bytes_fit = bytes_in_fit (length p.maps) s.next_serial new fit in
    let changed : Content = put_value content (index_of_serial content n) i bytes in
    let found : slice_index_or (map key_values_of s.maps) m [] ≡ key_values_of content =
    get_or-map_default key_values_of s.maps m [] in
    let serials : flat_map value_serials (slice_set s.maps m changed) ++ map serial_of s.frames
    ≡ live_serials s =
    ap (λ l. l ++ map serial_of s.frames)
    (flat_map-set_same value_serials s.maps m changed []
    (put_value_serials content (index_of_serial content n) i bytes)) in
    record {
      slot = k.slot;
      registers = k.registers;
      values = k.values;
      called = k.called;
      depth = k.depth;
      frames = k.frames;
      short = k.short;
      packet = k.packet;
      interface = k.interface;
      queue = k.queue;
      maps = subst (FitRows p.maps) (sym (map-set key_values_of s.maps m changed))
          (FitRows-set p.maps (map key_values_of s.maps) m (key_values_of changed) []
          (λ row h. put_value_fits row content (index_of_serial content n) i bytes there bytes_fit
          (subst (FitsRow row) found h)) k.maps);
      given = rw serials k.given;
      once = rw serials k.once;
    }
IsState-put p s region.Context i new room fit k = k
IsState-put p s region.PacketEnd i new room fit k = k
IsState-put p s (region.Map m) i new room fit k = k
