-- Laws of accesses to memory: the result of a load is a value, and stores and atomic instructions
-- lead to a state.
use Rattle.isa_model.proofs.Common.{◌≡◌, ℕ, zero, suc, ◌^◌, ◌<◌, ◌==◌, Bool, true, false, ℤ, pos, ◌+ℤ◌, List, [], ◌∷◌, map, drop, length, slice_index_or, All, Option, Some, None, Ok, Err, IfOk, subst, arith, refl, option_map, length-map, All-nil, All-get_or, All-take, All-drop, All-weaker, position-Some, Reg, Width, Size, U8, U16, U32, U64, Region, Value, Unset, Num, Ptr, Cell, Byte, CallFrame, MapDef, BadAccess, size_bytes, width_size, unsigned_size, size_extension, sign_extended, bytes_of, Program, Stored, Content, KeyValues, key_values_of, State, content_of, new_call_frame, call_frame_at, and_then, call_frame_index, index_of_serial, key_value_at, number_in, value_in, pieces, index_at, region_cells, place_of, cells_at, read, put, write, context_field, number_at, memory_load, load_from, load, load_number, load_signed, store_number, store_pointer, store, base_of, swaps_in, fetched_into, AreBytes, IsKeyValue, FitRows, IsOffset, IsRegion, IsValue, IsCell, IsCallFrame, IsState}
use Rattle.std.proofs.Math.ListN.{get_or-map as get_or-map_default}
use Rattle.isa_model.specs.declared.sizes.SignedSize.{SignedSize}
use Rattle.isa_model.specs.declared.instructions.Place.{Place}
use Rattle.isa_model.specs.declared.values.Region.TheVariants as region
use Rattle.isa_model.proofs.ExtensionLaws.{sign_extended_fits}
use Rattle.isa_model.proofs.ValueLaws.{IfOk-and_then, IfOk-if, Byte_cells_fit, number_in_fits, value_in_fits, pieces_fit, bytes_of_fit}
use Rattle.isa_model.proofs.StateLaws.{IsState-set_reg, HasCells, place_in_room, call_frame_room, IsState-put}

-- ---- loads

abbrev pub CellsFit : ℕ → ℕ → Option (List Cell) → Type 0
CellsFit count next (Some cells) = All (IsCell count next) cells
CellsFit count next None = Unit {0}

-- where a map value has the serial, the index is that of a key that is there
map_value_there : (content : Content) (n : ℕ) (j : ℕ) → index_of_serial content n ≡ Some j
    → j < length content
map_value_there content n j e =
    (position-Some (λ e. e.1.serial == n) content j ([], record { serial = 0; bytes = [] }) e).0

call_frame_cells_fit : (p : Program) (next : ℕ) (fs : List CallFrame) (o : Option ℕ)
    → ((j : ℕ) → o ≡ Some j → j < length fs) → All (IsCallFrame p next) fs
    → CellsFit (length p.maps) next (option_map (λ j. (call_frame_at fs j).cells) o)
call_frame_cells_fit p next fs None within h = tt
call_frame_cells_fit p next fs (Some j) within h =
    (All-get_or (IsCallFrame p next) fs j (new_call_frame 0 0 []) (within j refl) h).cells

-- the map values of a map that fits its row are bytes
contents_are_bytes : (rows : List MapDef) (contents : List KeyValues) (m : ℕ)
    → FitRows rows contents
    → All (λ e. AreBytes e.1) (slice_index_or contents m [])
contents_are_bytes [] [] m h = All-nil (λ e. AreBytes e.1)
contents_are_bytes [] (c ∷ contents) m h = absurd h
contents_are_bytes (row ∷ rows) [] m h = absurd h
contents_are_bytes (row ∷ rows) (c ∷ contents) zero h =
    All-weaker (IsKeyValue row) (λ e. AreBytes e.1) (λ e k. k.value) c h.0.key_values
contents_are_bytes (row ∷ rows) (c ∷ contents) (suc m) h = contents_are_bytes rows contents m h.1

map_value_cells_fit : (count next : ℕ) (content : Content) (o : Option ℕ)
    → ((j : ℕ) → o ≡ Some j → j < length content) → All (λ e. AreBytes e.1) (key_values_of content)
    → CellsFit count next (option_map (λ j. map Byte (key_value_at content j).1.bytes) o)
map_value_cells_fit count next content None within h = tt
map_value_cells_fit count next content (Some j) within h =
    let none : List ℕ × Stored = ([], record { serial = 0; bytes = [] }) in
    let long = length-map {B = List ℕ × List ℕ} content (λ e. (e.0, e.1.bytes)) in
    let here = within j refl in
    let found : slice_index_or (key_values_of content) j ([], [])
    ≡ ((key_value_at content j).0, (key_value_at content j).1.bytes) =
    get_or-map_default (λ e. (e.0, e.1.bytes)) content j none in
    let P : List ℕ × List ℕ → Type 0 = λ e. AreBytes e.1 in
    Byte_cells_fit count next (key_value_at content j).1.bytes
    (subst P found (All-get_or P (key_values_of content) j ([], []) (omega arith) h))

-- the cells of every live region fit
region_cells_fit : (p : Program) (s : State) (r : Region) → IsState p s
    → CellsFit (length p.maps) s.next_serial (region_cells s r)
region_cells_fit p s region.Packet k =
    Byte_cells_fit (length p.maps) s.next_serial s.packet k.packet
region_cells_fit p s (region.CallFrame n) k =
    call_frame_cells_fit p s.next_serial s.frames (call_frame_index s.frames n)
    (call_frame_room s.frames n) k.frames
region_cells_fit p s (region.MapValue m n) k =
    let content = content_of s m in
    let found : slice_index_or (map key_values_of s.maps) m [] ≡ key_values_of content =
    get_or-map_default key_values_of s.maps m [] in
    let P : KeyValues → Type 0 = All (λ e. AreBytes e.1) in
    map_value_cells_fit (length p.maps) s.next_serial content (index_of_serial content n)
    (map_value_there content n)
    (subst P found (contents_are_bytes p.maps (map key_values_of s.maps) m k.maps))
region_cells_fit p s region.Context k = tt
region_cells_fit p s region.PacketEnd k = tt
region_cells_fit p s (region.Map m) k = tt

cells_at_fit : (count next : ℕ) (cells : Option (List Cell)) (i n : ℕ) → CellsFit count next cells
    → All (IsCell count next) (cells_at cells i n)
cells_at_fit count next (Some cells) i n h =
    All-take (IsCell count next) n (drop i cells) (All-drop (IsCell count next) i cells h)
cells_at_fit count next None i n h = All-nil (IsCell count next)

pub read_fits : (p : Program) (s : State) (r : Region) (o : Option ℕ) (n : ℕ) → IsState p s
    → IfOk (read s r o n) (All (IsCell (length p.maps) s.next_serial))
read_fits p s r o n k =
    IfOk-and_then (λ i. HasCells (region_cells s r) i n)
    (All (IsCell (length p.maps) s.next_serial)) (place_of s r o n)
    (λ i. Ok (cells_at (region_cells s r) i n))
    (place_in_room (region_cells s r) o n)
    (λ i room. cells_at_fit (length p.maps) s.next_serial (region_cells s r) i n
    (region_cells_fit p s r k))

number_at_fits : (p : Program) (s : State) (r : Region) (o : Option ℕ) (n : ℕ) → IsState p s
    → IfOk (number_at s r o n) (λ a. a < 2 ^ 64)
number_at_fits p s r o n k =
    IfOk-and_then (All (IsCell (length p.maps) s.next_serial)) (λ a. a < 2 ^ 64)
    (read s r o n) number_in (read_fits p s r o n k)
    (λ cs h. number_in_fits (length p.maps) s.next_serial cs h)

memory_load_fits : (p : Program) (s : State) (size : Size) (r : Region) (o : Option ℕ) → IsState p s
    → IfOk (memory_load s size r o) (IsValue (length p.maps) s.next_serial)
memory_load_fits p s U64 r o k =
    IfOk-and_then (All (IsCell (length p.maps) s.next_serial))
    (IsValue (length p.maps) s.next_serial) (read s r o 8) value_in (read_fits p s r o 8 k)
    (λ cs h. value_in_fits (length p.maps) s.next_serial cs h)
memory_load_fits p s U8 r o k =
    IfOk-and_then (λ a. a < 2 ^ 64) (IsValue (length p.maps) s.next_serial) (number_at s r o 1)
    (λ n. Ok (Num n)) (number_at_fits p s r o 1 k) (λ a h. h)
memory_load_fits p s U16 r o k =
    IfOk-and_then (λ a. a < 2 ^ 64) (IsValue (length p.maps) s.next_serial) (number_at s r o 2)
    (λ n. Ok (Num n)) (number_at_fits p s r o 2 k) (λ a h. h)
memory_load_fits p s U32 r o k =
    IfOk-and_then (λ a. a < 2 ^ 64) (IsValue (length p.maps) s.next_serial) (number_at s r o 4)
    (λ n. Ok (Num n)) (number_at_fits p s r o 4 k) (λ a h. h)

context_field_fits : (p : Program) (s : State) (o : Option ℕ) → IsState p s
    → IfOk (context_field s o) (IsValue (length p.maps) s.next_serial)
context_field_fits p s None k = tt
context_field_fits p s (Some i) k =
    let interface = k.interface in
    let queue = k.queue in
    let V : Value → Type 0 = IsValue (length p.maps) s.next_serial in
    IfOk-if V (i == 0) (Ok (Ptr region.Packet (pos 0))) _ (λ e. (tt, omega arith))
    (λ e. IfOk-if V (i == 4) (Ok (Ptr region.PacketEnd (pos 0))) _ (λ e. (tt, omega arith))
    (λ e. IfOk-if V (i == 12) (Ok (Num s.interface)) _ (λ e. omega arith)
    (λ e. IfOk-if V (i == 16) (Ok (Num s.queue)) (Err BadAccess) (λ e. omega arith) (λ e. tt))))

load_from_fits : (p : Program) (s : State) (size : Size) (r : Region) (o : Option ℕ) → IsState p s
    → IfOk (load_from s size r o) (IsValue (length p.maps) s.next_serial)
load_from_fits p s U8 region.Context o k = tt
load_from_fits p s U16 region.Context o k = tt
load_from_fits p s U32 region.Context o k = context_field_fits p s o k
load_from_fits p s U64 region.Context o k = tt
load_from_fits p s size region.Packet o k = memory_load_fits p s size region.Packet o k
load_from_fits p s size region.PacketEnd o k = memory_load_fits p s size region.PacketEnd o k
load_from_fits p s size (region.Map m) o k = memory_load_fits p s size (region.Map m) o k
load_from_fits p s size (region.CallFrame n) o k =
    memory_load_fits p s size (region.CallFrame n) o k
load_from_fits p s size (region.MapValue m n) o k =
    memory_load_fits p s size (region.MapValue m n) o k

-- the result of a load is a value
pub load_fits : (p : Program) (s : State) (size : Size) (v : Value) (by : ℤ) → IsState p s
    → IfOk (load s size v by) (IsValue (length p.maps) s.next_serial)
load_fits p s size (Ptr r z) by k = load_from_fits p s size r (index_at r (z +ℤ by)) k
load_fits p s size (Num n) by k = tt
load_fits p s size Unset by k = tt

pub load_number_fits : (p : Program) (s : State) (size : Size) (v : Value) (by : ℤ) → IsState p s
    → IfOk (load_number s size v by) (λ n. n < 2 ^ 64)
load_number_fits p s size (Ptr r z) by k =
    number_at_fits p s r (index_at r (z +ℤ by)) (size_bytes size) k
load_number_fits p s size (Num n) by k = tt
load_number_fits p s size Unset by k = tt

pub load_signed_fits : (p : Program) (s : State) (size : SignedSize) (v : Value) (by : ℤ)
    → IsState p s
    → IfOk (load_signed s size v by) (IsValue (length p.maps) s.next_serial)
load_signed_fits p s size v by k =
    IfOk-and_then (λ n. n < 2 ^ 64) (IsValue (length p.maps) s.next_serial)
    (load_number s (unsigned_size size) v by)
    (λ n. Ok (Num (sign_extended (size_extension size) n)))
    (load_number_fits p s (unsigned_size size) v by k)
    (λ n h. sign_extended_fits (size_extension size) n)

-- ---- stores

pub write_keeps : (p : Program) (s : State) (r : Region) (o : Option ℕ) (new : List Cell)
    → All (IsCell (length p.maps) s.next_serial) new → IsState p s
    → IfOk (write s r o new) (IsState p)
write_keeps p s r o new fit k =
    IfOk-and_then (λ i. HasCells (region_cells s r) i (length new)) (IsState p)
    (place_of s r o (length new)) (λ i. Ok (put s r i new))
    (place_in_room (region_cells s r) o (length new)) (λ i room. IsState-put p s r i new room fit k)

pub store_number_keeps : (p : Program) (s : State) (size : Size) (v : Value) (by : ℤ) (n : ℕ)
    → IsState p s → IfOk (store_number s size v by n) (IsState p)
store_number_keeps p s size (Ptr r z) by n k =
    write_keeps p s r (index_at r (z +ℤ by)) (map Byte (bytes_of size n))
    (Byte_cells_fit (length p.maps) s.next_serial (bytes_of size n) (bytes_of_fit size n)) k
store_number_keeps p s size (Num m) by n k = tt
store_number_keeps p s size Unset by n k = tt

store_pointer_keeps : (p : Program) (s : State) (size : Size) (v : Value) (by : ℤ) (q : Region)
    (y : ℤ)
    → IsRegion (length p.maps) s.next_serial q → IsOffset y → IsState p s
    → IfOk (store_pointer s size v by q y) (IsState p)
store_pointer_keeps p s U64 (Ptr (region.CallFrame n) z) by q y h l k =
    write_keeps p s (region.CallFrame n) (index_at (region.CallFrame n) (z +ℤ by)) (pieces q y)
    (pieces_fit (length p.maps) s.next_serial q y h l) k
store_pointer_keeps p s U64 (Ptr region.Context z) by q y h l k = tt
store_pointer_keeps p s U64 (Ptr region.Packet z) by q y h l k = tt
store_pointer_keeps p s U64 (Ptr region.PacketEnd z) by q y h l k = tt
store_pointer_keeps p s U64 (Ptr (region.Map m) z) by q y h l k = tt
store_pointer_keeps p s U64 (Ptr (region.MapValue m n) z) by q y h l k = tt
store_pointer_keeps p s U64 (Num n) by q y h l k = tt
store_pointer_keeps p s U64 Unset by q y h l k = tt
store_pointer_keeps p s U8 v by q y h l k = tt
store_pointer_keeps p s U16 v by q y h l k = tt
store_pointer_keeps p s U32 v by q y h l k = tt

-- a store of a value
pub store_keeps : (p : Program) (s : State) (size : Size) (base : Value) (by : ℤ) (v : Value)
    → IsValue (length p.maps) s.next_serial v → IsState p s
    → IfOk (store s size base by v) (IsState p)
store_keeps p s size base by (Num n) h k = store_number_keeps p s size base by n k
store_keeps p s size base by (Ptr q y) h k = store_pointer_keeps p s size base by q y h.0 h.1 k
store_keeps p s size base by Unset h k = tt

-- ---- atomic instructions

fetched_into_keeps : (p : Program) (s : State) (fetched : Bool) (r : Reg) (old : ℕ) → old < 2 ^ 64
    → IsState p s → IsState p (fetched_into fetched r old s)
fetched_into_keeps p s true r old h k = IsState-set_reg p s r (Num old) h k
fetched_into_keeps p s false r old h k = k

pub swaps_in_keeps : (p : Program) (s : State) (w : Width) (place : Place) (new : ℕ → ℕ)
    (fetched : Bool) (r : Reg) → IsState p s
    → IfOk (swaps_in s w place new (fetched_into fetched r)) (IsState p)
swaps_in_keeps p s w place new fetched r k =
    let size = width_size w in
    let base = base_of s place in
    IfOk-and_then (λ n. n < 2 ^ 64) (IsState p) (load_number s size base place.offset)
    (λ old. and_then (store_number s size base place.offset (new old))
    (λ t. Ok (fetched_into fetched r old t)))
    (load_number_fits p s size base place.offset k)
    (λ old h. IfOk-and_then (IsState p) (IsState p)
    (store_number s size base place.offset (new old)) (λ t. Ok (fetched_into fetched r old t))
    (store_number_keeps p s size base place.offset (new old) k)
    (λ t j. fetched_into_keeps p t fetched r old h j))
