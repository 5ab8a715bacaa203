-- Through the context and packet pointers: what the machine loads and stores is allowed by the kind
-- that the step computes.
use Rattle.transfer.proofs.Common.{◌≡◌, ℕ, ◌+◌, ◌-◌, ◌*◌, ◌%◌, ◌^◌, ◌<◌, ◌≤◌, ℤ, pos, negsuc, ◌+ℤ◌, ◌≤ℤ◌, FitsSigned, nat_le, true, List, map, take, drop, length, Some, Ok, inl, inr, sym, ◌∙◌, subst, arith, refl, splice, le-leb, ints, to_z-of_z, length-map, length-take-le, length-drop, Size, U8, U16, U32, U64, SignedSize, Value, Num, Ptr, Cell, Byte, Program, bytes_of, number_from, sign_extended, size_bytes, unsigned_size, size_extension, byte_in, index_from, load, load_number, load_signed, store, IsState, number_in-Byte, value_in-Byte, take-drop-Byte, slice_index_fits, length-splice, Scalar, Kind, Number, Context, Packet, MapValueOrNull, Has, Assigned, Allows, AllowsPacket, State, length-bytes_of, number_from_below, AssignmentFits, MeansBy, IfLeft, IsNumber32, AreInPacket, IsOfSize, IsOfSignedSize, IsNumberOf, PacketLoads, PacketLoadsSigned, PacketStores}
use Rattle.std.specs.Int.{w8, w16, w32, w64, cast_signed, cast_unsigned}
use Rattle.std.proofs.Math.Facts.{sfits_to_z}
use Rattle.isa_model.specs.declared.sizes.SignedSize.TheVariants.{S8, S16, S32}
use Rattle.isa_model.specs.declared.values.Region.TheVariants as region
use Rattle.isa_model.proofs.LittleEndianLaws.{EachByte-take, EachByte-drop}
use Rattle.isa_model.proofs.ExtensionLaws.{sign_extended_fits}
use Rattle.isa_model.specs.Machine.States as Machine
use Rattle.ranges.specs.Keeps.{extension_signed}
use Rattle.stack_state.proofs.PacketEffects.{MeansBy-packet}
use Rattle.transfer.proofs.ResultLaws.{Yields}
use Rattle.transfer.specs.ContextLoads.{packet_start, IsField, IsFieldKind, ContextLoads}

-- ---- the context

number32_allowed : (e : Assigned) (k : Kind) (n : ℕ) → IsNumber32 k → n < 2 ^ 32
    → Allows e k (Num n)
number32_allowed e (Number c) n h small = (n, refl, (h n).1 small)
number32_allowed e k n h small = absurd h

-- the pointer to the packet's first byte
start_allowed : (e : Assigned) → e.offset 0 ≡ pos 0
    → Allows e packet_start (Ptr region.Packet (pos 0))
start_allowed e none = record {
  points = rw none refl;
  from = omega (arith, ints, none);
  to = omega (arith, ints, none);
  inside = λ some. absurd (omega arith);
}

field_yields : (e : Assigned) (s : Machine.State) (by : ℤ) (k : Kind) → IsFieldKind by k
    → IsField by → e.offset 0 ≡ pos 0 → s.interface < 2 ^ 32 → s.queue < 2 ^ 32
    → Yields e k (load s U32 (Ptr region.Context (pos 0)) by)
field_yields e s by k h (inl at) none interface queue = rw (h.packet at, at) (start_allowed e none)
field_yields e s by k h (inr (inl at)) none interface queue = rw (h.packet_end at, at) refl
field_yields e s by k h (inr (inr (inl at))) none interface queue =
    rw at (number32_allowed e k s.interface (h.interface at) interface)
field_yields e s by k h (inr (inr (inr at))) none interface queue =
    rw at (number32_allowed e k s.queue (h.queue at) queue)

pub context_load_yields : (e : Assigned) (s : Machine.State) (size : Size) (by : ℤ) (k : Kind)
    (v : Value) → ContextLoads size by (Ok k)
    → AssignmentFits e s → s.interface < 2 ^ 32 → s.queue < 2 ^ 32 → Allows e Context v
    → Yields e k (load s size v by)
context_load_yields e s U32 by k v h of interface queue allowed =
    rw allowed (field_yields e s by k h h.field of.none interface queue)
context_load_yields e s size by k v h of interface queue allowed = absurd (cc h)

-- ---- places in the packet

-- the bytes from an offset on
pub place_from : (z : ℤ) (n m : ℕ) → pos 0 ≤ℤ z → (z +ℤ pos n) ≤ℤ pos m
    → (i : ℕ) × (index_from z ≡ Some i) × (i + n ≤ m)
place_from (pos i) n m from to = (i, refl, omega (arith, ints))
place_from (negsuc i) n m from to = absurd (omega (arith, ints))

-- bytes that are known to be in the packet are there
pub packet_place : (e : Assigned) (s : Machine.State) (fixed least greatest : ℤ)
    (identity proved count : ℕ) (by : ℤ) (v : Value) → AssignmentFits e s
    → AreInPacket fixed least proved by count
    → AllowsPacket e fixed identity least greatest proved v
    → (i : ℕ) × (index_from ((fixed +ℤ e.offset identity) +ℤ by) ≡ Some i)
    × (i + count ≤ length s.packet)
packet_place e s fixed least greatest identity proved count by v of h allowed =
    let off : ℤ = e.offset identity in
    let low = h.from in
    let high = h.to in
    let from = allowed.from in
    let there : (off +ℤ pos proved) ≤ℤ pos e.packet_length = allowed.inside h.some in
    let same = of.length_is in
    place_from ((fixed +ℤ off) +ℤ by) count (length s.packet) (omega (arith, ints))
    (omega (arith, ints))

-- ---- loads from the packet

abbrev pub bytes_at : Machine.State → ℕ → ℕ → List ℕ
bytes_at s i n = take n (drop i s.packet)

packet_number : (s : Machine.State) (size : Size) (z by : ℤ) (i : ℕ) → index_from (z +ℤ by) ≡ Some i
    → i + size_bytes size ≤ length s.packet → load_number s size (Ptr region.Packet z) by
    ≡ Ok (number_from (bytes_at s i (size_bytes size)))
packet_number s size z by i found inside =
    let long : length (map Byte s.packet) ≡ length s.packet = length-map s.packet Byte in
    let yes : nat_le (i + size_bytes size) (length (map Byte s.packet)) ≡ true =
    le-leb (i + size_bytes size) (length (map Byte s.packet)) (omega arith) in
    rw (found, yes, take-drop-Byte s.packet i (size_bytes size))
    (number_in-Byte (bytes_at s i (size_bytes size)))

packet_value : (s : Machine.State) (z by : ℤ) (i : ℕ) → index_from (z +ℤ by) ≡ Some i
    → i + 8 ≤ length s.packet
    → load s U64 (Ptr region.Packet z) by ≡ Ok (Num (number_from (bytes_at s i 8)))
packet_value s z by i found inside =
    let long : length (map Byte s.packet) ≡ length s.packet = length-map s.packet Byte in
    let yes : nat_le (i + 8) (length (map Byte s.packet)) ≡ true =
    le-leb (i + 8) (length (map Byte s.packet)) (omega arith) in
    rw (found, yes, take-drop-Byte s.packet i 8) (value_in-Byte (bytes_at s i 8))

packet_load : (s : Machine.State) (size : Size) (z by : ℤ) (i : ℕ) → index_from (z +ℤ by) ≡ Some i
    → i + size_bytes size ≤ length s.packet
    → load s size (Ptr region.Packet z) by ≡ Ok (Num (number_from (bytes_at s i (size_bytes size))))
packet_load s U64 z by i found inside = packet_value s z by i found inside
packet_load s U8 z by i found inside = rw (packet_number s U8 z by i found inside)
packet_load s U16 z by i found inside = rw (packet_number s U16 z by i found inside)
packet_load s U32 z by i found inside = rw (packet_number s U32 z by i found inside)

-- a number of that many bytes
packet_number_below : (p : Program) (s : Machine.State) (size : Size) (i : ℕ) → IsState p s
    → i + size_bytes size ≤ length s.packet
    → number_from (bytes_at s i (size_bytes size)) < 2 ^ (8 * size_bytes size)
packet_number_below p s size i is inside =
    let dropped : length (drop i s.packet) ≡ length s.packet - i = length-drop i s.packet in
    let long : length (bytes_at s i (size_bytes size)) ≡ size_bytes size =
    length-take-le (size_bytes size) (drop i s.packet) (omega arith) in
    number_from_below size (bytes_at s i (size_bytes size)) long
    (EachByte-take (size_bytes size) (drop i s.packet)
    (EachByte-drop i s.packet (slice_index_fits s.packet is.packet)))

pub number_yields : (e : Assigned) (says : Scalar → Type 0) (k : Kind) (x : ℕ)
    → ((c : Scalar) → says c → Has c x) → IsNumberOf says k → Allows e k (Num x)
number_yields e says (Number c) x each h = (x, refl, each c h)
number_yields e says k x each h = absurd h

pub packet_load_yields : (p : Program) (e : Assigned) (s : Machine.State) (size : Size)
    (fixed least greatest : ℤ) (identity proved : ℕ)
    (by : ℤ) (k : Kind) (v : Value) → IsState p s → AssignmentFits e s
    → PacketLoads size fixed least proved by (Ok k)
    → Allows e (Packet fixed identity least greatest proved) v → Yields e k (load s size v by)
packet_load_yields p e s size fixed least greatest identity proved by k v is of
    (inside, number) allowed =
    let (i, found, room) =
    packet_place e s fixed least greatest identity proved
    (size_bytes size) by v of inside allowed in
    let x : ℕ = number_from (bytes_at s i (size_bytes size)) in
    rw (allowed.points, packet_load s size (fixed +ℤ e.offset identity) by i found room)
    (number_yields e (IsOfSize size) k x
    (λ c h. (h.members x).1 (packet_number_below p s size i is room)) number)

-- read back, what was extended is the number with its sign
back_8 : (z : ℤ) → FitsSigned w8 z → FitsSigned w8 (cast_signed w64 (cast_unsigned w64 z))
back_8 z f =
    let wide : FitsSigned w64 z = record { sfits = let s = f.sfits in omega arith } in
    rw (to_z-of_z w64 z wide) f

back_16 : (z : ℤ) → FitsSigned w16 z → FitsSigned w16 (cast_signed w64 (cast_unsigned w64 z))
back_16 z f =
    let wide : FitsSigned w64 z = record { sfits = let s = f.sfits in omega arith } in
    rw (to_z-of_z w64 z wide) f

back_32 : (z : ℤ) → FitsSigned w32 z → FitsSigned w32 (cast_signed w64 (cast_unsigned w64 z))
back_32 z f =
    let wide : FitsSigned w64 z = record { sfits = let s = f.sfits in omega arith } in
    rw (to_z-of_z w64 z wide) f

pub extended_fits : (size : SignedSize) (n : ℕ)
    → FitsSigned (extension_signed (size_extension size))
    (cast_signed w64 (sign_extended (size_extension size) n))
unfolding sign_extended
extended_fits S8 n =
    back_8 (cast_signed w8 (n % 2 ^ 8))
    (sfits_to_z {w = w8} {n = n % 2 ^ 8} (record { fits = omega arith }))
extended_fits S16 n =
    back_16 (cast_signed w16 (n % 2 ^ 16))
    (sfits_to_z {w = w16} {n = n % 2 ^ 16} (record { fits = omega arith }))
extended_fits S32 n =
    back_32 (cast_signed w32 (n % 2 ^ 32))
    (sfits_to_z {w = w32} {n = n % 2 ^ 32} (record { fits = omega arith }))

pub packet_load_signed_yields : (p : Program) (e : Assigned) (s : Machine.State) (size : SignedSize)
    (fixed least greatest : ℤ)
    (identity proved : ℕ) (by : ℤ) (k : Kind) (v : Value) → IsState p s → AssignmentFits e s
    → PacketLoadsSigned size fixed least proved by (Ok k)
    → Allows e (Packet fixed identity least greatest proved) v
    → Yields e k (load_signed s size v by)
packet_load_signed_yields p e s size fixed least greatest identity proved by k v is of
    (inside, number) allowed =
    let count : ℕ = size_bytes (unsigned_size size) in
    let (i, found, room) =
    packet_place e s fixed least greatest identity proved count by v of inside allowed in
    let x : ℕ = sign_extended (size_extension size) (number_from (bytes_at s i count)) in
    rw (
      allowed.points,
      packet_number s (unsigned_size size) (fixed +ℤ e.offset identity) by i found room,
    )
    (number_yields e (IsOfSignedSize size) k x
    (λ c h. (h.members x).1 (
      sign_extended_fits (size_extension size) (number_from (bytes_at s i count)),
      extended_fits size (number_from (bytes_at s i count)),
    )) number)

-- ---- stores into the packet

-- a number's bytes go where they are known to be in the packet
pub packet_stored : (p : Program) (e : Assigned) (a : State) (s : Machine.State) (size : Size)
    (fixed least greatest : ℤ) (identity proved : ℕ)
    (by : ℤ) (n : ℕ) (v : Value) → AreInPacket fixed least proved by (size_bytes size)
    → Allows e (Packet fixed identity least greatest proved) v
    → MeansBy p e a s → IfLeft p e a (store s size v by (Num n))
packet_stored p e a s size fixed least greatest identity proved by n v inside allowed m =
    let (i, found, room) =
    packet_place e s fixed least greatest identity proved
    (size_bytes size) by v m.assigned inside allowed in
    let new : List Cell = map Byte (bytes_of size n) in
    let as_many : length new ≡ size_bytes size = length-map (bytes_of size n) Byte
    ∙ length-bytes_of size n in
    let long : length (map Byte s.packet) ≡ length s.packet = length-map s.packet Byte in
    let yes : nat_le (i + length new) (length (map Byte s.packet)) ≡ true =
    le-leb (i + length new) (length (map Byte s.packet)) (omega arith) in
    let bytes : List ℕ = splice s.packet i (i + length new) (map byte_in new) in
    let short : length (map byte_in new) ≡ length new = length-map new byte_in in
    let same : length bytes ≡ length s.packet =
    subst (λ k. length (splice s.packet i (i + k) (map byte_in new)) ≡ length s.packet) short
    (length-splice s.packet (map byte_in new) i (omega arith)) in
    let went : store s size (Ptr region.Packet (fixed +ℤ e.offset identity)) by (Num n)
    ≡ Ok (record s { packet = bytes }) = rw (found, yes) in (
      record s { packet = bytes },
      subst (λ u. store s size u by (Num n) ≡ Ok (record s { packet = bytes }))
          (sym allowed.points) went,
      λ is. MeansBy-packet p e a s bytes same is m,
    )

-- what is not refused is a number, and is stored
pub packet_store_leaves : (p : Program) (e : Assigned) (a : State) (s : Machine.State) (size : Size)
    (fixed least greatest : ℤ)
    (identity proved : ℕ) (by : ℤ) (source : Kind) (v w : Value)
    → PacketStores size fixed least proved by source (Ok tt)
    → Allows e (Packet fixed identity least greatest proved) v → Allows e source w → MeansBy p e a s
    → IfLeft p e a (store s size v by w)
packet_store_leaves p e a s size fixed least greatest identity proved by (Number c) v w
    (inl h) allowed (n, is, has) m =
    rw is (packet_stored p e a s size fixed least greatest identity proved by n v h.0 allowed m)
packet_store_leaves p e a s size fixed least greatest identity proved by (MapValueOrNull j i) v w
    (inl h) allowed other m = absurd (cc (h.1))
packet_store_leaves p e a s size fixed least greatest identity proved by k v w
    (inl h) allowed other m = absurd (cc (h.1))
packet_store_leaves p e a s size fixed least greatest identity proved by k v w
    (inr h) allowed other m = absurd (cc (h.1))
