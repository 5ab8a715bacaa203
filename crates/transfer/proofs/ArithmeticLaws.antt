-- The kinds that arithmetic computes in a state allow what the machine computes, under some
-- assignment of identities.
use Rattle.transfer.proofs.Common.{◌≡◌, ℕ, ℤ, Bool, true, false, length, Ok, refl, Width, Low32, Full64, Mov, Add, Sub, Value, alu, low, moved_to, moved, combined, arithmetic, is_unset, IsValue, Program, Scalar, Kind, Number, Stack, Packet, MapValue, Has, Assigned, Allows, AllowsMapValue, State, MeansBy, packet_pointer, IsLowNumber, OfNumber, moved_offset, MovesPointer, PointerAndNumber, NumberAndPointer, NumberAnd, PointerAnd, Combined, Copied, Arithmetic}
use Rattle.isa_model.specs.declared.instructions.AluOp.{AluOp}
use Rattle.isa_model.specs.declared.values.Region.TheVariants as region
use Rattle.isa_model.specs.declared.values.Value.TheVariants as value
use Rattle.isa_model.specs.Code.NumberLaws.{low_same}
use Rattle.isa_model.specs.Machine.States as Machine
use Rattle.transfer.proofs.ResultLaws.{Yields, YieldsUnder, frame_moves}
use Rattle.transfer.proofs.PacketMoveLaws.{packet_plus_yields, packet_minus_yields, number_plus_packet_yields}
use Rattle.transfer.proofs.ValuePointerLaws.{value_moves_yields}

-- ---- pointers

stack_moves_yields : (p : Program) (e : Assigned) (a : State) (s : Machine.State) (back : Bool)
    (frame : ℕ) (offset : ℤ) (by : Scalar) (k : Kind) (x : ℕ) (v : Value)
    → MeansBy p e a s → MovesPointer a back (Stack frame offset) by (Ok k) → Has by x
    → Allows e (Stack frame offset) v → (n : ℕ) × (v ≡ value.Ptr (region.CallFrame n) offset)
    × YieldsUnder p a s k (moved_to (region.CallFrame n) (moved_offset back offset x))
stack_moves_yields p e a s back frame offset by k x v m h member allowed =
    let (n, found, is) = allowed in
    let (o, only, left) = h in
    (n, is, (e, m, frame_moves e back frame offset by k x n o only member left found))

value_moves_under : (p : Program) (e : Assigned) (a : State) (s : Machine.State) (back : Bool)
    (m : ℕ) (least greatest : ℤ) (by : Scalar) (k : Kind) (x : ℕ) (v : Value)
    → MeansBy p e a s → MovesPointer a back (MapValue m least greatest) by (Ok k) → Has by x
    → (h : AllowsMapValue e m least greatest v)
    → YieldsUnder p a s k (moved_to (region.MapValue m h.serial) (moved_offset back h.offset x))
value_moves_under p e a s back m least greatest by k x v means (o, only, moves) member allowed =
    (e, means, value_moves_yields e back m least greatest by o k x v only moves member allowed)

-- pointer and number
pub pointer_and_number_yields : (p : Program) (e : Assigned) (a : State) (s : Machine.State)
    (op : AluOp) (w : Width) (pointer : Kind) (by : Scalar) (k : Kind) (x : ℕ) (v : Value)
    → MeansBy p e a s → PointerAndNumber a op w pointer by (Ok k) → Has by x → Allows e pointer v
    → YieldsUnder p a s k (combined op w v (value.Num x))
pointer_and_number_yields p e a s Add Full64 (Stack frame offset) by k x v m h member allowed =
    let (n, is, yields) =
    stack_moves_yields p e a s false frame offset by k x v m h member allowed in
    rw is yields
pointer_and_number_yields p e a s Sub Full64 (Stack frame offset) by k x v m h member allowed =
    let (n, is, yields) =
    stack_moves_yields p e a s true frame offset by k x v m h member allowed in
    rw is yields
pointer_and_number_yields p e a s Add Full64
    (Packet fixed identity least greatest proved) by k x v m h member allowed =
    packet_plus_yields p e a s
    (packet_pointer fixed identity least greatest proved) by k x v h member allowed m
pointer_and_number_yields p e a s Sub Full64
    (Packet fixed identity least greatest proved) by k x v m h member allowed =
    packet_minus_yields p e a s
    (packet_pointer fixed identity least greatest proved) by k x v h member allowed m
pointer_and_number_yields p e a s Add Full64
    (MapValue j least greatest) by k x v m h member allowed =
    rw allowed.points (value_moves_under p e a s false j least greatest by k x v m h member allowed)
pointer_and_number_yields p e a s Sub Full64
    (MapValue j least greatest) by k x v m h member allowed =
    rw allowed.points (value_moves_under p e a s true j least greatest by k x v m h member allowed)
pointer_and_number_yields p e a s Add Full64 pointer by k x v m h member allowed = absurd (cc)
pointer_and_number_yields p e a s Sub Full64 pointer by k x v m h member allowed = absurd (cc)
pointer_and_number_yields p e a s op w pointer by k x v m h member allowed = absurd (cc)

-- number and pointer
pub number_and_pointer_yields : (p : Program) (e : Assigned) (a : State) (s : Machine.State)
    (op : AluOp) (w : Width) (by : Scalar) (pointer k : Kind) (x : ℕ) (v : Value)
    → MeansBy p e a s → NumberAndPointer a op w by pointer (Ok k) → Has by x → Allows e pointer v
    → YieldsUnder p a s k (combined op w (value.Num x) v)
number_and_pointer_yields p e a s Add Full64 by (Stack frame offset) k x v m h member allowed =
    let (n, is, yields) =
    stack_moves_yields p e a s false frame offset by k x v m h member allowed in
    rw is yields
number_and_pointer_yields p e a s Add Full64 by
    (Packet fixed identity least greatest proved) k x v m h member allowed =
    number_plus_packet_yields p e a s
    (packet_pointer fixed identity least greatest proved) by k x v h member allowed m
number_and_pointer_yields p e a s Add Full64 by
    (MapValue j least greatest) k x v m h member allowed =
    rw allowed.points (value_moves_under p e a s false j least greatest by k x v m h member allowed)
number_and_pointer_yields p e a s Add Full64 by pointer k x v m h member allowed = absurd (cc)
number_and_pointer_yields p e a s op w by pointer k x v m h member allowed = absurd (cc)

-- ---- arithmetic

number_and_yields : (p : Program) (e : Assigned) (a : State) (s : Machine.State) (op : AluOp)
    (w : Width) (b : Scalar) (c k : Kind) (x : ℕ) (v : Value)
    → MeansBy p e a s → NumberAnd a op w b c (Ok k) → Has b x → Allows e c v
    → YieldsUnder p a s k (combined op w (value.Num x) v)
number_and_yields p e a s op w b (Number c) (Number k) x v m h member allowed =
    let (y, is, other) = allowed in
    rw is ((e, m, (alu op w x y, refl, h.contains x y member other)))
number_and_yields p e a s op w b (Number c) k x v m h member allowed = absurd h
number_and_yields p e a s op w b c k x v m h member allowed =
    number_and_pointer_yields p e a s op w b c k x v m h member allowed

pointer_and_yields : (p : Program) (e : Assigned) (a : State) (s : Machine.State) (op : AluOp)
    (w : Width) (b c k : Kind) (u v : Value)
    → MeansBy p e a s → PointerAnd a op w b c (Ok k) → Allows e b u → Allows e c v
    → YieldsUnder p a s k (combined op w u v)
pointer_and_yields p e a s op w b (Number c) k u v m h left right =
    let (y, is, member) = right in
    rw is (pointer_and_number_yields p e a s op w b c k y u m h member left)
pointer_and_yields p e a s op w b c k u v m h left right = absurd (cc)

combined_yields : (p : Program) (e : Assigned) (a : State) (s : Machine.State) (op : AluOp)
    (w : Width) (b c k : Kind) (u v : Value)
    → MeansBy p e a s → Combined a op w b c (Ok k) → Allows e b u → Allows e c v
    → YieldsUnder p a s k (combined op w u v)
combined_yields p e a s op w (Number b) c k u v m h left right =
    let (x, is, member) = left in
    rw is (number_and_yields p e a s op w b c k x v m h member right)
combined_yields p e a s op w b c k u v m h left right =
    pointer_and_yields p e a s op w b c k u v m h left right

copied_whole : (e : Assigned) (count next : ℕ) (b : Kind) (v : Value) → IsValue count next v
    → is_unset v ≡ false → Allows e b v → Yields e b (moved Full64 v)
copied_whole e count next b value.Unset fits set allowed = absurd (cc)
copied_whole e count next b (value.Num n) fits set allowed = rw (low_same Full64 n fits) allowed
copied_whole e count next b (value.Ptr r z) fits set allowed = allowed

-- MOV at 32 bits computes the low half
low_number_has : (a c : Scalar) (x : ℕ) → IsLowNumber a c → Has a x → Has c (low Low32 x)
unfolding alu
low_number_has a c x h member = h.contains x x member member

low_copied : (e : Assigned) (b k : Kind) (v : Value) → OfNumber IsLowNumber b (Ok k) → Allows e b v
    → Yields e k (moved Low32 v)
low_copied e (Number a) (Number c) v h allowed =
    let (x, is, member) = allowed in
    rw is (low Low32 x, refl, low_number_has a c x h member)
low_copied e (Number a) k v h allowed = absurd h
low_copied e b k v h allowed = absurd (cc)

copied_yields : (e : Assigned) (count next : ℕ) (w : Width) (b k : Kind) (v : Value)
    → Copied w b (Ok k)
    → IsValue count next v → is_unset v ≡ false → Allows e b v → Yields e k (moved w v)
copied_yields e count next Full64 b k v h fits set allowed =
    let same : k ≡ b = cc in
    rw same (copied_whole e count next b v fits set allowed)
copied_yields e count next Low32 b k v h fits set allowed = low_copied e b k v h allowed

pub arithmetic_yields : (p : Program) (e : Assigned) (a : State) (s : Machine.State) (op : AluOp)
    (w : Width) (b c k : Kind) (u v : Value)
    → MeansBy p e a s → Arithmetic a op w b c (Ok k) → IsValue (length p.maps) s.next_serial v
    → is_unset v ≡ false → Allows e b u → Allows e c v → YieldsUnder p a s k (arithmetic op w u v)
arithmetic_yields p e a s Mov w b c k u v m h fits set left right =
    (e, m, copied_yields e (length p.maps) s.next_serial w c k v h fits set right)
arithmetic_yields p e a s op w b c k u v m h fits set left right =
    combined_yields p e a s op w b c k u v m h left right
