-- The kinds that loads through frame pointers return allow the machine's values, and the states
-- that stores leave mean its next state.
use Rattle.transfer.proofs.Common.{◌≡◌, ◌≢◌, ℕ, suc, ◌*◌, ◌/◌, ◌==◌, ℤ, ◌+ℤ◌, Bool, true, false, if◌then◌else◌, length, slice_get, Option, Some, None, Result, Ok, Err, IfOk, sym, subst, arith, refl, Size, U8, U16, U32, U64, SignedSize, Value, TrapReason, size_bytes, unsigned_size, size_extension, sign_extended, Program, and_then, as_number, load, load_number, load_signed, store, IsState, IsValue, store_keeps, Scalar, Kind, Unset, Number, Context, Stack, Packet, PacketEnd, Map, MapValue, MapValueOrNull, Has, Assigned, Allows, AllowsOrNull, State, depth, stack_slots_of, MeansBy, slot_at, IsLoad, IsFill, LoadsNumber, LoadsSlot, IfLeft, MeansBy-loads, MeansBy-fills, MeansBy-stores, MeansBy-spills, IsNumberKind, Refusal, NullNotTested, PointerStored, IsFramePlace, IsNumberLoad, IsStackLoad, IsSignedLoad, StackLoads, StackLoadsSigned, whole_or, store_refusal, IsLeft, StackStores}
use Rattle.isa_model.specs.declared.values.Region.TheVariants as region
use Rattle.isa_model.specs.declared.values.Value.TheVariants as value
use Rattle.isa_model.specs.Machine.States as Machine
use Rattle.stack_state.proofs.StackLaws.{loads}
use Rattle.stack_state.proofs.FillLaws.{fills}
use Rattle.stack_state.proofs.FrameLaws.{IsHere}
use Rattle.stack_state.proofs.NumberStoreEffects.{MeansBy-stores_number}
use Rattle.stack_state.specs.FramePlaces.{IsStoredIn, IsSpilledIn}
use Rattle.stack_state.specs.NumberStores.{IsNumberStoredIn}
use Rattle.stack_state.proofs.FramePlaceLaws.{place_below, place_in_slot, place_whole, IsHere-place}
use Rattle.transfer.proofs.ResultLaws.{Yields}

-- ---- loads

-- a load of bytes that are known to be number bytes returns a number
pub number_read : (p : Program) (e : Assigned) (a : State) (s : Machine.State) (frame at serial : ℕ)
    (z by : ℤ) (size : Size) (c : Scalar)
    → MeansBy p e a s → slice_get e.frames frame ≡ Some serial
    → IsFramePlace a frame (z +ℤ by) size at → IsLoad (stack_slots_of a frame) at size (Some c)
    → (n : ℕ) × (load_number s size (value.Ptr (region.CallFrame serial) z) by ≡ Ok n) × Has c n
number_read p e a s frame at serial z by size c m found place h =
    let here : IsHere s serial frame at (size_bytes size) z by =
    IsHere-place p e a s size serial frame at z by m found place.place in
    let all : LoadsNumber (stack_slots_of a frame) at size (Some c) =
    loads (stack_slots_of a frame) at size (Some c) (place_below (z +ℤ by) size at place.place)
    (place_in_slot (z +ℤ by) size at place.place) h in
    MeansBy-loads p e a s size serial frame at z by c place.live here all m

number_yields : (p : Program) (e : Assigned) (a : State) (s : Machine.State) (frame at serial : ℕ)
    (z by : ℤ) (size : Size) (k : Kind)
    → MeansBy p e a s → slice_get e.frames frame ≡ Some serial
    → IsFramePlace a frame (z +ℤ by) size at
    → IsNumberLoad (stack_slots_of a frame) at size (Some k)
    → Yields e k (as_number (load_number s size (value.Ptr (region.CallFrame serial) z) by))
number_yields p e a s frame at serial z by size (Number c) m found place h =
    let (n, read, has) = number_read p e a s frame at serial z by size c m found place h in
    subst (λ r. Yields e (Number c) (as_number r)) (sym read) (n, refl, has)
number_yields p e a s frame at serial z by size k m found place h = absurd h

-- a load of a whole stack slot returns the value that was stored whole
whole_yields : (p : Program) (e : Assigned) (a : State) (s : Machine.State) (frame at serial : ℕ)
    (z by : ℤ) (k : Kind)
    → MeansBy p e a s → slice_get e.frames frame ≡ Some serial
    → IsFramePlace a frame (z +ℤ by) U64 at
    → IsFill (slot_at (stack_slots_of a frame) (at / 8)) (Some k)
    → Yields e k (load s U64 (value.Ptr (region.CallFrame serial) z) by)
whole_yields p e a s frame at serial z by k m found place h =
    let below = place_below (z +ℤ by) U64 at place.place in
    let here : IsHere s serial frame at 8 z by =
    IsHere-place p e a s U64 serial frame at z by m found place.place in
    let there : IsHere s serial frame (8 * (at / 8)) 8 z by =
    subst (λ i. IsHere s serial frame i 8 z by) (sym (place_whole (z +ℤ by) at place.place)) here in
    let all : LoadsSlot (stack_slots_of a frame) (at / 8) (Some k) =
    fills (stack_slots_of a frame) (at / 8) (Some k) (omega arith) h in
    let (v, read, allowed) =
    MeansBy-fills p e a s serial frame (at / 8) z by k place.live there all m in
    subst (λ r. Yields e k r) (sym read) allowed

at_yields : (p : Program) (e : Assigned) (a : State) (s : Machine.State) (frame at serial : ℕ)
    (z by : ℤ) (size : Size) (k : Kind)
    → MeansBy p e a s → slice_get e.frames frame ≡ Some serial
    → IsFramePlace a frame (z +ℤ by) size at → IsStackLoad (stack_slots_of a frame) at size (Some k)
    → Yields e k (load s size (value.Ptr (region.CallFrame serial) z) by)
at_yields p e a s frame at serial z by U8 k m found place h =
    number_yields p e a s frame at serial z by U8 k m found place h
at_yields p e a s frame at serial z by U16 k m found place h =
    number_yields p e a s frame at serial z by U16 k m found place h
at_yields p e a s frame at serial z by U32 k m found place h =
    number_yields p e a s frame at serial z by U32 k m found place h
at_yields p e a s frame at serial z by U64 k m found place h =
    whole_yields p e a s frame at serial z by k m found place h

-- where a load is not refused, its value is there, and the kind allows it
pub stack_load_yields : (p : Program) (e : Assigned) (a : State) (s : Machine.State) (frame : ℕ)
    (z by : ℤ) (size : Size) (k : Kind) (v : Value)
    → MeansBy p e a s → Allows e (Stack frame z) v → StackLoads a frame (z +ℤ by) size (Ok k)
    → Yields e k (load s size v by)
stack_load_yields p e a s frame z by size k v m pointer h =
    let (serial, found, is) = pointer in
    let (at, place, given) = h in
    subst (λ x. Yields e k (load s size x by)) (sym is)
    (at_yields p e a s frame at serial z by size k m found place given)

signed_yields : (p : Program) (e : Assigned) (a : State) (s : Machine.State) (frame at serial : ℕ)
    (z by : ℤ) (size : SignedSize) (k : Kind)
    → MeansBy p e a s → slice_get e.frames frame ≡ Some serial
    → IsFramePlace a frame (z +ℤ by) (unsigned_size size) at
    → IsSignedLoad (stack_slots_of a frame) at size (Some k)
    → Yields e k (load_signed s size (value.Ptr (region.CallFrame serial) z) by)
signed_yields p e a s frame at serial z by size (Number c) m found place h =
    let (b, loaded, extended) = h in
    let (n, read, has) =
    number_read p e a s frame at serial z by (unsigned_size size) b m found place loaded in
    let f : ℕ → Value = λ n. value.Num (sign_extended (size_extension size) n) in
    subst (λ (r : Result ℕ TrapReason). Yields e (Number c) (and_then r (λ n. Ok (f n)))) (sym read)
    (sign_extended (size_extension size) n, refl, extended.contains n has)
signed_yields p e a s frame at serial z by size k m found place h = absurd h

pub stack_load_signed_yields : (p : Program) (e : Assigned) (a : State) (s : Machine.State)
    (frame : ℕ) (z by : ℤ) (size : SignedSize) (k : Kind) (v : Value)
    → MeansBy p e a s → Allows e (Stack frame z) v → StackLoadsSigned a frame (z +ℤ by) size (Ok k)
    → Yields e k (load_signed s size v by)
stack_load_signed_yields p e a s frame z by size k v m pointer h =
    let (serial, found, is) = pointer in
    let (at, place, given) = h in
    subst (λ x. Yields e k (load_signed s size x by)) (sym is)
    (signed_yields p e a s frame at serial z by size k m found place given)

-- ---- stores

-- the machine does not trap, and the abstract state that is left means its next state
abbrev pub ContinuesIn : Program → Assigned → State → Result Machine.State TrapReason → Type 0
ContinuesIn p e b (Ok t) = MeansBy p e b t
ContinuesIn p e b (Err reason) = ⊥

pub ContinuesIn-left : (p : Program) (e : Assigned) (b : State)
    (went : Result Machine.State TrapReason) → IfLeft p e b went
    → IfOk went (IsState p) → ContinuesIn p e b went
ContinuesIn-left p e b (Ok t) h is =
    let same : h.0 ≡ t = (let went = h.1 in cc) in
    subst (MeansBy p e b) same (h.2 (subst (IsState p) (sym same) is))
ContinuesIn-left p e b (Err reason) h is = let went = h.1 in absurd (cc)

or_null_set : (e : Assigned) (m : ℕ) (o : Option ℕ) (v : Value) → AllowsOrNull e m o v
    → v ≢ value.Unset
or_null_set e m None v h = λ none. absurd (cc)
or_null_set e m (Some n) v h = λ none. let there = h.0 in absurd (cc)

-- a value that is stored is set
stored_set : (e : Assigned) (a : State) (frame : ℕ) (size : Size) (k : Kind) (v : Value)
    → store_refusal a frame size k ≡ None → Allows e k v → v ≢ value.Unset
stored_set e a frame size Unset v pass h = absurd (cc)
stored_set e a frame size (Number c) v pass h = λ none. let there = h.1 in absurd (cc)
stored_set e a frame size Context v pass h = λ none. absurd (cc)
stored_set e a frame size (Stack f z) v pass h = λ none. let there = h.2 in absurd (cc)
stored_set e a frame size (Packet f i l g n) v pass h = λ none. let there = h.points in absurd (cc)
stored_set e a frame size PacketEnd v pass h = λ none. absurd (cc)
stored_set e a frame size (Map m) v pass h = λ none. absurd (cc)
stored_set e a frame size (MapValue m l g) v pass h = λ none. let there = h.points in absurd (cc)
stored_set e a frame size (MapValueOrNull m i) v pass h = or_null_set e m (e.map_value i) v h

-- by fewer bytes than 8, only numbers are stored
short_refused : (r : Refusal) (size : Size) → size ≢ U64 → whole_or r size ≡ Some r
short_refused r U64 other = absurd (other refl)
short_refused r size other = refl

either_refused : (b : Bool) (o : Option Refusal) (r q : Refusal) → o ≡ Some r
    → (if b then o else Some q) ≢ None
either_refused true o r q is = λ none. absurd (cc)
either_refused false o r q is = λ none. absurd (cc)

short_number : (a : State) (frame : ℕ) (size : Size) (k : Kind) → size ≢ U64
    → store_refusal a frame size k ≡ None → IsNumberKind k
short_number a frame size Unset other pass = absurd (cc)
short_number a frame size (Number c) other pass = tt
short_number a frame size (Stack f z) other pass =
    absurd (either_refused (suc frame == depth a)
    (whole_or PointerStored size) PointerStored PointerStored
    (short_refused PointerStored size other) pass)
short_number a frame size (MapValueOrNull m i) other pass =
    let some = short_refused NullNotTested size other in absurd (cc)
short_number a frame size k other pass =
    let some = short_refused PointerStored size other in absurd (cc)

-- number bytes are left
pub stored_left : (p : Program) (e : Assigned) (a : State) (s : Machine.State)
    (frame at serial n : ℕ) (z by : ℤ) (size : Size) (b : State)
    → MeansBy p e a s → slice_get e.frames frame ≡ Some serial
    → IsFramePlace a frame (z +ℤ by) size at → IsStoredIn a frame at size b
    → IfLeft p e b (store s size (value.Ptr (region.CallFrame serial) z) by (value.Num n))
stored_left p e a s frame at serial n z by size b m found place h =
    let here : IsHere s serial frame at (size_bytes size) z by =
    IsHere-place p e a s size serial frame at z by m found place.place in
    subst (λ c. IfLeft p e c
    (store s size (value.Ptr (region.CallFrame serial) z) by (value.Num n))) (sym h.left)
    (MeansBy-stores p e a s _ size serial frame at n z by place.live here h.meant m)

spilled_left : (p : Program) (e : Assigned) (a : State) (s : Machine.State) (frame at serial : ℕ)
    (z by : ℤ) (source : Kind) (v : Value) (b : State)
    → MeansBy p e a s → slice_get e.frames frame ≡ Some serial
    → IsFramePlace a frame (z +ℤ by) U64 at → v ≢ value.Unset → Allows e source v
    → IsSpilledIn a frame (at / 8) source b
    → IfLeft p e b (store s U64 (value.Ptr (region.CallFrame serial) z) by v)
spilled_left p e a s frame at serial z by source v b m found place set allowed h =
    let here : IsHere s serial frame at 8 z by =
    IsHere-place p e a s U64 serial frame at z by m found place.place in
    let there : IsHere s serial frame (8 * (at / 8)) 8 z by =
    subst (λ i. IsHere s serial frame i 8 z by) (sym (place_whole (z +ℤ by) at place.place)) here in
    subst (λ c. IfLeft p e c (store s U64 (value.Ptr (region.CallFrame serial) z) by v))
    (sym h.left)
    (MeansBy-spills p e a s _ serial frame
    (at / 8) z by source v place.live there set allowed h.meant m)

-- and so are those of one of the numbers
number_left : (p : Program) (e : Assigned) (a : State) (s : Machine.State) (frame at serial : ℕ)
    (z by : ℤ) (size : Size) (c : Scalar) (v : Value) (b : State)
    → MeansBy p e a s → slice_get e.frames frame ≡ Some serial
    → IsFramePlace a frame (z +ℤ by) size at → Allows e (Number c) v
    → IsNumberStoredIn a frame at size c b
    → IfLeft p e b (store s size (value.Ptr (region.CallFrame serial) z) by v)
number_left p e a s frame at serial z by size c v b m found place allowed h =
    let (n, is, has) = allowed in
    let here : IsHere s serial frame at (size_bytes size) z by =
    IsHere-place p e a s size serial frame at z by m found place.place in
    subst (λ x. IfLeft p e b (store s size (value.Ptr (region.CallFrame serial) z) by x)) (sym is)
    (subst (λ t.
    IfLeft p e t (store s size (value.Ptr (region.CallFrame serial) z) by (value.Num n)))
    (sym h.left)
    (MeansBy-stores_number p e a s _ size serial frame at n z by c place.live here has h.meant m))

left : (p : Program) (e : Assigned) (a : State) (s : Machine.State) (frame at serial : ℕ) (z by : ℤ)
    (size : Size) (source : Kind) (v : Value) (b : State)
    → MeansBy p e a s → slice_get e.frames frame ≡ Some serial
    → IsFramePlace a frame (z +ℤ by) size at
    → store_refusal a frame size source ≡ None → Allows e source v → IsLeft a frame at size source b
    → IfLeft p e b (store s size (value.Ptr (region.CallFrame serial) z) by v)
left p e a s frame at serial z by U64 source v b m found place pass allowed h =
    spilled_left p e a s frame at serial z by source v b m found place
    (stored_set e a frame U64 source v pass allowed) allowed h
left p e a s frame at serial z by U8 (Number c) v b m found place pass allowed h =
    number_left p e a s frame at serial z by U8 c v b m found place allowed h
left p e a s frame at serial z by U16 (Number c) v b m found place pass allowed h =
    number_left p e a s frame at serial z by U16 c v b m found place allowed h
left p e a s frame at serial z by U32 (Number c) v b m found place pass allowed h =
    number_left p e a s frame at serial z by U32 c v b m found place allowed h
left p e a s frame at serial z by U8 k v b m found place pass allowed h =
    absurd (short_number a frame U8 k (λ q. cc q) pass)
left p e a s frame at serial z by U16 k v b m found place pass allowed h =
    absurd (short_number a frame U16 k (λ q. cc q) pass)
left p e a s frame at serial z by U32 k v b m found place pass allowed h =
    absurd (short_number a frame U32 k (λ q. cc q) pass)

-- where a store is not refused, the machine does not trap, and the state that is left means its
-- next state
pub stack_store_goes : (p : Program) (e : Assigned) (a : State) (s : Machine.State) (frame : ℕ)
    (z by : ℤ) (size : Size) (source : Kind) (base v : Value) (b : State)
    → MeansBy p e a s → Allows e (Stack frame z) base → Allows e source v
    → IsValue (length p.maps) s.next_serial v → StackStores a frame (z +ℤ by) size source b (Ok tt)
    → ContinuesIn p e b (store s size base by v)
stack_store_goes p e a s frame z by size source base v b m pointer allowed fits h =
    let (serial, found, is) = pointer in
    let (at, place, pass, wrote) = h in
    ContinuesIn-left p e b (store s size base by v)
    (subst (λ x. IfLeft p e b (store s size x by v)) (sym is)
    (left p e a s frame at serial z by size source v b m found place pass allowed wrote))
    (store_keeps p s size base by v fits m.is_state)
