-- Fills, which read back whole what a slot holds; and what is left when a map is forgotten.
use Rattle.stack_state.proofs.Common.{◌≡◌, ◌≢◌, ℕ, ◌*◌, ◌^◌, ◌<◌, ◌==◌, Bool, true, false, if◌then◌else◌, ℤ, List, length, Option, Some, None, sym, ap, ◌∙◌, subst, arith, refl, nat_tests, bit_at_ones, stack_size, U64, Value, Num, Cell, Content, number_of, value_in, Kind, Unset, Number, Context, Stack, Packet, PacketEnd, Map, MapValue, MapValueOrNull, Assigned, Allows, AllowsOrNull, StackSlot, Written, Spilled, slot_at, IsAnyNumber, IsWrittenFill, IsFill, spilled_kind, forgotten_slot, forgotten, frame_slots, chunk_of, Marked, SlotMeans, LoadsSlot, KeepsOtherMaps, with_maps, ForgetsMap}
use Rattle.stack_state.proofs.SpliceLaws.{length-chunk}
use Rattle.stack_state.proofs.CellLaws.{all_bytes, value_in-bytes, no_marks, value_stored}
use Rattle.stack_state.proofs.StackLaws.{StackMeans-map, part_below}

-- ---- read back

pub any_number : (e : Assigned) (k : Kind) (n : ℕ) → n < 2 ^ 64 → IsAnyNumber k → Allows e k (Num n)
any_number e (Number numbers) n below any = (n, refl, any n below)
any_number e k n below any = absurd any

fills_written : (slots : List StackSlot) (k marks : ℕ) (loaded : Option Kind) → k < frame_slots
    → slot_at slots k ≡ Written marks → IsWrittenFill marks loaded → LoadsSlot slots k loaded
unfolding LoadsSlot
fills_written slots k marks None within here is = tt
fills_written slots k marks (Some kind) within here is = λ e count next cells fit m.
    let wide : length cells ≡ stack_size = m.size in
    let marked : Marked 255 (chunk_of k cells) =
    subst (λ (s : StackSlot). SlotMeans e s (chunk_of k cells)) (here ∙ ap Written is.0)
    (m.each k within) in
    let eight = length-chunk k cells (omega arith) in
    let all = all_bytes (chunk_of k cells)
    (λ i below. marked i (omega arith) (bit_at_ones 8 i (omega arith))) in
    let below : number_of (chunk_of k cells) < 2 ^ 64 =
    part_below U64 count next cells (8 * k) (omega arith) fit in (
      Num (number_of (chunk_of k cells)),
      value_in-bytes (chunk_of k cells) all,
      any_number e kind _ below is.1,
    )

fills_spilled : (slots : List StackSlot) (k : ℕ) (kind : Kind) → k < frame_slots → kind ≢ Unset
    → slot_at slots k ≡ Spilled kind → LoadsSlot slots k (Some kind)
unfolding LoadsSlot
fills_spilled slots k kind within set here = λ e count next cells fit m.
    let h : SlotMeans e (Spilled kind) (chunk_of k cells) =
    subst (λ (s : StackSlot). SlotMeans e s (chunk_of k cells)) here (m.each k within) in
    (h.0, ap value_in h.2 ∙ value_stored e kind h.0 set h.1, h.1)

fills_kind : (slots : List StackSlot) (k : ℕ) (kind : Kind) → k < frame_slots
    → slot_at slots k ≡ Spilled kind → LoadsSlot slots k (spilled_kind kind)
unfolding LoadsSlot
fills_kind slots k Unset within here = tt
fills_kind slots k (Number numbers) within here =
    fills_spilled slots k (Number numbers) within (λ e. cc e) here
fills_kind slots k Context within here = fills_spilled slots k Context within (λ e. cc e) here
fills_kind slots k (Stack f z) within here =
    fills_spilled slots k (Stack f z) within (λ e. cc e) here
fills_kind slots k (Packet f i l g p) within here =
    fills_spilled slots k (Packet f i l g p) within (λ e. cc e) here
fills_kind slots k PacketEnd within here = fills_spilled slots k PacketEnd within (λ e. cc e) here
fills_kind slots k (Map m) within here = fills_spilled slots k (Map m) within (λ e. cc e) here
fills_kind slots k (MapValue m l g) within here =
    fills_spilled slots k (MapValue m l g) within (λ e. cc e) here
fills_kind slots k (MapValueOrNull m i) within here =
    fills_spilled slots k (MapValueOrNull m i) within (λ e. cc e) here

fills_slot : (slots : List StackSlot) (k : ℕ) (s : StackSlot) (loaded : Option Kind)
    → k < frame_slots → slot_at slots k ≡ s → IsFill s loaded → LoadsSlot slots k loaded
fills_slot slots k (Written marks) loaded within here is =
    fills_written slots k marks loaded within here is
fills_slot slots k (Spilled kind) loaded within here is =
    subst (λ (o : Option Kind). LoadsSlot slots k o) (sym is) (fills_kind slots k kind within here)

pub fills : (slots : List StackSlot) (k : ℕ) (loaded : Option Kind) → k < frame_slots
    → IsFill (slot_at slots k) loaded → LoadsSlot slots k loaded
fills slots k loaded within is = fills_slot slots k (slot_at slots k) loaded within refl is

-- ---- forgotten

-- a null result of another map stays one
pub null_kept : (e : Assigned) (maps : List Content) (m n : ℕ) (o : Option ℕ) (v : Value) → n ≢ m
    → KeepsOtherMaps m e.maps maps → AllowsOrNull e n o v → AllowsOrNull (with_maps e maps) n o v
null_kept e maps m n None v other keeps h = h
null_kept e maps m n (Some serial) v other keeps h = (h.0, keeps n serial other h.1)

forgets_map_value : (e : Assigned) (maps : List Content) (m n : ℕ) (l g : ℤ) (cs : List Cell)
    (b : Bool)
    → (n == m) ≡ b → KeepsOtherMaps m e.maps maps → SlotMeans e (Spilled (MapValue n l g)) cs
    → SlotMeans (with_maps e maps) (if b then Written 0 else Spilled (MapValue n l g)) cs
forgets_map_value e maps m n l g cs true is keeps h = no_marks cs
forgets_map_value e maps m n l g cs false is keeps h =
    let other : n ≢ m = grind (arith, nat_tests) in
    let x = h.1 in (
      h.0,
      record {
        serial = x.serial;
        offset = x.offset;
        points = x.points;
        from = x.from;
        to = x.to;
        live = keeps n x.serial other x.live;
      },
      h.2,
    )

forgets_null : (e : Assigned) (maps : List Content) (m n i : ℕ) (cs : List Cell) (b : Bool)
    → (n == m) ≡ b → KeepsOtherMaps m e.maps maps → SlotMeans e (Spilled (MapValueOrNull n i)) cs
    → SlotMeans (with_maps e maps) (if b then Written 0 else Spilled (MapValueOrNull n i)) cs
forgets_null e maps m n i cs true is keeps h = no_marks cs
forgets_null e maps m n i cs false is keeps h =
    let other : n ≢ m = grind (arith, nat_tests) in
    (h.0, null_kept e maps m n (e.map_value i) h.0 other keeps h.1, h.2)

pub SlotMeans-forgotten : (e : Assigned) (maps : List Content) (m : ℕ) (s : StackSlot)
    (cs : List Cell) → KeepsOtherMaps m e.maps maps
    → SlotMeans e s cs → SlotMeans (with_maps e maps) (forgotten_slot m s) cs
SlotMeans-forgotten e maps m (Written marks) cs keeps h = h
SlotMeans-forgotten e maps m (Spilled (MapValue n l g)) cs keeps h =
    forgets_map_value e maps m n l g cs (n == m) refl keeps h
SlotMeans-forgotten e maps m (Spilled (MapValueOrNull n i)) cs keeps h =
    forgets_null e maps m n i cs (n == m) refl keeps h
SlotMeans-forgotten e maps m (Spilled (Packet f i l g p)) cs keeps h =
    let x = h.1 in
    (h.0, record { points = x.points; from = x.from; to = x.to; inside = x.inside }, h.2)
SlotMeans-forgotten e maps m (Spilled k) cs keeps h = h

pub forgets : (slots : List StackSlot) (m : ℕ) → length slots ≡ frame_slots
    → ForgetsMap m slots (forgotten m slots)
unfolding ForgetsMap
forgets slots m count_is = λ e maps cells keeps means.
    StackMeans-map (forgotten_slot m) e (with_maps e maps) slots cells count_is
    (λ s cs. SlotMeans-forgotten e maps m s cs keeps) means
