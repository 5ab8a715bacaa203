-- What the methods of `StackState` do to the cells that the slots mean.
use Rattle.stack_state.proofs.Common.{◌≡◌, ◌≢◌, ℕ, ◌+◌, ◌*◌, ◌/◌, ◌%◌, ◌^◌, ◌<◌, ◌≤◌, true, List, map, drop, length, replicate, slice_set, slice_index_or, All, Option, Some, None, ◌⊎◌, bit_or, sym, ap, ◌∙◌, subst, inl, inr, arith, bit_at, list_all, cases_eq, cases_lt, length-map, length-take, length-take-le, length-drop, get_or-take, get_or-drop, get_or-map, get_or-replicate, get_or-set_same, get_or-set_other, All-take, All-drop, stack_size, Size, U8, U16, U32, U64, Value, Num, Cell, Unwritten, Byte, size_bytes, bytes_of, is_byte, byte_in, number_of, IsCell, bytes_in_fit, slice_index_fits, Scalar, Kind, Unset, Number, Has, Assigned, Allows, StackSlot, Written, Spilled, slot_at, marks_of, mask_of, AreMarked, after_store, AreNumbers, IsLoad, IsNumberSpill, IsSpill, frame_slots, part_of, chunk_of, cells_with, stored_cells, Marked, SlotMeans, StackMeans, StoresBytes, Spills, LoadsNumber, AreNumberBytes}
use Rattle.reg_state.specs.Arithmetic.{IsPart}
use Rattle.stack_state.proofs.SpliceLaws.{length-cells_with, get_or-chunk, chunk_other, chunk_whole, part_of-chunk}
use Rattle.stack_state.proofs.CellLaws.{all_bytes, number_in-bytes, length-bytes_of, number_from_below, no_marks, marked_after, marked_number, marked_slot, number_of-stored_cells, number_of-part, length-stored_cells}

-- ---- one slot changed

-- another slot lies before the bytes from `at` on, or after them
apart : (at n k j : ℕ) → 8 * k ≤ at → at + n ≤ 8 * k + 8 → j ≢ k
    → (8 * j + 8 ≤ at) ⊎ (at + n ≤ 8 * j)
apart at n k j from to other =
    elim (cases_lt j k) [
      | inl below ↦ inl (omega arith)
      | inr above ↦ inr (let more : k < j = omega arith in omega arith)
    ]

same_slot : (e : Assigned) (slots : List StackSlot) (k : ℕ) (s : StackSlot) (cs : List Cell)
    → k < length slots → SlotMeans e s cs → SlotMeans e (slot_at (slice_set slots k s) k) cs
same_slot e slots k s cs within h =
    subst (λ (t : StackSlot). SlotMeans e t cs)
    (sym (get_or-set_same slots k s (Written 0) within)) h

other_slot : (e : Assigned) (slots : List StackSlot) (k j : ℕ) (s : StackSlot) (cs ds : List Cell)
    → j ≢ k → ds ≡ cs
    → SlotMeans e (slot_at slots j) cs → SlotMeans e (slot_at (slice_set slots k s) j) ds
other_slot e slots k j s cs ds other same h =
    subst (λ (t : StackSlot). SlotMeans e t ds)
    (sym (get_or-set_other slots k j s (Written 0) other))
    (subst (λ (c : List Cell). SlotMeans e (slot_at slots j) c) (sym same) h)

-- cells are written inside one slot, which then means what is there
pub slot_changed : (e : Assigned) (slots : List StackSlot) (cells new : List Cell) (at k : ℕ)
    (s : StackSlot) → length slots ≡ frame_slots → k < frame_slots
    → 8 * k ≤ at → at + length new ≤ 8 * k + 8 → StackMeans e slots cells
    → SlotMeans e s (chunk_of k (cells_with cells at new))
    → StackMeans e (slice_set slots k s) (cells_with cells at new)
slot_changed e slots cells new at k s count_is within from to m h =
    let wide : length cells ≡ stack_size = m.size in
    record {
      size = length-cells_with cells new at (omega arith) ∙ m.size;
      each = λ j below. elim (cases_eq j k) [
        | inl same ↦
            subst (λ (i : ℕ).
            SlotMeans e (slot_at (slice_set slots k s) i) (chunk_of i (cells_with cells at new)))
            (sym same)
            (same_slot e slots k s _ (omega arith) h)
        | inr other ↦ other_slot e slots k j s _ _ other
            (chunk_other cells new at j (omega arith) (omega arith)
            (apart at (length new) k j from to other)) (m.each j below)
      ];
    }

-- ---- every slot changed

-- other slots, under another assignment, which mean all that the slots meant
pub StackMeans-change : (e f : Assigned) (old new : List StackSlot) (cells : List Cell)
    → ((k : ℕ) (cs : List Cell) → k < frame_slots → SlotMeans e (slot_at old k) cs
    → SlotMeans f (slot_at new k) cs)
    → StackMeans e old cells → StackMeans f new cells
StackMeans-change e f old new cells each m =
    record { size = m.size; each = λ k below. each k (chunk_of k cells) below (m.each k below) }

-- each slot changed alike
pub StackMeans-map : (g : StackSlot → StackSlot) (e f : Assigned) (slots : List StackSlot)
    (cells : List Cell) → length slots ≡ frame_slots
    → ((s : StackSlot) (cs : List Cell) → SlotMeans e s cs → SlotMeans f (g s) cs)
    → StackMeans e slots cells → StackMeans f (map g slots) cells
StackMeans-map g e f slots cells count_is each m =
    StackMeans-change e f slots (map g slots) cells
    (λ k cs below h.
    subst (λ (s : StackSlot). SlotMeans f s cs)
    (sym (get_or-map g slots k (Written 0) (Written 0) (omega arith)))
    (each (slot_at slots k) cs h)) m

-- a spilled kind, and one that allows what it allowed
pub SlotMeans-spilled : (e f : Assigned) (k l : Kind) (cs : List Cell)
    → ((v : Value) → Allows e k v → Allows f l v)
    → SlotMeans e (Spilled k) cs → SlotMeans f (Spilled l) cs
SlotMeans-spilled e f k l cs more h = (h.0, more h.0 h.1, h.2)

-- marks of bytes that are marked in the slot, whatever it is
pub SlotMeans-marks : (e f : Assigned) (s : StackSlot) (marks : ℕ) (cs : List Cell)
    → ((i : ℕ) → i < 8 → bit_at marks i ≡ 1 → bit_at (marks_of s) i ≡ 1) → SlotMeans e s cs
    → SlotMeans f (Written marks) cs
SlotMeans-marks e f s marks cs fewer h =
    λ i within bit. marked_slot e s cs h i within (fewer i within bit)

-- of a new call frame nothing is known
pub StackMeans-new : (e : Assigned) (cells : List Cell) → length cells ≡ stack_size
    → StackMeans e (replicate frame_slots (Written 0)) cells
StackMeans-new e cells wide = record {
  size = wide;
  each =
      λ k below.
      subst (λ (s : StackSlot). SlotMeans e s (chunk_of k cells))
      (sym (get_or-replicate frame_slots k (Written 0) (Written 0) below))
      (no_marks (chunk_of k cells));
}

-- ---- writes

pub stores : (slots new : List StackSlot) (at : ℕ) (size : Size) → length slots ≡ frame_slots
    → at < stack_size → at % 8 + size_bytes size ≤ 8
    → new ≡ after_store slots at (size_bytes size) → StoresBytes slots at size new
unfolding StoresBytes
stores slots new at size count_is below inside is = λ e cells n m.
    let bytes : List ℕ = bytes_of size n in
    let some : length bytes ≡ size_bytes size = length-bytes_of size n in
    let long : length (map Byte bytes) ≡ length bytes = length-map bytes Byte in
    let wide : length cells ≡ stack_size = m.size in
    let within : at / 8 < frame_slots = omega arith in
    let marks : ℕ = marks_of (slot_at slots (at / 8)) in
    let before =
    marked_slot e (slot_at slots (at / 8)) (chunk_of (at / 8) cells) (m.each (at / 8) within) in
    let after : Marked (bit_or marks (mask_of (at % 8) (at % 8 + length bytes)))
    (chunk_of (at / 8) (cells_with cells at (map Byte bytes))) =
    marked_after marks at cells bytes (omega arith) (omega arith) before in
    let all : StackMeans e (after_store slots at (length bytes))
    (cells_with cells at (map Byte bytes)) =
    slot_changed e slots cells (map Byte bytes) at (at / 8)
    (Written (bit_or marks (mask_of (at % 8) (at % 8 + length bytes))))
    count_is within (omega arith) (omega arith) m after in
    subst (λ (l : List StackSlot). StackMeans e l (cells_with cells at (map Byte bytes)))
    (ap (after_store slots at) some ∙ sym is) all

number_spill : (e : Assigned) (numbers : Scalar) (s : StackSlot) (v : Value) (cs : List Cell)
    → IsNumberSpill numbers s → Allows e (Number numbers) v → cs ≡ stored_cells v → SlotMeans e s cs
number_spill e numbers (Written marks) v cs is h same =
    subst (λ (m : ℕ). Marked m cs) (sym is.0) (marked_number h.0 cs (same ∙ ap stored_cells h.1))
number_spill e numbers (Spilled k) v cs is h same =
    (v, subst (λ (j : Kind). Allows e j v) (sym is.0) h, same)

-- the slot that a spill leaves means what an 8-byte store of the value writes
pub SlotMeans-spill : (e : Assigned) (k : Kind) (s : StackSlot) (v : Value) (cs : List Cell)
    → IsSpill k s → Allows e k v → cs ≡ stored_cells v → SlotMeans e s cs
SlotMeans-spill e Unset s v cs is h same =
    subst (λ (t : StackSlot). SlotMeans e t cs) (sym is) (no_marks cs)
SlotMeans-spill e (Number numbers) s v cs is h same = number_spill e numbers s v cs is h same
SlotMeans-spill e k s v cs is h same =
    subst (λ (t : StackSlot). SlotMeans e t cs) (sym is) (v, h, same)

pub spills : (slots new : List StackSlot) (k : ℕ) (kind : Kind) → length slots ≡ frame_slots
    → k < frame_slots → IsSpill kind (slot_at new k)
    → new ≡ slice_set slots k (slot_at new k) → Spills slots k kind new
unfolding Spills
spills slots new k kind count_is within is others = λ e cells v set allowed m.
    let wide : length cells ≡ stack_size = m.size in
    let eight : length (stored_cells v) ≡ 8 = length-stored_cells v set in
    subst (λ (l : List StackSlot). StackMeans e l (cells_with cells (8 * k) (stored_cells v)))
    (sym others)
    (slot_changed e slots cells (stored_cells v) (8 * k) k (slot_at new k) count_is within
    (omega arith) (omega arith) m
    (SlotMeans-spill e kind (slot_at new k) v _ is allowed
    (chunk_whole cells (stored_cells v) k eight (omega arith))))

-- ---- reads

-- a byte that is marked
byte_at : (e : Assigned) (slots : List StackSlot) (cells : List Cell) (i : ℕ) → i < stack_size
    → StackMeans e slots cells → bit_at (marks_of (slot_at slots (i / 8))) (i % 8) ≡ 1
    → is_byte (slice_index_or cells i Unwritten) ≡ true
byte_at e slots cells i below m bit =
    let within : i / 8 < frame_slots = omega arith in
    let inside : i % 8 < 8 = omega arith in
    let same : 8 * (i / 8) + i % 8 ≡ i = omega arith in
    let here = marked_slot e (slot_at slots (i / 8)) (chunk_of (i / 8) cells)
    (m.each (i / 8) within) (i % 8) inside bit in
    subst (λ (j : ℕ). is_byte (slice_index_or cells j Unwritten) ≡ true) same
    (subst (λ (c : Cell). is_byte c ≡ true)
    (get_or-chunk (i / 8) (i % 8) cells Unwritten inside) here)

pub marked_are_bytes : (e : Assigned) (slots : List StackSlot) (cells : List Cell) (from n : ℕ)
    → from + n ≤ stack_size → AreMarked slots from (from + n) → StackMeans e slots cells
    → list_all is_byte (part_of cells from n) ≡ true
marked_are_bytes e slots cells from n inside marked m =
    let wide : length cells ≡ stack_size = m.size in
    all_bytes (part_of cells from n) (λ i below.
    let short : i < n = (let l = length-take n (drop from cells) in omega arith) in
    ap is_byte (get_or-take n (drop from cells) i Unwritten short
    ∙ get_or-drop from cells i Unwritten)
    ∙ byte_at e slots cells (from + i) (omega arith) m
    (marked (from + i) (omega arith) (omega arith)))

pub are_bytes : (slots : List StackSlot) (from n : ℕ) → from + n ≤ stack_size
    → AreMarked slots from (from + n) → AreNumberBytes slots from n
unfolding AreNumberBytes
are_bytes slots from n inside marked = λ e cells m.
    let all = marked_are_bytes e slots cells from n inside marked m in
    (all, number_in-bytes (part_of cells from n) all)

-- bytes of a machine state spell a number that fits them
pub part_below : (size : Size) (count next : ℕ) (cells : List Cell) (at : ℕ)
    → at + size_bytes size ≤ length cells → All (IsCell count next) cells
    → number_of (part_of cells at (size_bytes size)) < 2 ^ (8 * size_bytes size)
part_below size count next cells at inside fit =
    let part : List Cell = part_of cells at (size_bytes size) in
    let rest = length-drop at cells in
    let long : length part ≡ size_bytes size =
    length-take-le (size_bytes size) (drop at cells) (omega arith) in
    let bytes : List ℕ = map byte_in part in
    let fits = All-take (IsCell count next) (size_bytes size) (drop at cells)
    (All-drop (IsCell count next) at cells fit) in
    number_from_below size bytes (length-map part byte_in ∙ long)
    (slice_index_fits bytes (bytes_in_fit count next part fits))

-- of a whole spilled number, its own is read
whole_number : (e : Assigned) (numbers : Scalar) (cs : List Cell)
    → SlotMeans e (Spilled (Number numbers)) cs → Has numbers (number_of cs)
whole_number e numbers cs h =
    let fits = h.1.2.0.below in
    let same : number_of cs ≡ h.1.0 = ap number_of (h.2 ∙ ap stored_cells h.1.1)
    ∙ number_of-stored_cells h.1.0 fits in
    subst (Has numbers) (sym same) h.1.2

part_is_chunk : (cells : List Cell) (at : ℕ) → at % 8 + 8 ≤ 8
    → part_of cells at 8 ≡ chunk_of (at / 8) cells
part_is_chunk cells at inside =
    let same : at ≡ 8 * (at / 8) = omega arith in
    ap (λ (i : ℕ). part_of cells i 8) same

whole_part : (e : Assigned) (numbers loaded : Scalar) (cells : List Cell) (at : ℕ) → at % 8 + 8 ≤ 8
    → loaded ≡ numbers → SlotMeans e (Spilled (Number numbers)) (chunk_of (at / 8) cells)
    → Has loaded (number_of (part_of cells at 8))
whole_part e numbers loaded cells at inside same h =
    subst (λ (s : Scalar). Has s (number_of (part_of cells at 8))) (sym same)
    (subst (λ (cs : List Cell). Has numbers (number_of cs)) (sym (part_is_chunk cells at inside))
    (whole_number e numbers _ h))

-- of some of its bytes, the number that they are
spelled_part : (e : Assigned) (numbers loaded : Scalar) (cells : List Cell) (at : ℕ) (size : Size)
    → at % 8 + size_bytes size ≤ 8 → IsPart (8 * (at % 8)) (8 * size_bytes size) numbers loaded
    → SlotMeans e (Spilled (Number numbers)) (chunk_of (at / 8) cells)
    → Has loaded (number_of (part_of cells at (size_bytes size)))
spelled_part e numbers loaded cells at size inside are h =
    let chunk : List Cell = chunk_of (at / 8) cells in
    let here : part_of cells at (size_bytes size) ≡ part_of chunk (at % 8) (size_bytes size) =
    part_of-chunk cells at (size_bytes size) inside in
    let stays : chunk ≡ stored_cells (Num h.1.0) = h.2 ∙ ap stored_cells h.1.1 in
    let spelled = ap (λ (cs : List Cell). number_of (part_of cs (at % 8) (size_bytes size))) stays
    ∙ number_of-part h.1.0 (at % 8) size h.1.2.0.below inside in
    subst (Has loaded) (sym (ap number_of here ∙ spelled)) (are.contains h.1.0 h.1.2)

part_number : (e : Assigned) (s : StackSlot) (cells : List Cell) (at : ℕ) (size : Size)
    (loaded : Scalar) → at % 8 + size_bytes size ≤ 8
    → AreNumbers s (at % 8) size loaded → SlotMeans e s (chunk_of (at / 8) cells)
    → number_of (part_of cells at (size_bytes size)) < 2 ^ (8 * size_bytes size)
    → Has loaded (number_of (part_of cells at (size_bytes size)))
part_number e (Written marks) cells at size loaded inside are h below = (are _).1 below
part_number e (Spilled (Number numbers)) cells at U8 loaded inside are h below =
    spelled_part e numbers loaded cells at U8 inside are h
part_number e (Spilled (Number numbers)) cells at U16 loaded inside are h below =
    spelled_part e numbers loaded cells at U16 inside are h
part_number e (Spilled (Number numbers)) cells at U32 loaded inside are h below =
    spelled_part e numbers loaded cells at U32 inside are h
part_number e (Spilled (Number numbers)) cells at U64 loaded inside are h below =
    whole_part e numbers loaded cells at inside are h
part_number e (Spilled k) cells at size loaded inside are h below = (are _).1 below

pub loads : (slots : List StackSlot) (at : ℕ) (size : Size) (loaded : Option Scalar)
    → at < stack_size → at % 8 + size_bytes size ≤ 8
    → IsLoad slots at size loaded → LoadsNumber slots at size loaded
unfolding LoadsNumber
loads slots at size None below inside is = tt
loads slots at size (Some numbers) below inside is = λ e count next cells fit m.
    let wide : length cells ≡ stack_size = m.size in
    let within : at / 8 < frame_slots = omega arith in
    let all = marked_are_bytes e slots cells at (size_bytes size) (omega arith) is.0 m in (
      number_of (part_of cells at (size_bytes size)),
      number_in-bytes (part_of cells at (size_bytes size)) all,
      part_number e (slot_at slots (at / 8)) cells at size numbers inside is.1
          (m.each (at / 8) within)
          (part_below size count next cells at (omega arith) fit),
    )
