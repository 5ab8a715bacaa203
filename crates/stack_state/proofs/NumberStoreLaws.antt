-- A number whose bytes are stored into a slot of number bytes: what the slot's eight bytes spell
-- after it.
use Rattle.stack_state.proofs.Common.{◌≡◌, ℕ, suc, ◌+◌, ◌-◌, ◌*◌, ◌/◌, ◌%◌, ◌^◌, ◌<◌, ◌≤◌, true, List, [], ◌∷◌, map, length, slice_index_or, slice_set, All, bit_or, slice_index, sym, ap, ◌∙◌, subst, inl, inr, arith, refl, cases_eq, cases_lt, le_bytes_8, bit_at_ones, length-map, get_or_past, All-take, All-drop, stack_size, Size, U8, U16, U32, U64, Num, Cell, Unwritten, Byte, Piece, size_bytes, bytes_of, number_from, EachByte, is_byte, byte_in, number_of, IsCell, bytes_in_fit, bytes_of_fit, slice_index_fits, number_of_fits, Scalar, Number, Has, Assigned, StackSlot, Written, Spilled, slot_at, marks_of, mask_of, frame_slots, chunk_of, cells_with, stored_cells, Marked, SlotMeans, AreWhole, marks_after, IsSplicedSlot, IsSlotStored, StoresNumber}
use Rattle.std.specs.Int.{w64, to_le_bytes}
use Rattle.std.proofs.Math.ListN.{get_or-map as get_or-map_default}
use Rattle.isa_model.proofs.ByteCells.{map-byte_in-Byte}
use Rattle.known_bits.specs.Bits.{spliced}
use Rattle.stack_state.proofs.SpelledBytes.{AreSpliced, spliced_number}
use Rattle.stack_state.proofs.SpliceLaws.{chunk_kept, chunk_written, length-chunk, length-cells_with}
use Rattle.stack_state.proofs.CellLaws.{length-bytes_of, marked_after, marked_slot, number_of-stored_cells, number_of-part}
use Rattle.stack_state.proofs.StackLaws.{slot_changed, SlotMeans-spill}

-- what the bytes of a number spell
bytes_number : (size : Size) (y : ℕ) → y < 2 ^ 64
    → number_from (bytes_of size y) ≡ y % 2 ^ (8 * size_bytes size)
bytes_number U8 y fits = number_of-part y 0 U8 fits (omega arith) ∙ omega arith
bytes_number U16 y fits = number_of-part y 0 U16 fits (omega arith) ∙ omega arith
bytes_number U32 y fits = number_of-part y 0 U32 fits (omega arith) ∙ omega arith
bytes_number U64 y fits = number_of-part y 0 U64 fits (omega arith) ∙ omega arith

-- ---- cells

byte_at_index : (cs : List Cell) (i : ℕ)
    → slice_index (map byte_in cs) i ≡ byte_in (slice_index_or cs i Unwritten)
byte_at_index cs i = get_or-map_default byte_in cs i Unwritten

-- cells that are all bytes are those of their bytes
cells_of_bytes : (cs : List Cell)
    → ((i : ℕ) → i < length cs → is_byte (slice_index_or cs i Unwritten) ≡ true)
    → map Byte (map byte_in cs) ≡ cs
cells_of_bytes [] h = refl
cells_of_bytes (Byte b ∷ cs) h =
    ap (λ rest. Byte b ∷ rest) (cells_of_bytes cs (λ i below. h (suc i) (omega arith)))
cells_of_bytes (Unwritten ∷ cs) h = absurd (let e = h 0 (omega arith) in cc)
cells_of_bytes (Piece r z k ∷ cs) h = absurd (let e = h 0 (omega arith) in cc)

-- eight of them are what a store of their number writes
stored_bytes : (cs : List Cell) → length cs ≡ 8 → EachByte (map byte_in cs)
    → ((i : ℕ) → i < 8 → is_byte (slice_index_or cs i Unwritten) ≡ true)
    → cs ≡ stored_cells (Num (number_of cs))
stored_bytes cs long each all =
    let bytes : List ℕ = map byte_in cs in
    let eight : length bytes ≡ 8 = length-map cs byte_in ∙ long in
    let same : to_le_bytes w64 (number_of cs) ≡ bytes =
    le_bytes_8 bytes (number_of cs) eight each refl in
    sym (ap (map Byte) same ∙ cells_of_bytes cs (λ i below. all i (omega arith)))

-- a write inside a slot, by its bytes
chunk_spliced : (cells : List Cell) (at : ℕ) (ys : List ℕ) → at % 8 + length ys ≤ 8
    → at + length ys ≤ length cells
    → AreSpliced (at % 8) (length ys) (map byte_in (chunk_of (at / 8) cells)) ys
    (map byte_in (chunk_of (at / 8) (cells_with cells at (map Byte ys))))
chunk_spliced cells at ys inside fits =
    let k : ℕ = at / 8 in
    let old : List Cell = chunk_of k cells in
    let new : List Cell = chunk_of k (cells_with cells at (map Byte ys)) in
    let long : length (map Byte ys) ≡ length ys = length-map ys Byte in
    record {
      below = λ i lt. byte_at_index new i
          ∙ ap byte_in
          (chunk_kept cells (map Byte ys) at k i Unwritten (omega arith) (inl (omega arith))
          (omega arith))
          ∙ sym (byte_at_index old i);
      there = λ i lt.
          let same : 8 * k + (at % 8 + i) - at ≡ i = omega arith in
          byte_at_index new (at % 8 + i)
          ∙ ap byte_in
          (chunk_written cells (map Byte ys) at k (at % 8 + i) Unwritten (omega arith) (omega arith)
          (omega arith) (omega arith))
          ∙ ap (λ j. byte_in (slice_index_or (map Byte ys) j Unwritten)) same
          ∙ sym (byte_at_index (map Byte ys) i)
          ∙ ap (λ bytes. slice_index bytes i) (map-byte_in-Byte ys);
      above = λ i from lt. byte_at_index new i
          ∙ ap byte_in
          (chunk_kept cells (map Byte ys) at k i Unwritten lt (inr (omega arith)) (omega arith))
          ∙ sym (byte_at_index old i);
    }

-- the number of a slot's cells after the bytes of another were written inside it
number_of-spliced : (cells : List Cell) (at y : ℕ) (size : Size) → at % 8 + size_bytes size ≤ 8
    → at + size_bytes size ≤ length cells → y < 2 ^ 64
    → EachByte (map byte_in (chunk_of (at / 8) cells))
    → number_of (chunk_of (at / 8) (cells_with cells at (map Byte (bytes_of size y))))
    ≡ spliced (8 * (at % 8)) (8 * size_bytes size) (number_of (chunk_of (at / 8) cells)) y
number_of-spliced cells at y size inside fits small old =
    let ys : List ℕ = bytes_of size y in
    let bs : List ℕ = map byte_in (chunk_of (at / 8) cells) in
    let cs : List ℕ = map byte_in (chunk_of (at / 8) (cells_with cells at (map Byte ys))) in
    let long : length ys ≡ size_bytes size = length-bytes_of size y in
    let splice = chunk_spliced cells at ys (omega arith) (omega arith) in
    spliced_number (at % 8) (size_bytes size) (8 - (at % 8 + size_bytes size)) bs ys cs y
    (omega arith) old long (bytes_number size y small)
    (subst (λ n. AreSpliced (at % 8) n bs ys cs) long splice)

-- each byte of a number is under 256
each_byte_of : (size : Size) (y : ℕ) → EachByte (bytes_of size y)
each_byte_of size y = slice_index_fits (bytes_of size y) (bytes_of_fit size y)

-- and so is each of a list with bytes of another in it
spliced_bytes : (r n : ℕ) (bs ys cs : List ℕ) → length cs ≡ 8 → EachByte bs → EachByte ys
    → AreSpliced r n bs ys cs → EachByte cs
spliced_bytes r n bs ys cs long old new h i =
    elim (cases_lt i 8) [
      | inl within ↦ elim (cases_lt i r) [
        | inl below ↦ let e = h.below i below in let b = old i in omega arith
        | inr from ↦ elim (cases_lt i (r + n)) [
          | inl before ↦
              let index : r + (i - r) ≡ i = omega arith in
              let e = h.there (i - r) (omega arith) in
              let b = new (i - r) in
              let same = ap (λ j. slice_index cs j) index in
              omega arith
          | inr above ↦ let e = h.above i (omega arith) within in let b = old i in omega arith
        ]
      ]
      | inr past ↦ let none = get_or_past cs i 0 (omega arith) in omega arith
    ]

-- ---- slots

-- what the cells of a slot spell is one of its numbers
whole_has : (e : Assigned) (s : StackSlot) (cs : List Cell) (old : Scalar) → AreWhole s old
    → SlotMeans e s cs → number_of cs < 2 ^ 64 → Has old (number_of cs)
whole_has e (Written marks) cs old whole h fits = whole (number_of cs) fits
whole_has e (Spilled (Number numbers)) cs old whole h fits =
    let same : number_of cs ≡ h.1.0 = ap number_of (h.2 ∙ ap stored_cells h.1.1)
    ∙ number_of-stored_cells h.1.0 h.1.2.0.below in
    subst (λ (c : Scalar). Has c (number_of cs)) (sym whole) (subst (Has numbers) (sym same) h.1.2)
whole_has e (Spilled k) cs old whole h fits = whole (number_of cs) fits

-- the slot that is left means its cells
slot_stored : (e : Assigned) (count next : ℕ) (s t : StackSlot) (cells : List Cell) (at n : ℕ)
    (size : Size) (numbers : Scalar)
    → at % 8 + size_bytes size ≤ 8 → at + size_bytes size ≤ length cells
    → 8 * (at / 8) + 8 ≤ length cells → All (IsCell count next) cells
    → Has numbers n → SlotMeans e s (chunk_of (at / 8) cells) → marks_after s (at % 8) size ≡ 255
    → IsSplicedSlot s (at % 8) size numbers t
    → SlotMeans e t (chunk_of (at / 8) (cells_with cells at (map Byte (bytes_of size n))))
slot_stored e count next s t cells at n size numbers inside fits eight fit has h all is =
    let small : n < 2 ^ 64 = has.0.below in
    let bytes : List ℕ = bytes_of size n in
    let some : length bytes ≡ size_bytes size = length-bytes_of size n in
    let long : length (map Byte bytes) ≡ length bytes = length-map bytes Byte in
    let old : List Cell = chunk_of (at / 8) cells in
    let new : List Cell = chunk_of (at / 8) (cells_with cells at (map Byte bytes)) in
    let wide = length-cells_with cells (map Byte bytes) at (omega arith) in
    let old_fit : All (IsCell count next) old =
    All-take (IsCell count next) 8 _ (All-drop (IsCell count next) (8 * (at / 8)) cells fit) in
    let old_bytes : EachByte (map byte_in old) =
    slice_index_fits (map byte_in old) (bytes_in_fit count next old old_fit) in
    let before : Marked (marks_of s) old = marked_slot e s old h in
    let marked : Marked (bit_or (marks_of s) (mask_of (at % 8) (at % 8 + length bytes))) new =
    marked_after (marks_of s) at cells bytes (omega arith) (omega arith) before in
    let full : Marked 255 new =
    subst (λ m. Marked m new)
    (ap (λ k. bit_or (marks_of s) (mask_of (at % 8) (at % 8 + k))) some ∙ all) marked in
    let number = number_of-spliced cells at n size inside fits small old_bytes in
    let splice = chunk_spliced cells at bytes (omega arith) (omega arith) in
    let new_bytes : EachByte (map byte_in new) =
    spliced_bytes (at % 8) (length bytes) (map byte_in old) bytes (map byte_in new)
    (length-map new byte_in
    ∙ length-chunk (at / 8) (cells_with cells at (map Byte bytes)) (omega arith)) old_bytes
    (each_byte_of size n) splice in
    let same : new ≡ stored_cells (Num (number_of new)) =
    stored_bytes new
    (length-chunk (at / 8) (cells_with cells at (map Byte bytes)) (omega arith)) new_bytes
    (λ i below. full i below (bit_at_ones 8 i below)) in
    let one : Has is.new (number_of new) = subst (Has is.new) (sym number)
    (is.spliced.contains (number_of old) n
    (whole_has e s old is.old is.whole h (number_of_fits count next old old_fit)) has) in
    SlotMeans-spill e (Number is.new) t (Num (number_of new)) new is.left
    (number_of new, refl, one) same

pub stores_number : (slots : List StackSlot) (at : ℕ) (size : Size) (numbers : Scalar)
    (t : StackSlot) → length slots ≡ frame_slots → at < stack_size
    → at % 8 + size_bytes size ≤ 8 → IsSlotStored (slot_at slots (at / 8)) (at % 8) size numbers t
    → StoresNumber slots at size numbers (slice_set slots (at / 8) t)
unfolding StoresNumber
stores_number slots at size numbers t count_is below inside is = λ e count next cells n fit has m.
    let wide : length cells ≡ stack_size = m.size in
    let bytes : List ℕ = bytes_of size n in
    let some : length bytes ≡ size_bytes size = length-bytes_of size n in
    let long : length (map Byte bytes) ≡ length bytes = length-map bytes Byte in
    let within : at / 8 < frame_slots = omega arith in
    let s : StackSlot = slot_at slots (at / 8) in
    let before = m.each (at / 8) within in
    let marked : SlotMeans e (Written (marks_after s (at % 8) size))
    (chunk_of (at / 8) (cells_with cells at (map Byte bytes))) =
    subst (λ k. Marked (bit_or (marks_of s) (mask_of (at % 8) (at % 8 + k)))
    (chunk_of (at / 8) (cells_with cells at (map Byte bytes)))) some
    (marked_after (marks_of s) at cells bytes (omega arith) (omega arith)
    (marked_slot e s (chunk_of (at / 8) cells) before)) in
    let after : SlotMeans e t (chunk_of (at / 8) (cells_with cells at (map Byte bytes))) =
    elim (cases_eq (marks_after s (at % 8) size) 255) [
      | inl all ↦ elim (is.whole all) [
        | inl known ↦
            slot_stored e count next s t cells at n size numbers inside (omega arith)
            (omega arith) fit has before all known
        | inr blank ↦
            subst (λ (u : StackSlot).
            SlotMeans e u (chunk_of (at / 8) (cells_with cells at (map Byte bytes))))
            (ap Written all ∙ sym blank.1) marked
      ]
      | inr other ↦
          subst (λ (u : StackSlot).
          SlotMeans e u (chunk_of (at / 8) (cells_with cells at (map Byte bytes))))
          (sym (is.parts other)) marked
    ] in
    slot_changed e slots cells (map Byte bytes) at (at / 8) t count_is within (omega arith)
    (omega arith) m after
