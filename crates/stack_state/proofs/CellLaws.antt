-- Cells of a slot: bytes that are marked, and values that were stored.
use Rattle.stack_state.proofs.Common.{◌≡◌, ◌≢◌, ℕ, zero, suc, ◌+◌, ◌-◌, ◌*◌, ◌/◌, ◌%◌, ◌^◌, ◌<◌, ◌≤◌, ℤ, pos, negsuc, true, false, List, [], ◌∷◌, map, take, drop, length, slice_index_or, Option, Some, None, Ok, ◌⊎◌, bit_or, sym, ap, ◌∙◌, subst, inl, inr, arith, refl, bit_at, byte_at, bytes_low_first, list_any, list_all, cases_lt, nat_tests, from_le_bytes-to_le_bytes_8, pow-add, div-div-eq-div-mul, div-le_self, mod-eq_of_lt, pow-succ', bit_at_or, bit_at-lt, bit_at_mask_above, bit_at_mask_below, length-map, Size, U8, U16, U32, U64, Value, Num, Ptr, Cell, Unwritten, Byte, Piece, size_bytes, bytes_of, number_from, is_unwritten, is_byte, number_of, number_in, pieces, value_in, same_region, same_int, EachByte, Kind, Unset, Number, Context, Stack, Packet, PacketEnd, Map, MapValue, MapValueOrNull, Assigned, Allows, AllowsOrNull, StackSlot, Written, Spilled, marks_of, mask_of, part_of, chunk_of, cells_with, stored_cells, Marked, SlotMeans}
use Rattle.isa_model.specs.declared.values.Region.{Region}
use Rattle.isa_model.specs.declared.values.Region.TheVariants as region
use Rattle.isa_model.specs.declared.values.Value.TheVariants as value
use Rattle.isa_model.proofs.LittleEndianLaws.{bytes_low_first-suc}
use Rattle.isa_model.proofs.ByteCells.{map-byte_in-Byte, value_in-Byte, take-drop-Byte}
use Rattle.stack_state.proofs.SpelledBytes.{number_from-fits}
use Rattle.stack_state.proofs.SpliceLaws.{chunk_kept, chunk_written}

-- ---- bytes

pub written_byte : (bytes : List ℕ) (i : ℕ) → i < length bytes
    → is_byte (slice_index_or (map Byte bytes) i Unwritten) ≡ true
written_byte [] i h = absurd (omega arith)
written_byte (b ∷ bytes) zero h = refl
written_byte (b ∷ bytes) (suc i) h = written_byte bytes i (omega arith)

-- cells that are bytes at each index
pub all_bytes : (cs : List Cell)
    → ((i : ℕ) → i < length cs → is_byte (slice_index_or cs i Unwritten) ≡ true)
    → list_all is_byte cs ≡ true
all_bytes [] h = refl
all_bytes (Unwritten ∷ cs) h = h 0 (omega arith)
all_bytes (Byte b ∷ cs) h = all_bytes cs (λ i lt. h (suc i) (omega arith))
all_bytes (Piece r z k ∷ cs) h = absurd (let e : false ≡ true = h 0 (omega arith) in cc)

pub none_unwritten : (cs : List Cell) → list_all is_byte cs ≡ true
    → list_any is_unwritten cs ≡ false
none_unwritten [] h = refl
none_unwritten (Unwritten ∷ cs) h = absurd (let e : false ≡ true = h in cc)
none_unwritten (Byte b ∷ cs) h = none_unwritten cs h
none_unwritten (Piece r z k ∷ cs) h = absurd (let e : false ≡ true = h in cc)

-- bytes are read as their number
pub number_in-bytes : (cs : List Cell) → list_all is_byte cs ≡ true
    → number_in cs ≡ Ok (number_of cs)
number_in-bytes cs h = let written = none_unwritten cs h in rw (written, h)

pub value_in-bytes : (cs : List Cell) → list_all is_byte cs ≡ true
    → value_in cs ≡ Ok (Num (number_of cs))
value_in-bytes cs h = let written = none_unwritten cs h in rw (written, h)

pub length-bytes_of : (size : Size) (n : ℕ) → length (bytes_of size n) ≡ size_bytes size
length-bytes_of U8 n = refl
length-bytes_of U16 n = refl
length-bytes_of U32 n = refl
length-bytes_of U64 n = refl

-- that many bytes spell a number that fits them
pub number_from_below : (size : Size) (bytes : List ℕ) → length bytes ≡ size_bytes size
    → EachByte bytes → number_from bytes < 2 ^ (8 * size_bytes size)
number_from_below U8 bytes long h = number_from-fits bytes 1 (omega arith) long h
number_from_below U16 bytes long h = number_from-fits bytes 2 (omega arith) long h
number_from_below U32 bytes long h = number_from-fits bytes 4 (omega arith) long h
number_from_below U64 bytes long h = number_from-fits bytes 8 (omega arith) long h

-- ---- marks

pub no_marks : (cs : List Cell) → Marked 0 cs
no_marks cs = λ i within bit. absurd (grind arith)

-- a byte of the slot that a write leaves
kept_byte : (marks k : ℕ) (cells : List Cell) (bytes : List ℕ) (at i : ℕ) → i < 8
    → (8 * k + i < at) ⊎ (at + length (map Byte bytes) ≤ 8 * k + i)
    → at + length (map Byte bytes) ≤ length cells
    → Marked marks (chunk_of k cells) → bit_at marks i ≡ 1
    → is_byte (slice_index_or (chunk_of k (cells_with cells at (map Byte bytes))) i Unwritten) ≡
    true
kept_byte marks k cells bytes at i within outside fits h bit =
    ap is_byte (chunk_kept cells (map Byte bytes) at k i Unwritten within outside fits)
    ∙ h i within bit

-- one that it writes
new_byte : (k : ℕ) (cells : List Cell) (bytes : List ℕ) (at i : ℕ) → i < 8 → at ≤ 8 * k + i
    → 8 * k + i < at + length (map Byte bytes) → at + length (map Byte bytes) ≤ length cells
    → is_byte (slice_index_or (chunk_of k (cells_with cells at (map Byte bytes))) i Unwritten) ≡
    true
new_byte k cells bytes at i within from to fits =
    let long : length (map Byte bytes) ≡ length bytes = length-map bytes Byte in
    ap is_byte (chunk_written cells (map Byte bytes) at k i Unwritten within from to fits)
    ∙ written_byte bytes (8 * k + i - at) (omega arith)

-- the marks after bytes were written inside the slot
pub marked_after : (marks at : ℕ) (cells : List Cell) (bytes : List ℕ) → at % 8 + length bytes ≤ 8
    → at + length bytes ≤ length cells → Marked marks (chunk_of (at / 8) cells)
    → Marked (bit_or marks (mask_of (at % 8) (at % 8 + length bytes)))
    (chunk_of (at / 8) (cells_with cells at (map Byte bytes)))
marked_after marks at cells bytes inside fits h = λ i within bit.
    let long : length (map Byte bytes) ≡ length bytes = length-map bytes Byte in
    let both = bit_at_or marks (mask_of (at % 8) (at % 8 + length bytes)) i in
    let one : bit_at marks i < 2 = bit_at-lt marks i in
    elim (cases_lt i (at % 8)) [
      | inl before ↦
          kept_byte marks (at / 8) cells bytes at i within (inl (omega arith)) (omega arith) h
          (let none = bit_at_mask_below (at % 8) (at % 8 + length bytes) i before in omega arith)
      | inr from ↦ elim (cases_lt i (at % 8 + length bytes)) [
        | inl to ↦
            new_byte (at / 8) cells bytes at i within (omega arith) (omega arith) (omega arith)
        | inr after ↦
            kept_byte marks (at / 8) cells bytes at i within (inr (omega arith)) (omega arith) h
            (let none = bit_at_mask_above (at % 8) (at % 8 + length bytes) i after in omega arith)
      ]
    ]

-- the bytes of a spilled number are number bytes
pub marked_number : (n : ℕ) (cs : List Cell) → cs ≡ stored_cells (Num n) → Marked 255 cs
marked_number n cs same = λ i within bit.
    subst (λ (c : List Cell). is_byte (slice_index_or c i Unwritten) ≡ true) (sym same)
    (written_byte (bytes_of U64 n) i within)

-- the marks of any slot are of number bytes
pub marked_slot : (e : Assigned) (s : StackSlot) (cs : List Cell) → SlotMeans e s cs
    → Marked (marks_of s) cs
marked_slot e (Written marks) cs h = h
marked_slot e (Spilled (Number numbers)) cs h = marked_number h.1.0 cs (h.2 ∙ ap stored_cells h.1.1)
marked_slot e (Spilled k) cs h = no_marks cs

-- ---- values

pub number_of-stored_cells : (n : ℕ) → n < 2 ^ 64 → number_of (stored_cells (Num n)) ≡ n
number_of-stored_cells n h =
    ap number_from (map-byte_in-Byte (bytes_of U64 n)) ∙ from_le_bytes-to_le_bytes_8 n h

bytes_from : (i m n : ℕ) → i ≤ m
    → drop i (bytes_low_first 0 m n) ≡ bytes_low_first 0 (m - i) (n / 2 ^ (8 * i))
bytes_from zero m n inside =
    ap (λ j. bytes_low_first 0 m j) (let e : n ≡ n / 2 ^ (8 * 0) = omega arith in e)
    ∙ ap (λ k. bytes_low_first 0 k (n / 2 ^ (8 * 0))) (let e : m ≡ m - 0 = omega arith in e)
bytes_from (suc i) zero n inside = absurd (omega arith)
bytes_from (suc i) (suc m) n inside =
    let power : 256 * 2 ^ (8 * i) ≡ 2 ^ (8 * suc i) = sym (pow-add 2 8 (8 * i))
    ∙ ap (λ e. 2 ^ e) (let e : 8 + 8 * i ≡ 8 * suc i = omega arith in e) in
    ap (drop i) (bytes_low_first-suc 0 m n) ∙ bytes_from i m (n / 256) (omega arith)
    ∙ ap (λ q. bytes_low_first 0 (m - i) q)
    (div-div-eq-div-mul n 256 (2 ^ (8 * i)) ∙ ap (λ p. n / p) power)
    ∙ ap (λ k. bytes_low_first 0 k (n / 2 ^ (8 * suc i)))
    (let e : m - i ≡ suc m - suc i = omega arith in e)

bytes_taken : (k m i n : ℕ) → k ≤ m → take k (bytes_low_first i m n) ≡ bytes_low_first i k n
bytes_taken zero m i n inside = refl
bytes_taken (suc k) zero i n inside = absurd (omega arith)
bytes_taken (suc k) (suc m) i n inside =
    ap (λ bytes. byte_at i n ∷ bytes) (bytes_taken k m (suc i) n (omega arith))

-- what the lowest bytes of a number spell
low_bytes : (size : Size) (n : ℕ) → n < 2 ^ 64
    → number_from (bytes_low_first 0 (size_bytes size) n) ≡ n % 2 ^ (8 * size_bytes size)
low_bytes U8 n fits = omega arith
low_bytes U16 n fits = let next = div-div-eq-div-mul n 256 256 in omega arith
low_bytes U32 n fits =
    let first = div-div-eq-div-mul n 256 256 in
    let second = div-div-eq-div-mul n 65536 256 in
    let third = div-div-eq-div-mul n 16777216 256 in
    omega arith
low_bytes U64 n fits = from_le_bytes-to_le_bytes_8 n fits ∙ sym (mod-eq_of_lt fits)

-- what some of its bytes spell
pub number_of-part : (n from : ℕ) (size : Size) → n < 2 ^ 64 → from + size_bytes size ≤ 8
    → number_of (part_of (stored_cells (Num n)) from (size_bytes size))
    ≡ n / 2 ^ (8 * from) % 2 ^ (8 * size_bytes size)
number_of-part n from size fits inside =
    let count = size_bytes size in
    let rest = n / 2 ^ (8 * from) in
    let small : rest < 2 ^ 64 = (let l = div-le_self n (2 ^ (8 * from)) in omega arith) in
    let bytes : take count (drop from (bytes_of U64 n)) ≡ bytes_low_first 0 count rest =
    ap (take count) (bytes_from from 8 n (omega arith))
    ∙ bytes_taken count (8 - from) 0 rest (omega arith) in
    ap number_of (take-drop-Byte (bytes_of U64 n) from count)
    ∙ ap number_from (map-byte_in-Byte (take count (drop from (bytes_of U64 n))) ∙ bytes)
    ∙ low_bytes size rest small

value_in-number : (n : ℕ) → n < 2 ^ 64 → value_in (stored_cells (Num n)) ≡ Ok (Num n)
value_in-number n h =
    value_in-Byte (bytes_of U64 n) ∙ ap (λ (m : ℕ). Ok (Num m)) (from_le_bytes-to_le_bytes_8 n h)

same_region-refl : (r : Region) → same_region r r ≡ true
same_region-refl region.Context = refl
same_region-refl region.Packet = refl
same_region-refl region.PacketEnd = refl
same_region-refl (region.Map m) = grind (arith, nat_tests)
same_region-refl (region.CallFrame n) = grind (arith, nat_tests)
same_region-refl (region.MapValue m n) = grind (arith, nat_tests)

same_int-refl : (z : ℤ) → same_int z z ≡ true
same_int-refl (pos n) = grind (arith, nat_tests)
same_int-refl (negsuc n) = grind (arith, nat_tests)

value_in-pointer : (r : Region) (z : ℤ) → value_in (pieces r z) ≡ Ok (Ptr r z)
value_in-pointer r z = let e = same_region-refl r in let f = same_int-refl z in rw (e, f)

pointer_stored : (v : Value) (r : Region) (z : ℤ) → v ≡ Ptr r z → value_in (stored_cells v) ≡ Ok v
pointer_stored v r z e =
    subst (λ (x : Value). value_in (stored_cells x) ≡ Ok x) (sym e) (value_in-pointer r z)

number_stored : (v : Value) (n : ℕ) → v ≡ Num n → n < 2 ^ 64 → value_in (stored_cells v) ≡ Ok v
number_stored v n e h =
    subst (λ (x : Value). value_in (stored_cells x) ≡ Ok x) (sym e) (value_in-number n h)

null_stored : (e : Assigned) (m : ℕ) (o : Option ℕ) (v : Value) → AllowsOrNull e m o v
    → value_in (stored_cells v) ≡ Ok v
null_stored e m None v h = number_stored v 0 h (omega arith)
null_stored e m (Some n) v h = pointer_stored v (region.MapValue m n) (pos 0) h.0

-- a load of the stored cells returns the value itself
pub value_stored : (e : Assigned) (k : Kind) (v : Value) → k ≢ Unset → Allows e k v
    → value_in (stored_cells v) ≡ Ok v
value_stored e Unset v set h = absurd (set refl)
value_stored e (Number numbers) v set h = number_stored v h.0 h.1 h.2.0.below
value_stored e Context v set h = pointer_stored v _ _ h
value_stored e (Stack f z) v set h = pointer_stored v _ _ h.2
value_stored e (Packet f i l g p) v set h = pointer_stored v _ _ h.points
value_stored e PacketEnd v set h = pointer_stored v _ _ h
value_stored e (Map m) v set h = pointer_stored v _ _ h
value_stored e (MapValue m l g) v set h = pointer_stored v _ _ h.points
value_stored e (MapValueOrNull m i) v set h = null_stored e m (e.map_value i) v h

-- a value is stored in eight cells
pub length-stored_cells : (v : Value) → v ≢ value.Unset → length (stored_cells v) ≡ 8
length-stored_cells value.Unset set = absurd (set refl)
length-stored_cells (Num n) set = refl
length-stored_cells (Ptr r z) set = refl
