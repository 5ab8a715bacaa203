-- The results of reads and writes of the packet and of map values.
use Rattle.checked_vm.proofs.Common.{◌≡◌, ℕ, true, List, map, take, drop, Option, Result, Ok, Some, ◌+◌, ◌-◌, ◌≤◌, leb, length, slice_set, ℤ, sym, ap, ◌∙◌, arith, option_map, length-map, drop-drop, le-leb, Byte, TrapReason, State, content_of, and_then, region_cells, index_of_serial, put_value, place_in, number_in, value_in, index_at, read, write, bytes_in, bytes_at, value_bytes, Core, state_of}
use borrow.Rule.Slice.PartMut.{put_mid}
use Rattle.isa_model.specs.declared.values.Region.{Region}
use Rattle.isa_model.specs.declared.values.Region.TheVariants.{Packet, MapValue}
use Rattle.isa_model.specs.declared.values.Cell.{Cell}
use Rattle.isa_model.specs.Code.Numbers.{number_from}
use Rattle.isa_model.specs.declared.values.Value.TheVariants.{Num}
use Rattle.isa_model.proofs.ByteCells.{list_any-is_unwritten-Byte, list_all-is_byte-Byte, map-byte_in-Byte, number_in-Byte, value_in-Byte, take-drop-Byte}
use Rattle.checked_vm.proofs.ReadsLaws.{value_cells}

-- a read of the packet returns the cells of its bytes there
pub read_packet_part : (bytes : List ℕ) (i n : ℕ) → i + n ≤ length bytes
    → and_then (place_in (Some (map Byte bytes)) (Some i) n)
    (λ j. Ok (take n (drop j (map Byte bytes)))) ≡ Ok (map Byte (take (i + n - i) (drop i bytes)))
read_packet_part bytes i n within =
    let count : i + n - i ≡ n = omega arith in
    let fits : leb (i + n) (length (map Byte bytes)) ≡ true =
    rw length-map (le-leb (i + n) (length bytes) within) in
    rw (count, fits, take-drop-Byte)

-- a write to the packet puts the bytes there and keeps the rest
pub write_packet_part : (bytes new after : List ℕ) (i : ℕ) (core : Core) → after ≡ new
    → i + length new ≤ length bytes
    → write (state_of core bytes) Packet (Some i) (map Byte new)
    ≡ Ok (state_of core (put_mid i (i + length new - i) bytes after))
write_packet_part bytes new after i core same within =
    let fits : leb (i + length new) (length (map Byte bytes)) ≡ true =
    rw length-map (le-leb (i + length new) (length bytes) within) in
    let cells : length (map Byte new) ≡ length new = length-map new Byte in
    let count : i + length new - i ≡ length new = omega arith in
    rw (same, cells, fits, map-byte_in-Byte, count, drop-drop)

-- the number in cells of bytes
pub number_in_bytes : (found : Result (List Cell) TrapReason) (bytes : List ℕ)
    → found ≡ Ok (map Byte bytes) → and_then found number_in ≡ Ok (number_from bytes)
number_in_bytes found bytes e = rw e (number_in-Byte bytes)

-- the number in eight cells of bytes, which are no pointer
pub value_in_bytes : (found : Result (List Cell) TrapReason) (bytes : List ℕ)
    → found ≡ Ok (map Byte bytes) → and_then found value_in ≡ Ok (Num (number_from bytes))
value_in_bytes found bytes e = rw e (value_in-Byte bytes)

-- the bytes in cells of bytes are those bytes
pub bytes_in_bytes : (found : Result (List Cell) TrapReason) (bytes : List ℕ)
    → found ≡ Ok (map Byte bytes) → and_then found bytes_in ≡ Ok bytes
bytes_in_bytes found bytes e =
    rw (e, list_any-is_unwritten-Byte bytes, list_all-is_byte-Byte bytes, map-byte_in-Byte bytes)

-- the bytes at an argument, in a region whose cells are bytes
pub bytes_at_part : (s : State) (r q : Region) (z : ℤ) (n : ℕ) (at : Option ℕ) (bytes new : List ℕ)
    → r ≡ q → at ≡ index_at r z → read s q at n ≡ Ok (map Byte bytes) → new ≡ bytes
    → bytes_at s (record { region = r; offset = z }) n ≡ Ok new
bytes_at_part s r q z n at bytes new same_region at_is found same =
    let there : read s r (index_at r z) n ≡ Ok (map Byte bytes) =
    ap (λ (x : Region). read s x (index_at r z) n) same_region
    ∙ ap (λ (o : Option ℕ). read s q o n) (sym at_is) ∙ found in
    bytes_in_bytes (read s r (index_at r z) n) bytes there ∙ ap Ok (sym same)

-- a write to a live map value puts the bytes there
pub write_map_value_part : (s : State) (m n : ℕ) (at : Option ℕ) (new map_value : List ℕ) (i : ℕ)
    → value_bytes (content_of s m) n ≡ Some map_value
    → place_in (Some (map Byte map_value)) at (length new) ≡ Ok i
    → write s (MapValue m n) at (map Byte new)
    ≡ Ok (record s {
      maps = slice_set s.maps m
          (put_value (content_of s m) (index_of_serial (content_of s m) n) i new);
    })
write_map_value_part s m n at new map_value i found fits =
    let cells : region_cells s (MapValue m n) ≡ Some (map Byte map_value) =
    value_cells (content_of s m) n ∙ ap (option_map (map Byte)) found in
    let count : length (map Byte new) ≡ length new = length-map new Byte in
    rw (cells, count, fits, map-byte_in-Byte new)
