-- Laws of cells that are all number bytes, as those of packets and map values are.
use Rattle.std.proofs.Common.{◌≡◌, ℕ, true, false, List, [], ◌∷◌, map, take, drop, refl, ap, ◌∙◌, Ok}
use Rattle.std.specs.List.{list_any, list_all, take-map, drop-map}
use Rattle.isa_model.proofs.Common.{Num, Byte, number_from, is_unwritten, is_byte, byte_in, number_in, value_in}

-- none of them is unwritten
pub list_any-is_unwritten-Byte : (bytes : List ℕ) → list_any is_unwritten (map Byte bytes) ≡ false
list_any-is_unwritten-Byte [] = refl
list_any-is_unwritten-Byte (b ∷ bytes) = list_any-is_unwritten-Byte bytes

-- each of them is a number byte
pub list_all-is_byte-Byte : (bytes : List ℕ) → list_all is_byte (map Byte bytes) ≡ true
list_all-is_byte-Byte [] = refl
list_all-is_byte-Byte (b ∷ bytes) = list_all-is_byte-Byte bytes

-- the bytes in these cells are `bytes`
pub map-byte_in-Byte : (bytes : List ℕ) → map byte_in (map Byte bytes) ≡ bytes
map-byte_in-Byte [] = refl
map-byte_in-Byte (b ∷ bytes) = ap (λ rest. b ∷ rest) (map-byte_in-Byte bytes)

-- they spell the number that `bytes` spell
pub number_in-Byte : (bytes : List ℕ) → number_in (map Byte bytes) ≡ Ok (number_from bytes)
number_in-Byte bytes =
    rw (list_any-is_unwritten-Byte bytes, list_all-is_byte-Byte bytes, map-byte_in-Byte bytes)

-- their value is that number, and no pointer
pub value_in-Byte : (bytes : List ℕ) → value_in (map Byte bytes) ≡ Ok (Num (number_from bytes))
value_in-Byte bytes =
    rw (list_any-is_unwritten-Byte bytes, list_all-is_byte-Byte bytes, map-byte_in-Byte bytes)

-- a part of the cells has that part of the bytes
pub take-drop-Byte : (bytes : List ℕ) (i n : ℕ)
    → take n (drop i (map Byte bytes)) ≡ map Byte (take n (drop i bytes))
take-drop-Byte bytes i n = ap (take n) (drop-map Byte i bytes) ∙ take-map Byte n (drop i bytes)
