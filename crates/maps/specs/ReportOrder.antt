-- The keys of an index with their places in the order of the report, and the keys and values of a
-- map in that order.
use Rattle.std.proofs.Common.{◌≡◌, ℕ, List, ◌++◌, Option, Some, None, map, drop, length}
use Rattle.std.specs.FinMap.{entries, values}
use Rattle.std.specs.List.{range_with_len}
use Rattle.byteorder.specs.Endian.{little_bytes}
use Rattle.isa_model.specs.declared.map_defs.MapType.TheVariants.{Hash}
use Rattle.maps.specs.declared.either.EitherIndex.{EitherIndex}
use Rattle.maps.specs.declared.either.EitherIndex.TheVariants as either
use Rattle.maps.specs.Either.{places_of, kind_of}
use Rattle.map_indexes.specs.PlaceKeys.{places}

-- an array's keys by their index, a hash map's by their bytes
abbrev pub listed_of : EitherIndex → List (List ℕ × ℕ)
listed_of (either.Array s) = map (λ i. (little_bytes 4 i, i)) (range_with_len 0 s.entries)
listed_of (either.Chain s) = entries (places s.keys.by_place)

-- a list of the places of a hash map's keys, in the order of the keys
abbrev pub IsList : EitherIndex → List ℕ → Type 0
IsList index list = kind_of index ≡ Hash → list ≡ values (places_of index)

-- bytes with those of a key at their front, if there is one
abbrev pub with_key_of : {X : Type 0} → Option (List ℕ × X) → List ℕ → List ℕ
with_key_of None bytes = bytes
with_key_of (Some e) bytes = e.0 ++ drop (length e.0) bytes
