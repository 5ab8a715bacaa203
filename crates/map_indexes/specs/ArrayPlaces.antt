-- The places of an array's keys: each index, as 4 bytes, the lowest first, has itself as its place.
use Rattle.std.specs.Prelude.{ℕ, zero, suc}
use Rattle.std.specs.FinMap.{empty, insert}
use Rattle.byteorder.specs.Endian.{little_bytes}
use Rattle.map_indexes.specs.PlaceKeys.{Places}

-- the indexes below n
abbrev pub array_places : ℕ → Places
array_places zero = empty
array_places (suc n) = insert (array_places n) (little_bytes 4 n) n
