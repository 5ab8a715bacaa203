-- The places of keys in the order of the keys, which is that of the finite map `places`.
use Rattle.std.proofs.Common.{ℕ, List, [], map, unwrap_or}
use Rattle.map_indexes.specs.PlaceKeys.{PlaceKeys, key_in, pairs_from}

-- the key of a place, or no bytes where it has none
abbrev pub key_or_none : PlaceKeys → ℕ → List ℕ
key_or_none keys p = unwrap_or (key_in keys p) []

-- the places that have a key, from place 0 on
abbrev pub used_places : ℕ → PlaceKeys → List ℕ
used_places at keys = map (λ e. e.1) (pairs_from at keys)
