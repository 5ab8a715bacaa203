-- The keys of an index of either map type are keys of its size.
use Rattle.maps.proofs.Common.{◌≡◌, ℕ, List, Some, get, EitherIndex, IsKey, key_size_of, places_of}
use Rattle.maps.specs.declared.either.EitherIndex.TheVariants as either
use Rattle.map_indexes.proofs.KeyBytes.{key_found, index_found}

pub either_keys : (s : EitherIndex) (k : List ℕ) (p : ℕ) → get (places_of s) k ≡ Some p
    → IsKey (key_size_of s) k
either_keys (either.Array s) k p e = index_found s.entries k p e
either_keys (either.Chain s) k p e = key_found s.keys.size s.keys.by_place s.sized k p e
