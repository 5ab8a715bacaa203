-- Indexes of either map type: an array's or a hash map's.
use Rattle.std.specs.Prelude.{◌≡◌, ℕ, ◌-◌, ◌<◌, ◌≤◌, List, length, Some}
use Rattle.std.specs.FinMap.{get, len}
use Rattle.isa_model.specs.declared.map_defs.MapType.{MapType}
use Rattle.isa_model.specs.declared.map_defs.MapType.TheVariants.{Hash, Array}
use Rattle.maps.specs.declared.either.EitherIndex.{EitherIndex}
use Rattle.maps.specs.declared.either.EitherIndex.TheVariants as either
use Rattle.map_indexes.specs.ArrayPlaces.{array_places}
use Rattle.map_indexes.specs.ArrayLaws.{array_in_range, array_apart, array_few}
use Rattle.map_indexes.specs.ScanLaws.{scan_in_range, scan_apart, scan_few}
use Rattle.map_indexes.specs.PlaceKeys.{Places, places}

abbrev pub places_of : EitherIndex → Places
places_of (either.Array s) = array_places s.entries
places_of (either.Chain s) = places s.keys.by_place

abbrev pub kind_of : EitherIndex → MapType
kind_of (either.Array s) = Array
kind_of (either.Chain s) = Hash

abbrev pub key_size_of : EitherIndex → ℕ
key_size_of (either.Array s) = 4
key_size_of (either.Chain s) = s.keys.size

abbrev pub room_of : EitherIndex → ℕ
room_of (either.Array s) = s.entries
room_of (either.Chain s) = length s.keys.by_place

pub either_in_range : (s : EitherIndex) (k : List ℕ) (p : ℕ) → get (places_of s) k ≡ Some p
    → p < room_of s
either_in_range (either.Array s) k p e = array_in_range s.entries k p e
either_in_range (either.Chain s) k p e = scan_in_range s.keys.by_place k p e

pub either_apart : (s : EitherIndex) (j k : List ℕ) (p : ℕ) → get (places_of s) j ≡ Some p
    → get (places_of s) k ≡ Some p → j ≡ k
either_apart (either.Array s) j k p e f = array_apart s.entries j k p e f
either_apart (either.Chain s) j k p e f = scan_apart s.keys.by_place j k p e f

pub either_few : (s : EitherIndex) → len (places_of s) ≤ room_of s
either_few (either.Array s) = array_few s.entries
either_few (either.Chain s) =
    scan_few s.keys.by_place (length s.keys.by_place - length s.free.items) s.index.scan
