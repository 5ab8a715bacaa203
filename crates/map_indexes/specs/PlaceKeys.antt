-- Places, each of which may have a key, and the finite map from keys to places that they make.
use Rattle.std.specs.Prelude.{◌≡◌, ◌≢◌, ℕ, ◌+◌, List, [], ◌∷◌, length, Option, Some, None, Bool, true, false, slice_index_or}
use Rattle.std.specs.FinMap.{FinMap, from_entries, get, insert, len}
use Rattle.isa_model.specs.Machine.MapContents.{key_order}
use Rattle.isa_model.specs.Machine.MachineStates.{AreBytes}
use Rattle.map_indexes.specs.BlockRows.{block_row}

-- which place each key has
abbrev pub Places : Type 0
Places = FinMap key_order ℕ

-- the key of each place, from place 0 on
abbrev pub PlaceKeys : Type 0
PlaceKeys = List (Option (List ℕ))

-- the key of a place, if it has one
abbrev pub key_in : PlaceKeys → ℕ → Option (List ℕ)
key_in keys place = slice_index_or keys place None

-- the keys with their places, where the first place is `at`
abbrev pub pairs_from : ℕ → PlaceKeys → List (List ℕ × ℕ)
pairs_from at [] = []
pairs_from at (None ∷ keys) = pairs_from (at + 1) keys
pairs_from at (Some key ∷ keys) = (key, at) ∷ pairs_from (at + 1) keys

-- which place each of these keys has
abbrev pub places : PlaceKeys → Places
places keys = from_entries (pairs_from 0 keys)

-- no key has two places
abbrev pub IsDistinct : PlaceKeys → Type 0
IsDistinct keys =
    (i j : ℕ) (key : List ℕ) → key_in keys i ≡ Some key → key_in keys j ≡ Some key → i ≡ j

-- a key is bytes, and has the map's key size
pub record IsKey (size : ℕ) (key : List ℕ) : Type 0 where
  pub long : length key ≡ size
  pub bytes : AreBytes key

-- the keys of all places are keys of this size
abbrev pub AreKeys : ℕ → PlaceKeys → Type 0
AreKeys size keys = (p : ℕ) (key : List ℕ) → key_in keys p ≡ Some key → IsKey size key

-- the keys by place that a block of keys has, where these places are in use
abbrev pub keys_by_place : ℕ → List ℕ → ℕ → List Bool → PlaceKeys
keys_by_place size block at [] = []
keys_by_place size block at (true ∷ used) =
    Some (block_row size block at) ∷ keys_by_place size block (at + 1) used
keys_by_place size block at (false ∷ used) = None ∷ keys_by_place size block (at + 1) used

-- keys of one size, by place
pub record KeysByPlace : Type 0 where
  pub size : ℕ
  pub by_place : PlaceKeys

-- the key takes a place that no key had, and every other key keeps its own
pub record TakesPlace (old : Places) (key : List ℕ) (p : ℕ) (new : Places) : Type 0 where
  pub added : new ≡ insert old key p
  pub free : (k : List ℕ) → get old k ≢ Some p

-- how many places have a key
abbrev pub key_count : PlaceKeys → ℕ
key_count [] = 0
key_count (None ∷ keys) = key_count keys
key_count (Some key ∷ keys) = key_count keys + 1

-- no key has two places, and this is how many places have a key
pub record IsScan (keys : PlaceKeys) (count : ℕ) : Type 0 where
  pub distinct : IsDistinct keys
  pub counted : count ≡ key_count keys
  pub mapped : count ≡ len (places keys)
