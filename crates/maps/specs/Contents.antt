-- The content of a map's places and block: the finite map from keys to values.
use Rattle.std.specs.Prelude.{ℕ, List, map}
use Rattle.std.specs.FinMap.{empty, entries}
use Rattle.isa_model.specs.declared.map_defs.MapType.{MapType}
use Rattle.isa_model.specs.declared.map_defs.MapType.TheVariants.{Hash, Array}
use Rattle.isa_model.specs.declared.map_defs.MapDef.{MapDef}
use Rattle.isa_model.specs.Machine.States.{KeyValues}
use Rattle.map_indexes.specs.BlockRows.{block_row}
use Rattle.map_indexes.specs.ArrayPlaces.{array_places}
use Rattle.map_indexes.specs.PlaceKeys.{Places}

-- the value of each key, in the order of the keys
abbrev pub content : ℕ → Places → List ℕ → KeyValues
content size places block = map (λ e. (e.0, block_row size block e.1)) (entries places)

abbrev pub hash_row : (key_size value_size entries : ℕ) → MapDef
hash_row key_size value_size entries =
    record { kind = Hash; key_size = key_size; value_size = value_size; entries = entries }

-- at the start an array has all its keys, and a hash map none
abbrev pub starting_places : MapType → ℕ → Places
starting_places Array entries = array_places entries
starting_places Hash entries = empty
