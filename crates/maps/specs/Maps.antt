-- The maps of an image as contracts see them: rows, places of keys, and blocks of values.
use Rattle.std.specs.Prelude.{◌≡◌, ℕ, ◌+◌, ◌*◌, ◌<◌, ◌≤◌, List, [], length, map, replicate, slice_index_or, slice_set, Some, refl}
use Rattle.std.specs.Coded.{Coded, code_by, coded×, coded_ℕ, coded_list}
use Rattle.std.specs.FinMap.{empty, get, len, code}
use Rattle.isa_model.specs.contracts.map_defs.MapDef.{the_row}
use Rattle.isa_model.specs.declared.map_defs.MapType.TheVariants.{Hash, Array}
use Rattle.isa_model.specs.declared.map_defs.MapDef.{MapDef}
use Rattle.isa_model.specs.Code.MapRows.{IsRow}
use Rattle.isa_model.specs.Machine.States.{KeyValues}
use Rattle.isa_model.specs.Machine.MachineStates.{AreBytes}
use Rattle.isa_model.specs.Machine.MapContents.{update_answer, delete_answer, after_update, after_delete}
use Rattle.isa_model.specs.Reporting.Reports.{in_report_order}
use Rattle.std.specs.List.{splice}
use Rattle.map_indexes.specs.BlockRows.{block_row, with_block_row}
use Rattle.map_indexes.specs.ArrayPlaces.{array_places}
use Rattle.map_indexes.specs.PlaceKeys.{Places, IsKey}
use Rattle.maps.specs.Contents.{content, starting_places}
use Rattle.maps.specs.Changes.{Updates, Deletes}

-- a map: the place of each key, and the values in a block, place after place
pub record MapState : Type 0 where
  pub row : MapDef
  pub places : Places
  pub block : List ℕ

-- how proofs tell maps apart
abbrev pub map_code : Coded MapState
map_code =
    code_by (MapDef × (Places × List ℕ))
    (coded× the_row.coded (coded× (code (coded_list coded_ℕ) coded_ℕ) (coded_list coded_ℕ)))
    (λ m. (m.row, (m.places, m.block)))
    (λ p. record { row = p.0; places = p.1.0; block = p.1.1 }) (λ _. refl)

-- its content: the value of each key, in the order of the keys
abbrev pub content_in : MapState → KeyValues
content_in m = content m.row.value_size m.places m.block

-- its keys and values in the order of the report
abbrev pub ordered_in : MapState → KeyValues
ordered_in m = in_report_order m.row.kind m.row.entries (content_in m)

abbrev pub map_at : List MapState → ℕ → MapState
map_at maps m = slice_index_or maps m
    (record {
      row = record { kind = Hash; key_size = 0; value_size = 0; entries = 0 };
      places = empty;
      block = [];
    })

-- the maps with another block of values in one
abbrev pub with_block : List MapState → ℕ → List ℕ → List MapState
with_block maps m block = slice_set maps m (record (map_at maps m) { block = block })

abbrev pub rows_of : List MapState → List MapDef
rows_of maps = map (λ m. m.row) maps

abbrev pub contents_of : List MapState → List KeyValues
contents_of maps = map content_in maps

-- ---- what holds of each map

-- each place is below `entries`, no two keys have one place, there are no more keys than `entries`,
-- and the block has a value for each place; keys are keys of the row's size, and values are bytes;
-- in an array, the place of each key is the number that it spells
pub record IsMap (m : MapState) : Type 0 where
  pub in_range : (k : List ℕ) (p : ℕ) → get m.places k ≡ Some p → p < m.row.entries
  pub apart : (j k : List ℕ) (p : ℕ) → get m.places j ≡ Some p → get m.places k ≡ Some p → j ≡ k
  pub few : len m.places ≤ m.row.entries
  pub whole : length m.block ≡ m.row.entries * m.row.value_size
  pub keys : (k : List ℕ) (p : ℕ) → get m.places k ≡ Some p → IsKey m.row.key_size k
  pub bytes : AreBytes m.block
  pub is_row : IsRow m.row
  pub array_places : m.row.kind ≡ Array → m.places ≡ array_places m.row.entries

-- ---- the start

-- an array has all its keys, a hash map none, and all values are zero-filled
abbrev pub starting_map : MapDef → MapState
starting_map row =
    record {
      row = row;
      places = starting_places row.kind row.entries;
      block = replicate
          (row.entries * row.value_size) 0;
    }

-- ---- updates and deletes: a map before and after

pub record Updated (key value : List ℕ) (flags result : ℕ) (old new : MapState) : Type 0 where
  pub row : new.row ≡ old.row
  pub answer : result ≡ update_answer old.row (content_in old) key flags
  pub content : content_in new ≡ after_update old.row (content_in old) key value flags
  pub updates : Updates old.row.value_size result key value old.places old.block new.places
      new.block

pub record Deleted (key : List ℕ) (result : ℕ) (old new : MapState) : Type 0 where
  pub row : new.row ≡ old.row
  pub answer : result ≡ delete_answer old.row (content_in old) key
  pub content : content_in new ≡ after_delete old.row (content_in old) key
  pub deletes : Deletes result key old.places old.block new.places new.block

-- bytes are written into the value at a place
pub record WritesValue (place at : ℕ) (bytes : List ℕ) (old new : MapState) : Type 0 where
  pub row : new.row ≡ old.row
  pub places : new.places ≡ old.places
  pub block : new.block ≡ with_block_row old.row.value_size old.block place
      (splice (block_row old.row.value_size old.block place) at (at + length bytes) bytes)
