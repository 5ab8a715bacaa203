-- Map rows: their limits, and the rows that an instruction names. bpf(2), BPF_MAP_CREATE; the
-- limits are this project's own.
use Rattle.std.specs.Prelude.{◌≡◌, ℕ, ◌<◌, ◌≤◌, List, length, slice_get, IsSomeAnd}
use Rattle.isa_model.specs.declared.instructions.Insn.{Insn}
use Rattle.isa_model.specs.declared.instructions.Insn.TheVariants.{LoadMap, LoadMapValue}
use Rattle.isa_model.specs.declared.map_defs.MapType.{MapType}
use Rattle.isa_model.specs.declared.map_defs.MapType.TheVariants.{Hash, Array}
use Rattle.isa_model.specs.declared.map_defs.MapDef.{MapDef}
use Rattle.isa_model.specs.Code.Limits.{max_key_size, max_value_size, max_map_entries}

-- keys of a hash map have 1 to max_key_size bytes; a key of an array is an index, in 4 bytes
abbrev pub KeyFits : MapType → ℕ → Type 0
KeyFits Hash n = (1 ≤ n) × (n ≤ max_key_size)
KeyFits Array n = n ≡ 4

-- the limits of a map row
pub record IsRow (row : MapDef) : Type 0 where
  pub key : KeyFits row.kind row.key_size
  pub some_value : 1 ≤ row.value_size
  pub short_value : row.value_size ≤ max_value_size
  pub some_entries : 1 ≤ row.entries
  pub few_entries : row.entries ≤ max_map_entries

-- the map is an array of one key, and the offset is within its value
pub record HoldsOffset (offset : ℕ) (row : MapDef) : Type 0 where
  pub array : row.kind ≡ Array
  pub one : row.entries ≡ 1
  pub within : offset < row.value_size

-- the map that a wide load names has a row, and the value that it points into is the only one of
-- its map
abbrev pub NamesRows : List MapDef → Insn → Type 0
NamesRows rows (LoadMap d m) = m < length rows
NamesRows rows (LoadMapValue d m offset) = IsSomeAnd (slice_get rows m) (HoldsOffset offset)
NamesRows rows i = Unit {0}
