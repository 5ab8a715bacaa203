-- Images: the magic `XBP1` or `XBP2`, u16 map count, u16 slot count, the map rows, the slots; the
-- lowest byte of a number first. A map row: u16 type, u16 key size, u32 value size, u32 entries. A
-- slot: 8 bytes, RFC 9669, section 3.
use Rattle.std.specs.Prelude.{◌≡◌, ℕ, ◌+◌, ◌*◌, ◌≤◌, Bool, true, false, List, [], ◌∷◌, ◌++◌, length, sum_by, All, Option, Some, None, codes, ◌==◌}
use Rattle.std.specs.List.{flat_map}
use Rattle.byteorder.specs.Endian.{little_bytes}
use Rattle.isa_model.specs.declared.map_defs.MapType.{MapType}
use Rattle.isa_model.specs.declared.map_defs.MapType.TheVariants.{Hash, Array}
use Rattle.isa_model.specs.declared.map_defs.MapDef.{MapDef}
use Rattle.isa_model.specs.declared.instructions.Insn.{Insn}
use Rattle.isa_model.specs.declared.versions.Version.{Version}
use Rattle.isa_model.specs.declared.versions.Version.TheVariants.{One, Two}
use Rattle.isa_model.specs.Code.Instructions.{Program, slots, slots_filled}
use Rattle.isa_model.specs.Code.MapRows.{IsRow, NamesRows}
use Rattle.isa_model.specs.Code.Spelling.{spelling_of, InsnFits}
use Rattle.isa_model.specs.declared.limits.TheConstants.{MAX_MAPS, MAX_MAP_ROOM, MAX_SLOTS}

-- ---- spelling

abbrev pub magic : Version → List ℕ
magic One = codes "XBP1"
magic Two = codes "XBP2"

-- Linux, enum bpf_map_type
abbrev pub map_type_code : MapType → ℕ
map_type_code Hash = 1
map_type_code Array = 2

abbrev pub row_bytes : MapDef → List ℕ
row_bytes row =
    little_bytes 2 (map_type_code row.kind)
    ++ (little_bytes 2 row.key_size
    ++ (little_bytes 4 row.value_size ++ little_bytes 4 row.entries))

-- a second half is spelled with the instruction before it
abbrev pub slot_spelling : Option Insn → List ℕ
slot_spelling None = []
slot_spelling (Some i) = spelling_of i

abbrev pub code_bytes : List (Option Insn) → List ℕ
code_bytes xs = flat_map slot_spelling xs

-- the 8 bytes before the rows
abbrev pub head_bytes : Program → List ℕ
head_bytes p =
    magic p.version ++ (little_bytes 2 (length p.maps) ++ little_bytes 2 (length p.insns))

unfoldable pub image_bytes : Program → List ℕ
image_bytes p = head_bytes p ++ (flat_map row_bytes p.maps ++ code_bytes p.insns)

-- ---- the programs that images store

-- how many bytes a map's keys and values have together
abbrev pub room_of : MapDef → ℕ
room_of row = row.entries * (row.key_size + row.value_size)

abbrev pub is_wide : Insn → Bool
is_wide i = slots_filled i == 2

-- slots of code, of which the first is a second half or is not: a second half comes after each
-- instruction of two slots and nowhere else, and the numbers in instructions are of their types
abbrev pub IsCode : Bool → List (Option Insn) → Type 0
IsCode half [] = half ≡ false
IsCode true (None ∷ xs) = IsCode false xs
IsCode true (Some i ∷ xs) = ⊥
IsCode false (None ∷ xs) = ⊥
IsCode false (Some i ∷ xs) = InsnFits i × IsCode (is_wide i) xs

-- the maps that instructions name are there
abbrev pub NamesMaps : List MapDef → List (Option Insn) → Type 0
NamesMaps rows [] = Unit {0}
NamesMaps rows (None ∷ xs) = NamesMaps rows xs
NamesMaps rows (Some i ∷ xs) = NamesRows rows i × NamesMaps rows xs

pub record IsImage (p : Program) : Type 0 where
  pub few_maps : length p.maps ≤ MAX_MAPS
  pub rows : All IsRow p.maps
  pub room : sum_by room_of p.maps ≤ MAX_MAP_ROOM
  pub some_slots : 1 ≤ length p.insns
  pub few_slots : length p.insns ≤ MAX_SLOTS
  pub code : IsCode false p.insns
  pub named : NamesMaps p.maps p.insns

-- the program of this version, these map rows and instructions
abbrev pub program_of : Version → List MapDef → List Insn → Program
program_of version maps insns = record { insns = slots insns; maps = maps; version = version }
