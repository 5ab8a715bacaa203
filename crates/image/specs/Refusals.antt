-- Why bytes are no image: the first test that fails.
use Rattle.std.specs.Prelude.{◌≡◌, ℕ, zero, suc, ◌+◌, ◌*◌, ◌⊎◌, nat_lt, nat_le, nat_eq, ◌==◌, ◌&&◌, Bool, true, false, if◌then◌else◌, List, [], ◌∷◌, length, drop, sum_by, slice_get, Option, Some, None, Result, Ok, Err, is_none, unwrap_or}
use Rattle.std.specs.List.{starts_with}
use Rattle.std.specs.Option.{option_or, option_map}
use Rattle.std.specs.Result.{result_err}
use Rattle.byteorder.specs.Endian.{little_number}
use Rattle.isa_model.specs.declared.map_defs.MapType.{MapType}
use Rattle.isa_model.specs.declared.map_defs.MapType.TheVariants.{Hash, Array}
use Rattle.isa_model.specs.declared.map_defs.MapDef.{MapDef}
use Rattle.isa_model.specs.declared.instructions.Insn.{Insn}
use Rattle.isa_model.specs.declared.instructions.Insn.TheVariants.{LoadMap, LoadMapValue}
use Rattle.isa_model.specs.declared.versions.Version.{Version}
use Rattle.isa_model.specs.declared.versions.Version.TheVariants.{One, Two}
use Rattle.isa_model.specs.Code.Instructions.{Program}
use Rattle.insn_codec.specs.declared.errors.CodecError.{CodecError}
use Rattle.insn_codec.specs.Decoding.{decoded}
use Rattle.image.specs.declared.errors.ImageError.{ImageError}
use Rattle.image.specs.declared.errors.ImageError.TheVariants.{Magic, Short, Long, TooManyMaps, MapRow, SlotCount, MapRoom, Code, UnknownMap, ValuePointer, Memory}
use Rattle.isa_model.specs.declared.limits.TheConstants.{MAX_MAPS, MAX_MAP_ROOM, MAX_SLOTS}
use Rattle.isa_model.specs.Code.Limits.{max_key_size, max_value_size, max_map_entries}
use Rattle.image.specs.Images.{magic, is_wide, room_of}

infixl 10 ◌>>=◌
abbrev pub ◌>>=◌ : {A B : Type 0} → Result A ImageError → (A → Result B ImageError)
    → Result B ImageError
(Ok x) >>= f = f x
(Err e) >>= f = Err e

-- x, unless there is a refusal
abbrev pub unless : {A : Type 0} → Option ImageError → A → Result A ImageError
unless None x = Ok x
unless (Some e) x = Err e

-- ---- the head and the whole length

-- the version that the magic at the front of bytes names, if there is a magic
abbrev pub version_at : List ℕ → Option Version
version_at bytes =
    if starts_with nat_eq bytes (magic One) then Some One
    else if starts_with nat_eq bytes (magic Two) then Some Two
    else None

abbrev pub version_read : List ℕ → Version
version_read bytes = unwrap_or (version_at bytes) One

-- the counts in the head
abbrev pub map_count : List ℕ → ℕ
map_count bytes = little_number 2 (drop 4 bytes)

abbrev pub slot_count : List ℕ → ℕ
slot_count bytes = little_number 2 (drop 6 bytes)

-- how many bytes an image has
abbrev pub size_of : ℕ → ℕ → ℕ
size_of maps slots = 8 + 12 * maps + 8 * slots

abbrev pub size_refusal : List ℕ → Option ImageError
size_refusal bytes =
    if nat_lt (length bytes) 8 then Some Short
    else if is_none (version_at bytes) then Some Magic
    else if nat_lt MAX_MAPS (map_count bytes) then Some TooManyMaps
    else if slot_count bytes == 0 then Some SlotCount
    else if nat_lt MAX_SLOTS (slot_count bytes) then Some SlotCount
    else if nat_lt (length bytes) (size_of (map_count bytes) (slot_count bytes)) then Some Short
    else if nat_lt (size_of (map_count bytes) (slot_count bytes)) (length bytes) then Some Long
    else None

-- why an image may not have this number of slots
abbrev pub count_refusal : ℕ → Option ImageError
count_refusal slots =
    if slots == 0 then Some SlotCount else if nat_lt MAX_SLOTS slots then Some SlotCount else None

-- ---- the map rows

abbrev pub key_fits : MapType → ℕ → Bool
key_fits Hash n = nat_le 1 n && nat_le n max_key_size
key_fits Array n = n == 4

-- whether a row is within its limits
abbrev pub row_fits : MapDef → Bool
row_fits row =
    key_fits row.kind row.key_size
    && (nat_le 1 row.value_size && nat_le row.value_size max_value_size)
    && (nat_le 1 row.entries && nat_le row.entries max_map_entries)

abbrev pub map_type_numbered : ℕ → Option MapType
map_type_numbered n = if n == 1 then Some Hash else if n == 2 then Some Array else None

-- the rest of a row, which the bytes begin with
abbrev pub with_map_type : List ℕ → MapType → MapDef
with_map_type bytes kind = record {
  kind = kind;
  key_size = little_number 2 (drop 2 bytes);
  value_size = little_number 4 (drop 4 bytes);
  entries = little_number 4 (drop 8 bytes);
}

abbrev pub tested : ℕ → Option MapDef → Result MapDef ImageError
tested index None = Err (MapRow index)
tested index (Some row) = if row_fits row then Ok row else Err (MapRow index)

-- the row of that index, which the bytes begin with
abbrev pub row_at : ℕ → List ℕ → Result MapDef ImageError
row_at index bytes =
    tested index (option_map (with_map_type bytes) (map_type_numbered (little_number 2 bytes)))

-- the n rows from this index on
unfoldable pub rows_from : ℕ → ℕ → List ℕ → Result (List MapDef) ImageError
rows_from zero index bytes = Ok []
rows_from (suc n) index bytes =
    row_at index bytes >>= λ row. rows_from n (index + 1) (drop 12 bytes)
    >>= λ rows. Ok (row ∷ rows)

-- the refusal of the first row, from this index on, that is out of its limits
abbrev pub rows_refusal : ℕ → List MapDef → Option ImageError
rows_refusal index [] = None
rows_refusal index (row ∷ rows) =
    if row_fits row then rows_refusal (index + 1) rows else Some (MapRow index)

abbrev pub room_refusal : List MapDef → Option ImageError
room_refusal rows = if nat_lt MAX_MAP_ROOM (sum_by room_of rows) then Some MapRoom else None

-- ---- the maps that instructions name

abbrev pub is_array : MapType → Bool
is_array Hash = false
is_array Array = true

-- whether the map is an array of one key, and the offset is within its value
abbrev pub holds_offset : ℕ → MapDef → Bool
holds_offset offset row = is_array row.kind && row.entries == 1 && nat_lt offset row.value_size

abbrev pub value_refusal : ℕ → ℕ → Option MapDef → Option ImageError
value_refusal slot offset None = Some (UnknownMap slot)
value_refusal slot offset (Some row) =
    if holds_offset offset row then None else Some (ValuePointer slot)

-- what is wrong with the map that the instruction at a slot names
abbrev pub map_refusal : List MapDef → ℕ → Insn → Option ImageError
map_refusal rows slot (LoadMap d m) =
    if nat_lt m (length rows) then None else Some (UnknownMap slot)
map_refusal rows slot (LoadMapValue d m offset) = value_refusal slot offset (slice_get rows m)
map_refusal rows slot i = None

-- the first refusal of these slots, from this one on
abbrev pub maps_refusal : List MapDef → ℕ → List (Option Insn) → Option ImageError
maps_refusal rows slot [] = None
maps_refusal rows slot (None ∷ xs) = maps_refusal rows (slot + 1) xs
maps_refusal rows slot (Some i ∷ xs) =
    option_or (map_refusal rows slot i) (maps_refusal rows (slot + 1) xs)

-- what is wrong with map rows and code that a caller gives
abbrev pub parts_refusal : List MapDef → List (Option Insn) → Option ImageError
parts_refusal rows code =
    if nat_lt MAX_MAPS (length rows) then Some TooManyMaps
    else option_or (count_refusal (length code))
    (option_or (rows_refusal 0 rows) (option_or (room_refusal rows) (maps_refusal rows 0 code)))

-- ---- the code

abbrev pub at_slot : ℕ → Result Insn CodecError → Result Insn ImageError
at_slot slot (Ok i) = Ok i
at_slot slot (Err e) = Err (Code slot e)

-- the instruction that begins at a slot, which the bytes begin with: its spelling is tested, and
-- then its map
abbrev pub insn_at : List MapDef → ℕ → List ℕ → Result Insn ImageError
insn_at rows slot bytes = at_slot slot (decoded bytes) >>= λ i. unless (map_refusal rows slot i) i

-- the n slots from this one on; `half` says whether the first is the second half of a wide load
unfoldable pub code_from : List MapDef → ℕ → Bool → ℕ → List ℕ
    → Result (List (Option Insn)) ImageError
code_from rows zero half slot bytes = Ok []
code_from rows (suc n) true slot bytes =
    code_from rows n false (slot + 1) (drop 8 bytes) >>= λ xs. Ok (None ∷ xs)
code_from rows (suc n) false slot bytes =
    insn_at rows slot bytes >>= λ i.
    code_from rows n (is_wide i) (slot + 1) (drop 8 bytes) >>= λ xs. Ok (Some i ∷ xs)

-- ---- the whole

-- the rows of an image whose sizes are right, together within their limit
abbrev pub rows_read : List ℕ → Result (List MapDef) ImageError
rows_read bytes =
    rows_from (map_count bytes) 0 (drop 8 bytes) >>= λ rows. unless (room_refusal rows) rows

-- its code, for these rows
abbrev pub code_read : List ℕ → List MapDef → Result (List (Option Insn)) ImageError
code_read bytes rows =
    code_from rows (slot_count bytes) false 0 (drop (8 + 12 * map_count bytes) bytes)

abbrev pub program_read : List ℕ → Result Program ImageError
program_read bytes =
    rows_read bytes >>= λ rows. code_read bytes rows
    >>= λ xs. Ok (record { insns = xs; maps = rows; version = version_read bytes })

unfoldable pub refusal_of : List ℕ → Option ImageError
refusal_of bytes = option_or (size_refusal bytes) (result_err (program_read bytes))

-- a call returns, by its view, what is to be read or its refusal, or it is out of memory
abbrev pub ReturnsParsed : {X Y : Type 0} → (X → Y) → Result X ImageError → Result Y ImageError
    → Type 0
ReturnsParsed view (Ok x) read = read ≡ Ok (view x)
ReturnsParsed view (Err e) read = (e ≡ Memory) ⊎ (read ≡ Err e)
