-- Tests of map lines, loads of maps and version lines: which are not allowed where they are.
use Rattle.std.specs.Prelude.{ℕ, ◌+◌, ◌==◌, ◌&&◌, nat_lt, nat_le, Bool, if◌then◌else◌, List, length, slice_get, sum_by, Option, Some, None}
use Rattle.isa_model.specs.declared.map_defs.MapDef.{MapDef}
use Rattle.isa_model.specs.declared.instructions.Insn.{Insn}
use Rattle.isa_model.specs.declared.instructions.Insn.TheVariants.{LoadMap, LoadMapValue}
use Rattle.image.specs.Images.{room_of}
use Rattle.image.specs.Refusals.{row_fits, is_array}
use Rattle.isa_model.specs.declared.limits.TheConstants.{MAX_MAPS, MAX_MAP_ROOM}
use Rattle.assembler.specs.declared.errors.AsmErrorKind.TheVariants.{MapLine, NoMap, NotOneValue, PastValue, LateVersion}
use Rattle.assembler.specs.declared.readings.Statement.{Statement}
use Rattle.assembler.specs.declared.readings.Statement.TheVariants.{Empty, Version, Row, Instruction}
use Rattle.assembler.specs.declared.wrong.Objection.{Objection}

-- ---- map lines

-- whether the row may follow these: no instruction comes before it, with it the rows are at most
-- MAX_MAPS, and it is within the limits of a row and of all rows
abbrev pub takes_row : List Insn → List MapDef → MapDef → Bool
takes_row insns maps row =
    (length insns == 0)
    && (nat_lt (length maps) MAX_MAPS
    && (row_fits row && nat_le (sum_by room_of maps + room_of row) MAX_MAP_ROOM))

-- ---- loads of maps

-- the token of the index in `R = map_by_idx(n)`
abbrev pub objection_to_index : List MapDef → ℕ → Option Objection
objection_to_index maps m =
    if nat_lt m (length maps) then None else Some (record { kind = NoMap; token = 4 })

-- the tokens of the index and of the offset in `R = map_val(map_by_idx(n)) + n`
abbrev pub objection_to_value : Option MapDef → ℕ → Option Objection
objection_to_value None offset = Some (record { kind = NoMap; token = 6 })
objection_to_value (Some row) offset =
    if is_array row.kind && (row.entries == 1)
    then (if nat_lt offset row.value_size then None
    else Some (record { kind = PastValue; token = 10 }))
    else Some (record { kind = NotOneValue; token = 6 })

abbrev pub objection_to_load : List MapDef → Insn → Option Objection
objection_to_load maps (LoadMap d m) = objection_to_index maps m
objection_to_load maps (LoadMapValue d m offset) = objection_to_value (slice_get maps m) offset
objection_to_load maps i = None

-- ---- statements

-- what is wrong with the statement, the first of all or not, after these instructions and map rows
abbrev pub objection : Bool → List Insn → List MapDef → Statement → Option Objection
objection first insns maps Empty = None
objection first insns maps Version =
    if first then None else Some (record { kind = LateVersion; token = 0 })
objection first insns maps (Row row) =
    if takes_row insns maps row then None else Some (record { kind = MapLine; token = 0 })
objection first insns maps (Instruction r) = objection_to_load maps r.insn
