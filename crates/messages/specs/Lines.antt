-- The lines on standard output that say a verdict or a size. docs/FORMATS.md and docs/TEXT.md say
-- what the codes mean.
use Rattle.std.specs.Prelude.{ℕ, Bool, true, false, List, ◌++◌, length, codes, decimal}
use Rattle.isa_model.specs.{Program}
use Rattle.insn_codec.specs.Messages as codec
use Rattle.image.specs.declared.errors.ImageError.{ImageError}
use Rattle.image.specs.declared.errors.ImageError.TheVariants.{Code, MapRow, UnknownMap, ValuePointer}
use Rattle.image.specs.Messages as image
use Rattle.control_flow.specs.declared.errors.FlowError.TheVariants as flow
use Rattle.walks.specs.declared.refusals.Refusal.{Refusal}
use Rattle.walks.specs.declared.refusals.Refusal.TheVariants.{Flow, Step, Repeats, TooLong, Memory}
use Rattle.walks.specs.Messages as walks
use Rattle.transfer.specs.Messages as transfer
use Rattle.table_entries.specs.declared.refusals.TableRefusal.TheVariants as table_refusal
use Rattle.rechecking.specs.declared.errors.TableError.{TableError}
use Rattle.rechecking.specs.declared.errors.TableError.TheVariants as table
use Rattle.rechecking.specs.Messages as rechecking
use Rattle.table_entries.specs.declared.errors.WriteTableError.TheVariants as unwritten
use Rattle.table_entries.specs.Messages as table_entries
use Rattle.assembler.specs.declared.errors.AsmError.{AsmError}
use Rattle.assembler.specs.Messages as assembler
use Rattle.map_texts.specs.declared.errors.MapTextError.{MapTextError}
use Rattle.map_texts.specs.Messages as map_texts

-- an image is refused
abbrev pub image_line : ImageError → List ℕ
image_line (Code slot error) =
    codes "refused " ++ (image.code_of (Code slot error)
    ++ (codes " slot " ++ (decimal slot ++ (codes " " ++ (codec.code_of error ++ codes "\n")))))
image_line (MapRow index) =
    codes "refused "
    ++ (image.code_of (MapRow index) ++ (codes " map " ++ (decimal index ++ codes "\n")))
image_line (UnknownMap slot) =
    codes "refused "
    ++ (image.code_of (UnknownMap slot) ++ (codes " slot " ++ (decimal slot ++ codes "\n")))
image_line (ValuePointer slot) =
    codes "refused "
    ++ (image.code_of (ValuePointer slot) ++ (codes " slot " ++ (decimal slot ++ codes "\n")))
image_line error = codes "refused " ++ (image.code_of error ++ codes "\n")

-- a program is refused, at a slot
abbrev pub verdict_line : Refusal → ℕ → List ℕ
verdict_line refusal slot =
    codes "refused " ++ (walks.code_of refusal ++ (codes " slot " ++ (decimal slot ++ codes "\n")))

-- a table is refused, at an entry or as a whole, or the program's control flow is, at a slot
abbrev pub table_line : TableError → List ℕ
table_line (table.Flow error slot) = verdict_line (Flow error) slot
table_line (table.Bytes (table_refusal.Entry index)) =
    codes "refused "
    ++ (rechecking.code_of (table.Bytes (table_refusal.Entry index))
    ++ (codes " entry " ++ (decimal index ++ codes "\n")))
table_line (table.Step index refusal) =
    codes "refused " ++ (rechecking.code_of (table.Step index refusal)
    ++ (codes " entry "
    ++ (decimal index ++ (codes " " ++ (transfer.code_of refusal ++ codes "\n")))))
table_line (table.Successor index) =
    codes "refused "
    ++ (rechecking.code_of (table.Successor index)
    ++ (codes " entry " ++ (decimal index ++ codes "\n")))
table_line error = codes "refused " ++ (rechecking.code_of error ++ codes "\n")

-- an accepted program could not be explored again
abbrev pub explored_line : List ℕ
explored_line = codes "refused " ++ (table_entries.code_of unwritten.Explored ++ codes "\n")

-- a text is refused, at a line and a column
abbrev pub text_line : AsmError → List ℕ
text_line error =
    codes "refused " ++ (assembler.code_of error.kind
    ++ (codes " line "
    ++ (decimal error.line ++ (codes " column " ++ (decimal error.column ++ codes "\n")))))

-- a text of maps is refused, at a line and a column
abbrev pub maps_line : MapTextError → List ℕ
maps_line error =
    codes "refused " ++ (map_texts.code_of error.kind
    ++ (codes " line "
    ++ (decimal error.line ++ (codes " column " ++ (decimal error.column ++ codes "\n")))))

-- a program is accepted, with the most steps of a run
abbrev pub bound_line : ℕ → List ℕ
bound_line bound = codes "ok bound " ++ (decimal bound ++ codes "\n")

-- an image was made, with this many maps and slots
abbrev pub size_line : Program → List ℕ
size_line p =
    codes "ok maps "
    ++ (decimal (length p.maps)
    ++ (codes " slots " ++ (decimal (length p.insns) ++ codes "\n")))

-- whether a refusal says only that memory ran out
abbrev pub is_memory : Refusal → Bool
is_memory (Flow flow.Memory) = true
is_memory (Flow error) = false
is_memory (Step refusal) = false
is_memory Repeats = false
is_memory TooLong = false
is_memory Memory = true

-- the same for a table
abbrev pub is_table_memory : TableError → Bool
is_table_memory (table.Flow error slot) = is_memory (Flow error)
is_table_memory (table.Bytes table_refusal.Memory) = true
is_table_memory error = false
