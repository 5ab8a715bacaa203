-- The message on standard error for a refusal: why, in a sentence, and where.
use Rattle.std.specs.Prelude.{ℕ, List, [], ◌++◌, Option, Some, None, codes, decimal}
use Rattle.isa_model.specs.declared.instructions.Insn.{Insn}
use Rattle.isa_model.specs.Text.CanonicalText.{line_of}
use Rattle.image.specs.declared.errors.ImageError.{ImageError}
use Rattle.image.specs.declared.errors.ImageError.TheVariants.{Magic, MapRow, Code, UnknownMap, ValuePointer, Memory}
use Rattle.image.specs.Messages as image
use Rattle.walks.specs.Messages as walks
use Rattle.transfer.specs.Messages as transfer
use Rattle.table_entries.specs.declared.refusals.TableRefusal.TheVariants as table_refusal
use Rattle.rechecking.specs.declared.errors.TableError.{TableError}
use Rattle.rechecking.specs.declared.errors.TableError.TheVariants as table
use Rattle.rechecking.specs.Messages as rechecking
use Rattle.table_entries.specs.declared.errors.WriteTableError.TheVariants as unwritten
use Rattle.table_entries.specs.Messages as table_entries
use Rattle.assembler.specs.Messages as assembler
use Rattle.map_texts.specs.declared.errors.MapTextError.{MapTextError}
use Rattle.map_texts.specs.Messages as map_texts
use Rattle.messages.specs.declared.forms.FileForm.{FileForm}
use Rattle.messages.specs.Forms.{file_line}
use Rattle.messages.specs.declared.rejections.Rejection.{Rejection}
use Rattle.messages.specs.declared.rejections.Rejection.TheVariants.{Image, Program, Table, Explored, Text, Maps}

abbrev pub sentence_of : Rejection → List ℕ
sentence_of (Image error form) = image.sentence_of error
sentence_of (Program refusal slot insn) = walks.sentence_of refusal
sentence_of (Table error position) = rechecking.sentence_of error
sentence_of Explored = table_entries.sentence_of unwritten.Explored
sentence_of (Text error) = assembler.sentence_of error.kind
sentence_of (Maps error) = map_texts.sentence_of error.kind

-- its code in docs/REFUSALS.md
abbrev pub code_of : Rejection → List ℕ
code_of (Image error form) = image.code_of error
code_of (Program refusal slot insn) = walks.code_of refusal
code_of (Table error position) = rechecking.code_of error
code_of Explored = table_entries.code_of unwritten.Explored
code_of (Text error) = assembler.code_of error.kind
code_of (Maps error) = map_texts.code_of error.kind

-- the last line, which says how to read the entry of its code
abbrev pub code_line : Rejection → List ℕ
code_line rejection =
    codes "xdpvm explain " ++ (code_of rejection ++ codes " says more\n")

-- ---- the position of what is refused, in a line

-- a slot, and the instruction that begins there
abbrev pub insn_position : ℕ → Insn → List ℕ
insn_position slot insn = (codes "slot " ++ (decimal slot ++ codes ": ")) ++ line_of insn

abbrev pub slot_position : ℕ → Option Insn → List ℕ
slot_position slot None = codes "slot " ++ (decimal slot ++ codes "\n")
slot_position slot (Some insn) = insn_position slot insn

abbrev pub text_position : ℕ → ℕ → List ℕ
text_position line column =
    (codes "line " ++ (decimal line ++ codes " "))
    ++ (codes "column " ++ (decimal column ++ codes "\n"))

-- a line and a column in a text of maps, and a hint
abbrev pub maps_position : MapTextError → List ℕ
maps_position error =
    text_position error.line error.column ++ (map_texts.hint_of error.kind ++ codes "\n")

-- ---- hints

abbrev pub hint_line : ImageError → List ℕ
hint_line error = image.hint_of error ++ codes "\n"

-- the hint where a table does not show a bound of the program, or an entry spells no state
abbrev pub anew : List ℕ
anew = codes "make the table anew: xdpvm prove IMAGE TABLE\n"

abbrev pub entry_anew : ℕ → List ℕ
entry_anew index =
    codes "entry " ++ (decimal index ++ codes "\nmake the table anew: xdpvm prove IMAGE TABLE\n")

abbrev pub entry_position : ℕ → List ℕ
entry_position index = codes "entry " ++ (decimal index ++ codes "\n")

-- an entry, and the slot of its step with the instruction that begins there, if they are known
abbrev pub step_position : ℕ → Option (ℕ × Insn) → List ℕ
step_position index None = entry_position index
step_position index (Some (slot, insn)) = entry_position index ++ insn_position slot insn

-- an entry that spells no state, and a hint; an entry whose step is refused, with the sentence
-- that says why, or whose successor is; or a hint, for a table that is refused as a whole
abbrev pub table_position : TableError → Option (ℕ × Insn) → List ℕ
table_position (table.Bytes (table_refusal.Entry index)) position = entry_anew index
table_position (table.Step index refusal) position =
    step_position index position ++ (transfer.sentence_of refusal ++ codes "\n")
table_position (table.Successor index) position = step_position index position
table_position error position = anew

abbrev pub slot_line : ℕ → List ℕ
slot_line slot = codes "slot " ++ (decimal slot ++ codes "\n")

abbrev pub map_line : ℕ → List ℕ
map_line index = codes "map " ++ (decimal index ++ codes "\n")

-- what the file looks like, if that is said
abbrev pub form_line : Option FileForm → List ℕ
form_line None = []
form_line (Some form) = file_line form

-- an image is refused at a slot, at a map row, or as a whole, and a hint; for another magic, what
-- the file looks like
abbrev pub image_position : ImageError → Option FileForm → List ℕ
image_position Magic form = form_line form
image_position Memory form = []
image_position (Code slot error) form = slot_line slot ++ hint_line (Code slot error)
image_position (MapRow index) form = map_line index ++ hint_line (MapRow index)
image_position (UnknownMap slot) form = slot_line slot ++ hint_line (UnknownMap slot)
image_position (ValuePointer slot) form = slot_line slot ++ hint_line (ValuePointer slot)
image_position error form = hint_line error

abbrev pub position_of : Rejection → List ℕ
position_of (Image error form) = image_position error form
position_of (Program refusal slot insn) = slot_position slot insn
position_of (Table error position) = table_position error position
position_of Explored = []
position_of (Text error) = text_position error.line error.column
position_of (Maps error) = maps_position error

-- the sentence in a line, and then the position
abbrev pub rejection_text : Rejection → List ℕ
rejection_text rejection = (sentence_of rejection ++ codes "\n") ++ position_of rejection
