-- The canonical text of an image's program is read back: it spells that program.
use Rattle.assembler.proofs.Common.{sum_by-append, sum_by-cons, MapDef, Insn, One, Two, Program, slots, IsRow, NamesRows, count_refusal, row_fits, SlotCount, Refusal, ◌>>=◌, takes_row, objection_to_load, slot_in, resolved, ReadSoFar, finished, program_in}
use Rattle.std.proofs.lemmas.List.Elements.{All-nil, All-cons, All-head, All-tail}
use Rattle.std.proofs.Common.{◌≡◌, ℕ, suc, ◌+◌, ◌≤◌, ◌==◌, nat_lt, nat_le, lt-ltb, le-leb, sum_by, All, Bool, true, false, not, if◌then◌else◌, is_none, List, [], ◌∷◌, ◌++◌, length, Option, Some, None, Result, Ok, Err, refl, sym, ap, ◌∙◌, arith, append_assoc, append-nil, length-append, le-ltb, ne_eqb}
use Rattle.isa_model.specs.declared.versions.Version.{Version}
use Rattle.isa_model.specs.Text.CanonicalText.{version_line, canonical_text, code_text, rows_text, row_line, instructions}
use Rattle.isa_model.specs.Code.Limits.{max_maps, max_map_room, max_slots}
use Rattle.image.specs.Images.{IsImage, NamesMaps, room_of, program_of}
use Rattle.image.proofs.CodeLaws.{AllFit, AllFit-instructions, slots-append, slots-instructions}
use Rattle.image.proofs.RowLaws.{row_fits-IsRow}
use Rattle.assembler.proofs.MapLaws.{objection_to_load-NamesRows}
use Rattle.assembler.specs.Assembling as text
use Rattle.assembler.proofs.PlainTexts.{Parts, takes, read_rest, has_room, start}
use Rattle.assembler.proofs.PlainTexts as plain
use Rattle.assembler.proofs.PlainReads.{shadow}
use Rattle.assembler.proofs.PlainTextReads.{read-agrees}
use Rattle.assembler.proofs.TokenReads.{draft}
use Rattle.assembler.proofs.MapReads.{row-read, line-read}

-- ---- map lines

-- there is room for the row among the rows of an image
row-taken : (before rows : List MapDef) (row : MapDef) → IsRow row
    → length (before ++ row ∷ rows) ≤ max_maps
    → sum_by room_of (before ++ row ∷ rows) ≤ max_map_room → takes_row [] before row ≡ true
row-taken before rows row h few room =
    let long : length (before ++ row ∷ rows) ≡ length before + suc (length rows) =
    length-append before (row ∷ rows) in
    let sum : sum_by room_of (before ++ row ∷ rows)
    ≡ sum_by room_of before
    + (room_of row + sum_by room_of rows) = sum_by-append room_of before (row ∷ rows)
    ∙ ap (λ n. sum_by room_of before + n) (sum_by-cons room_of row rows) in
    let another : nat_lt (length before) max_maps ≡ true =
    lt-ltb (length before) max_maps (omega (arith, long, few)) in
    let fits : row_fits row ≡ true = row_fits-IsRow row h in
    let spare : nat_le (sum_by room_of before + room_of row) max_map_room ≡ true =
    le-leb (sum_by room_of before + room_of row) max_map_room (omega (arith, sum, room)) in
    rw (another, fits, spare) refl

rows-read : (v : Version) (rows before : List MapDef) (rest : List ℕ) → All IsRow rows
    → length (before ++ rows) ≤ max_maps → sum_by room_of (before ++ rows) ≤ max_map_room
    → read_rest (rows_text rows ++ rest) 0
    (draft [] (record { version = v; maps = before; insns = [] }))
    ≡ read_rest rest 0 (draft [] (record { version = v; maps = before ++ rows; insns = [] }))
rows-read v [] before rest h few room = ap
    (λ (l : List MapDef). read_rest rest 0
    (draft [] (record { version = v; maps = l; insns = [] }))) (sym (append-nil before))
rows-read v (row ∷ rows) before rest h few room =
    let same : (before ++ row ∷ []) ++ rows ≡ before ++ row ∷ rows =
    append_assoc before (row ∷ []) rows in
    let fits : IsRow row = All-head IsRow row rows h in
    ap (λ bs. read_rest bs 0 (draft [] (record { version = v; maps = before; insns = [] })))
    (append_assoc (row_line row) (rows_text rows) rest)
    ∙ row-read row (record { version = v; maps = before; insns = [] }) (rows_text rows ++ rest) fits
    (row-taken before rows row fits few room)
    ∙ rows-read v rows (before ++ row ∷ []) rest (All-tail IsRow row rows h) (rw same few)
    (rw same room)
    ∙ ap (λ (l : List MapDef). read_rest rest 0
    (draft [] (record { version = v; maps = l; insns = [] }))) same

-- ---- the version line

-- a text that begins with its version's line is read on with that version
version-read : (v : Version) (rest : List ℕ)
    → read_rest (version_line v ++ rest) 0 start
    ≡ read_rest rest 0 (draft [] (record { version = v; maps = []; insns = [] }))
version-read One rest = refl
version-read Two rest = refl

-- ---- code

-- the instructions before others fit if all of them do
room-before : (is js : List Insn) → length (slots (is ++ js)) ≤ max_slots → has_room is ≡ true
room-before is js h =
    let e : length (slots (is ++ js)) ≡ length (slots is) + length (slots js) =
    ap (λ l. length l) (slots-append is js) ∙ length-append (slots is) (slots js) in
    ap not (le-ltb max_slots (length (slots is)) (omega (arith, h, e)))

-- a version, map rows and instructions before a statement
abbrev parts_of : Version → List MapDef → List Insn → Parts
parts_of v maps is = record { version = v; maps = maps; insns = is }

taken : (v : Version) (maps : List MapDef) (before is : List Insn) (i : Insn) → NamesRows maps i
    → length (slots ((before ++ i ∷ []) ++ is)) ≤ max_slots
    → takes (parts_of v maps before) i ≡ true
taken v maps before is i named all =
    let there : is_none (objection_to_load maps i) ≡ true =
    objection_to_load-NamesRows maps i named in
    let fits : has_room (before ++ i ∷ []) ≡ true = room-before (before ++ i ∷ []) is all in
    rw (there, fits) refl

code-read : (v : Version) (maps : List MapDef) (is before : List Insn) → AllFit is
    → All (NamesRows maps) is → length (slots (before ++ is)) ≤ max_slots
    → read_rest (code_text is) 0 (draft [] (parts_of v maps before))
    ≡ Some (draft [] (parts_of v maps (before ++ is)))
code-read v maps [] before h named few =
    ap (λ (l : List Insn). Some (draft [] (parts_of v maps l))) (sym (append-nil before))
code-read v maps (i ∷ is) before h named few =
    let same : (before ++ i ∷ []) ++ is ≡ before ++ i ∷ is = append_assoc before (i ∷ []) is in
    let all : length (slots ((before ++ i ∷ []) ++ is)) ≤ max_slots = rw same few in
    line-read i (parts_of v maps before) (code_text is) h.0
    (taken v maps before is i (All-head (NamesRows maps) i is named) all)
    ∙ code-read v maps is (before ++ i ∷ []) h.1 (All-tail (NamesRows maps) i is named) all
    ∙ ap (λ (l : List Insn). Some (draft [] (parts_of v maps l))) same

all-named : (maps : List MapDef) (xs : List (Option Insn)) → NamesMaps maps xs
    → All (NamesRows maps) (instructions xs)
all-named maps [] h = All-nil (NamesRows maps)
all-named maps (None ∷ xs) h = all-named maps xs h
all-named maps (Some i ∷ xs) h =
    All-cons (NamesRows maps) i (instructions xs) h.0 (all-named maps xs h.1)

-- the program of the version, rows and instructions of an image's program is that program
image-again : (p : Program) → IsImage p → program_of p.version p.maps (instructions p.insns) ≡ p
image-again p h =
    ap (λ xs. let q : Program = record p { insns = xs } in q) (slots-instructions p.insns h.code)

pub text-read : (p : Program) → IsImage p
    → read_rest (canonical_text p) 0 start
    ≡ Some (draft [] (parts_of p.version p.maps (instructions p.insns)))
unfolding canonical_text
text-read p h =
    let few : length (slots (instructions p.insns)) ≤ max_slots =
    rw (slots-instructions p.insns h.code) (omega (arith, h.few_slots)) in
    version-read p.version (rows_text p.maps ++ code_text (instructions p.insns))
    ∙ rows-read p.version p.maps [] (code_text (instructions p.insns)) h.rows h.few_maps h.room
    ∙ code-read p.version p.maps (instructions p.insns) []
    (AllFit-instructions p.insns false h.code) (all-named p.maps p.insns h.named) few

-- ---- programs

counted : (n : ℕ) → 1 ≤ n → n ≤ max_slots → is_none (count_refusal n) ≡ true
counted n some few =
    let more : (n == 0) ≡ false = ne_eqb n 0 (λ e. omega (arith, e, some)) in
    let fits : nat_lt max_slots n ≡ false = le-ltb max_slots n few in
    rw (more, fits) refl

program_of-instructions : (p : Program) → IsImage p
    → text.program_of p.version p.maps (instructions p.insns) ≡ Ok p
program_of-instructions p h =
    let is : List Insn = instructions p.insns in
    let long : length (slots is) ≡ length p.insns =
    ap (λ xs. length xs) (slots-instructions p.insns h.code) in
    let few : is_none (count_refusal (length (slots is))) ≡ true =
    ap (λ n. is_none (count_refusal n)) long ∙ counted (length p.insns) h.some_slots h.few_slots in
    ap (λ (b : Bool). let r : Result Program Refusal = if b then Ok (program_of p.version p.maps is)
    else Err (record { kind = SlotCount; offset = 0 }) in r) few
    ∙ ap (λ (q : Program). let r : Result Program Refusal = Ok q in r) (image-again p h)

-- where no name is used, what was read is the program
finished-unused : (s : ReadSoFar) (parts : Parts) → (shadow s).parts ≡ parts → s.uses ≡ []
    → finished s ≡ text.program_of parts.version parts.maps parts.insns
finished-unused s parts e unused =
    ap (λ us. resolved (slot_in s.labels) us s.insns >>= text.program_of s.version s.maps) unused
    ∙ ap (λ (ps : Parts). text.program_of ps.version ps.maps ps.insns) e

-- the canonical text of an image's program spells that program
pub program_in-canonical_text : (p : Program) → IsImage p → program_in (canonical_text p) ≡ Ok p
program_in-canonical_text p h =
    let went = read-agrees (canonical_text p) 0 0 text.start
    (draft [] (parts_of p.version p.maps (instructions p.insns))) (refl, refl) (text-read p h) in
    ap (λ (r : Result ReadSoFar Refusal). r >>= finished) went.1
    ∙ finished-unused went.0 (parts_of p.version p.maps (instructions p.insns))
    (ap (λ (s : plain.PlainReadSoFar). s.parts) went.2) went.3.0
    ∙ program_of-instructions p h
