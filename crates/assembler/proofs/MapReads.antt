-- Canonical lines of map rows and of loads of maps are read back. With these, the line of every
-- instruction is.
use Rattle.assembler.proofs.Common.{◌≡◌, ℕ, ◌<◌, ◌≤◌, ◌^◌, List, [], ◌∷◌, ◌++◌, refl, ap, ◌∙◌, arith, lit<, le-leb, Bool, true, false, nat_le, Result, Ok, codes, decimal, Some, Reg, Full64, MapDef, Insn, Alu, Neg, MovSx, ByteSwap, LoadNumber, LoadMap, LoadMapValue, Load, LoadSx, StoreConstant, Store, Atomic, Exchange, CompareExchange, Jump, JumpLong, JumpIf, CallHelper, CallLocal, Exit, MapType, KeyFits, IsRow, InsnFits, reg_text, map_type_text, line_of, row_line, Token, Named, Number, Signed, Wrong, map_line, reading_of, takes_row}
use Rattle.isa_model.specs.declared.map_defs.MapType.TheVariants.{Hash, Array}
use Rattle.assembler.specs.declared.tokens.Word.TheVariants as word
use Rattle.assembler.specs.declared.tokens.Sign.TheVariants as sign
use Rattle.assembler.proofs.PlainTexts.{◌>>=◌, keep, plain_statement, Parts, with_row, with_insn, takes, added_row, read_rest}
use Rattle.assembler.proofs.Digits.{decimal-read}
use Rattle.assembler.proofs.TokenReads.{draft, reg-read, map_type-read}
use Rattle.assembler.proofs.LineReads.{ReadsLine, end-read, append4, append6, append9, alu-line, neg-line, extension-line, swap-line, wide-line, jump-line, long-line, condition-line, helper-line, call-line, exit-line}
use Rattle.assembler.proofs.MemoryLineReads.{load-line, extending-line, constant-line, store-line, lock-line, fetch-line, exchange-line, compare-line}

field-fits : (n : ℕ) → n < 2 ^ 32 → nat_le n 4294967295 ≡ true
field-fits n h = le-leb n 4294967295 (omega (arith, h))

abbrev register : Reg → Token
register d = Named (word.Register Full64 d)

-- ---- loads of maps

-- R = map_by_idx(n)
abbrev index_tokens : Reg → ℕ → List Token
index_tokens d m = register d ∷ Signed sign.Assign ∷ Named word.MapByIndex ∷ Signed sign.Open
    ∷ Number m ∷ Signed sign.Close ∷ []

load-map-form : (d : Reg) (m : ℕ) → m < 2 ^ 32
    → plain_statement (index_tokens d m) ≡ Some (LoadMap d m)
unfolding reading_of
load-map-form d m h = rw (field-fits m h) refl

load-map-line : (d : Reg) (m : ℕ) (ps : Parts) (rest : List ℕ) → m < 2 ^ 32
    → ReadsLine (LoadMap d m) ps rest
unfolding line_of
load-map-line d m ps rest h room =
    let before : List Token =
    register d ∷ Signed sign.Assign ∷ Named word.MapByIndex ∷ Signed sign.Open ∷ [] in
    ap (λ bs. read_rest bs 0 (draft [] ps))
    (append4 (reg_text Full64 d) (codes " = map_by_idx(") (decimal m) (codes ")\n") rest)
    ∙ reg-read Full64 d 32 (codes "= map_by_idx(" ++ (decimal m ++ 41 ∷ 10 ∷ rest)) [] ps refl
    ∙ decimal-read m 41 (10 ∷ rest) (draft before ps) (omega (arith, h)) (lit< tt)
    ∙ end-read (register d)
    (Signed sign.Assign ∷ Named word.MapByIndex ∷ Signed sign.Open ∷ Number m ∷ Signed sign.Close
    ∷ []) (LoadMap d m) ps rest (load-map-form d m h) room

-- = map_val(map_by_idx(n)) + n
abbrev value_tokens : ℕ → ℕ → List Token
value_tokens m offset =
    Signed sign.Assign ∷ Named word.MapValue ∷ Signed sign.Open ∷ Named word.MapByIndex
    ∷ Signed sign.Open ∷ Number m
    ∷ Signed sign.Close ∷ Signed sign.Close ∷ Signed sign.Plus ∷ Number offset ∷ []

load-value-form : (d : Reg) (m offset : ℕ) → m < 2 ^ 32 → offset < 2 ^ 32
    → plain_statement (register d ∷ value_tokens m offset) ≡ Some (LoadMapValue d m offset)
unfolding reading_of
load-value-form d m offset h g = rw (field-fits m h, field-fits offset g) refl

load-value-line : (d : Reg) (m offset : ℕ) (ps : Parts) (rest : List ℕ) → m < 2 ^ 32
    → offset < 2 ^ 32 → ReadsLine (LoadMapValue d m offset) ps rest
unfolding line_of
load-value-line d m offset ps rest h g room =
    let before : List Token =
    register d ∷ Signed sign.Assign ∷ Named word.MapValue ∷ Signed sign.Open ∷ Named word.MapByIndex
    ∷ Signed sign.Open ∷ [] in
    let between : List Token =
    before ++ Number m ∷ Signed sign.Close ∷ Signed sign.Close ∷ Signed sign.Plus ∷ [] in
    let tail : List ℕ = decimal offset ++ 10 ∷ rest in
    ap (λ bs. read_rest bs 0 (draft [] ps))
    (append6 (reg_text Full64 d) (codes " = map_val(map_by_idx(") (decimal m) (codes ")) + ")
    (decimal offset) (codes "\n") rest)
    ∙ reg-read Full64 d 32
    (codes "= map_val(map_by_idx(" ++ (decimal m ++ 41 ∷ 41 ∷ 32 ∷ 43 ∷ 32 ∷ tail)) [] ps refl
    ∙ decimal-read m 41 (41 ∷ 32 ∷ 43 ∷ 32 ∷ tail) (draft before ps) (omega (arith, h)) (lit< tt)
    ∙ decimal-read offset 10 rest (draft between ps) (omega (arith, g)) (lit< tt)
    ∙ end-read (register d) (value_tokens m offset) (LoadMapValue d m offset) ps rest
    (load-value-form d m offset h g) room

-- ---- map lines

abbrev row_tokens : MapDef → List Token
row_tokens row = Named word.Map ∷ Named (word.MapType row.kind) ∷ Number row.key_size
    ∷ Number row.value_size ∷ Number row.entries ∷ []

abbrev found : MapDef → Result MapDef Wrong
found row = Ok row

key-small : (kind : MapType) (n : ℕ) → KeyFits kind n → n ≤ 64
key-small Hash n h = h.1
key-small Array n h = omega (arith, h)

row-form : (row : MapDef) → IsRow row → map_line (row_tokens row) ≡ found row
row-form row h =
    let key_fits : nat_le row.key_size 65535 ≡ true =
    le-leb row.key_size 65535 (omega (arith, key-small row.kind row.key_size h.key)) in
    let value_fits : nat_le row.value_size 4294967295 ≡ true =
    le-leb row.value_size 4294967295 (omega (arith, h.short_value)) in
    let entries_fit : nat_le row.entries 4294967295 ≡ true =
    le-leb row.entries 4294967295 (omega (arith, h.few_entries)) in
    rw (key_fits, value_fits, entries_fit) refl

pub row-read : (row : MapDef) (ps : Parts) (rest : List ℕ) → IsRow row
    → takes_row ps.insns ps.maps row ≡ true
    → read_rest (row_line row ++ rest) 0 (draft [] ps)
    ≡ read_rest rest 0 (draft [] (with_row ps row))
unfolding row_line
row-read row ps rest h room =
    let type_word : Token = Named (word.MapType row.kind) in
    let from_entries : List ℕ = decimal row.entries ++ 10 ∷ rest in
    let from_value_size : List ℕ = decimal row.value_size ++ 32 ∷ from_entries in
    let from_key_size : List ℕ = decimal row.key_size ++ 32 ∷ from_value_size in
    ap (λ bs. read_rest bs 0 (draft [] ps))
    (append9 (codes "map ") (map_type_text row.kind) (codes " ") (decimal row.key_size) (codes " ")
    (decimal row.value_size) (codes " ") (decimal row.entries) (codes "\n") rest)
    ∙ map_type-read row.kind from_key_size (Named word.Map ∷ []) ps
    ∙ decimal-read row.key_size 32 from_value_size (draft (Named word.Map ∷ type_word ∷ []) ps)
    (omega (arith, key-small row.kind row.key_size h.key)) (lit< tt)
    ∙ decimal-read row.value_size 32 from_entries
    (draft (Named word.Map ∷ type_word ∷ Number row.key_size ∷ []) ps)
    (omega (arith, h.short_value)) (lit< tt)
    ∙ decimal-read row.entries 10 rest
    (draft (Named word.Map ∷ type_word ∷ Number row.key_size ∷ Number row.value_size ∷ []) ps)
    (omega (arith, h.few_entries)) (lit< tt)
    ∙ ap (λ (r : Result MapDef Wrong). added_row ps r >>= λ t. read_rest rest 0 t) (row-form row h)
    ∙ ap (λ (b : Bool). keep b (draft [] (with_row ps row)) >>= λ t. read_rest rest 0 t) room

-- ---- all forms

pub line-read : (i : Insn) (ps : Parts) (rest : List ℕ) → InsnFits i → takes ps i ≡ true
    → read_rest (line_of i ++ rest) 0 (draft [] ps) ≡ read_rest rest 0 (draft [] (with_insn ps i))
line-read (Alu w o d x) ps rest h room = alu-line o w d x ps rest h room
line-read (Neg w d) ps rest h room = neg-line w d ps rest room
line-read (MovSx e d s) ps rest h room = extension-line e d s ps rest room
line-read (ByteSwap order bits d) ps rest h room = swap-line order bits d ps rest room
line-read (LoadNumber d n) ps rest h room = wide-line d n ps rest h room
line-read (Load size d p) ps rest h room = load-line size d p ps rest h room
line-read (LoadSx size d p) ps rest h room = extending-line size d p ps rest h room
line-read (StoreConstant size p k) ps rest h room = constant-line size p k ps rest h.0 h.1 room
line-read (Store size p s) ps rest h room = store-line size p s ps rest h room
line-read (Atomic w o false p s) ps rest h room = lock-line w o p s ps rest h room
line-read (Atomic w o true p s) ps rest h room = fetch-line w o p s ps rest h room
line-read (Exchange w p s) ps rest h room = exchange-line w p s ps rest h room
line-read (CompareExchange w p s) ps rest h room = compare-line w p s ps rest h room
line-read (LoadMap d m) ps rest h room = load-map-line d m ps rest h room
line-read (LoadMapValue d m offset) ps rest h room = load-value-line d m offset ps rest h.0 h.1 room
line-read (Jump by) ps rest h room = jump-line by ps rest h room
line-read (JumpLong by) ps rest h room = long-line by ps rest h room
line-read (JumpIf c by) ps rest h room = condition-line c by ps rest h.0 h.1 room
line-read (CallLocal by) ps rest h room = call-line by ps rest h room
line-read (CallHelper k) ps rest h room = helper-line k ps rest h room
line-read Exit ps rest h room = exit-line ps rest room
