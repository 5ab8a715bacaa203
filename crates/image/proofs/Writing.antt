-- Laws of code and images that were written in part.
use Rattle.image.proofs.Common.{◌≡◌, ℕ, suc, ◌+◌, ◌<◌, List, [], ◌∷◌, ◌++◌, take, drop, length, get_or, Option, Some, None, Result, Ok, Err, sym, ap, ◌∙◌, subst, drop-cons, OnErr, flat_map, take-append-drop, take_more, Appends, MapDef, Insn, spelling_of, AppendsBeginning, row_bytes, slot_spelling, code_bytes}
use Rattle.std.proofs.lemmas.Grind.{flat_map-append}
use Rattle.std.proofs.KnownBytes.{Appends-trans}
use Rattle.exact_io.proofs.TransferLaws.{AppendsBeginning-first, AppendsBeginning-second}

abbrev CodeSlots : Type 0
CodeSlots = List (Option Insn)

-- what holds, holds also if there was an error
pub on_err : {X E : Type 0} (P : Type 0) (r : Result X E) → P → OnErr r P
on_err P (Ok x) h = tt
on_err P (Err e) h = h

-- the spelling of code, in three parts at the instruction of a slot
code_bytes-split : (xs : List (Option Insn)) (k : ℕ) (i : Insn) → k < length xs
    → get_or xs k None ≡ Some i
    → code_bytes xs ≡ code_bytes (take k xs) ++ (spelling_of i ++ code_bytes (drop (suc k) xs))
code_bytes-split xs k i lt e =
    ap (λ (l : CodeSlots). code_bytes l) (sym (take-append-drop k xs))
    ∙ flat_map-append slot_spelling (take k xs) (drop k xs)
    ∙ ap (λ (l : CodeSlots). code_bytes (take k xs) ++ code_bytes l) (drop-cons xs k None lt)
    ∙ ap (λ (o : Option Insn). code_bytes (take k xs)
    ++ (slot_spelling o ++ code_bytes (drop (suc k) xs))) e

-- after the slots before it, a part of a slot's instruction was written
pub AppendsBeginning-code : (old mid new : Option (List ℕ)) (xs : List (Option Insn)) (k : ℕ)
    (i : Insn) → k < length xs → get_or xs k None ≡ Some i
    → Appends old mid (code_bytes (take k xs)) → AppendsBeginning mid new (spelling_of i)
    → AppendsBeginning old new (code_bytes xs)
AppendsBeginning-code old mid new xs k i lt e before part =
    let rest = code_bytes (drop (suc k) xs) in
    subst (λ (l : List ℕ). AppendsBeginning old new l) (sym (code_bytes-split xs k i lt e))
    (AppendsBeginning-second old mid new (code_bytes (take k xs)) (spelling_of i ++ rest) before
    (AppendsBeginning-first mid new (spelling_of i) rest part))

-- ---- map rows

-- the spelling of rows, in three parts at one of them
rows-split : (rows : List MapDef) (k : ℕ) (d : MapDef) → k < length rows
    → flat_map row_bytes rows
    ≡ flat_map row_bytes (take k rows)
    ++ (row_bytes (get_or rows k d) ++ flat_map row_bytes (drop (suc k) rows))
rows-split rows k d lt =
    ap (λ (l : List MapDef). flat_map row_bytes l) (sym (take-append-drop k rows))
    ∙ flat_map-append row_bytes (take k rows) (drop k rows)
    ∙ ap (λ (l : List MapDef). flat_map row_bytes (take k rows) ++ flat_map row_bytes l)
    (drop-cons rows k d lt)

-- after the rows before it, a part of a row was written
pub AppendsBeginning-rows : (old mid new : Option (List ℕ)) (rows : List MapDef) (k : ℕ)
    (d : MapDef) → k < length rows → Appends old mid (flat_map row_bytes (take k rows))
    → AppendsBeginning mid new (row_bytes (get_or rows k d))
    → AppendsBeginning old new (flat_map row_bytes rows)
AppendsBeginning-rows old mid new rows k d lt before part =
    let rest = flat_map row_bytes (drop (suc k) rows) in
    subst (λ (l : List ℕ). AppendsBeginning old new l) (sym (rows-split rows k d lt))
    (AppendsBeginning-second old mid new (flat_map row_bytes (take k rows))
    (row_bytes (get_or rows k d) ++ rest) before
    (AppendsBeginning-first mid new (row_bytes (get_or rows k d)) rest part))

-- after the rows before it, a row was written
pub Appends-rows : (old mid new : Option (List ℕ)) (rows : List MapDef) (k : ℕ) (d : MapDef)
    → k < length rows → Appends old mid (flat_map row_bytes (take k rows))
    → Appends mid new (row_bytes (get_or rows k d))
    → Appends old new (flat_map row_bytes (take (k + 1) rows))
Appends-rows old mid new rows k d lt before row =
    let all : flat_map row_bytes (take (k + 1) rows)
    ≡ flat_map row_bytes (take k rows) ++ row_bytes (get_or rows k d) =
    ap (λ (l : List MapDef). flat_map row_bytes l) (take_more rows k d lt)
    ∙ flat_map-append row_bytes (take k rows) (get_or rows k d ∷ []) in
    subst (λ (l : List ℕ). Appends old new l) (sym all)
    (Appends-trans old mid new (flat_map row_bytes (take k rows))
    (row_bytes (get_or rows k d)) before row)
