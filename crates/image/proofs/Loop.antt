-- Reading rows and slots one after the other, as loops do.
use Rattle.image.proofs.Common.{◌≡◌, ℕ, suc, ◌-◌, ◌+◌, ◌*◌, ◌≤◌, ◌<◌, Bool, true, false, List, [], ◌∷◌, ◌++◌, drop, Option, Some, None, Result, Ok, Err, refl, sym, ap, ◌∙◌, append_assoc, append-nil, arith, drop-drop, MapDef, Insn, ImageError, is_wide, ◌>>=◌, row_at, rows_from, insn_at, code_from}

abbrev CodeSlots : Type 0
CodeSlots = List (Option Insn)

abbrev pub with_front : {A : Type 0} → List A → Result (List A) ImageError
    → Result (List A) ImageError
with_front front read = read >>= λ xs. Ok (front ++ xs)

regroup : {A : Type 0} (front : List A) (x : A) (read : Result (List A) ImageError)
    → with_front front (read >>= λ xs. Ok (x ∷ xs)) ≡ with_front (front ++ x ∷ []) read
regroup {A} front x (Ok xs) =
    ap (λ (ys : List A). let r : Result (List A) ImageError = Ok ys in r) (simp append_assoc)
regroup front x (Err f) = refl

-- the bytes after one more slot
next_bytes : (slot : ℕ) (bytes : List ℕ)
    → drop 8 (drop (8 * slot) bytes) ≡ drop (8 * (slot + 1)) bytes
next_bytes slot bytes = drop-drop 8 (8 * slot) bytes ∙ ap (λ n. drop n bytes) (omega arith)

abbrev pub CodeReadSoFar : List MapDef → CodeSlots → ℕ → Bool → ℕ → List ℕ
    → Result CodeSlots ImageError → Type 0
CodeReadSoFar rows front n half slot bytes total =
    with_front front (code_from rows (n - slot) half slot (drop (8 * slot) bytes)) ≡ total

pub goes_on_half : (rows : List MapDef) (front : CodeSlots) (n slot : ℕ) (bytes : List ℕ)
    (total : Result CodeSlots ImageError) → slot < n
    → CodeReadSoFar rows front n true slot bytes total
    → CodeReadSoFar rows (front ++ None ∷ []) n false (slot + 1) bytes total
unfolding code_from
goes_on_half rows front n slot bytes total lt so_far =
    let k : n - slot ≡ suc (n - (slot + 1)) = omega arith in
    let one : with_front front (code_from rows (n - slot) true slot (drop (8 * slot) bytes))
    ≡ with_front (front ++ None ∷ [])
    (code_from rows (n - (slot + 1)) false (slot + 1) (drop 8 (drop (8 * slot) bytes))) = rw k
    (regroup front None
    (code_from rows (n - (slot + 1)) false (slot + 1) (drop 8 (drop (8 * slot) bytes)))) in
    ap (λ b. with_front (front ++ None ∷ []) (code_from rows (n - (slot + 1)) false (slot + 1) b))
    (sym (next_bytes slot bytes)) ∙ sym one ∙ so_far

pub goes_on : (rows : List MapDef) (front : CodeSlots) (n slot : ℕ) (bytes : List ℕ) (i : Insn)
    (total : Result CodeSlots ImageError) → slot < n
    → insn_at rows slot (drop (8 * slot) bytes) ≡ Ok i
    → CodeReadSoFar rows front n false slot bytes total
    → CodeReadSoFar rows (front ++ Some i ∷ []) n (is_wide i) (slot + 1) bytes total
unfolding code_from
goes_on rows front n slot bytes i total lt h so_far =
    let k : n - slot ≡ suc (n - (slot + 1)) = omega arith in
    let rest = drop 8 (drop (8 * slot) bytes) in
    let one : with_front front (code_from rows (n - slot) false slot (drop (8 * slot) bytes))
    ≡ with_front (front ++ Some i ∷ [])
    (code_from rows (n - (slot + 1)) (is_wide i) (slot + 1) rest) =
    rw k (ap (λ (r : Result Insn ImageError). with_front front
    (r >>= λ j. code_from rows (n - (slot + 1)) (is_wide j) (slot + 1) rest
    >>= λ xs. Ok (Some j ∷ xs))) h
    ∙ regroup front (Some i) (code_from rows (n - (slot + 1)) (is_wide i) (slot + 1) rest)) in
    ap (λ b. with_front (front ++ Some i ∷ [])
    (code_from rows (n - (slot + 1)) (is_wide i) (slot + 1) b)) (sym (next_bytes slot bytes))
    ∙ sym one ∙ so_far

pub fails : (rows : List MapDef) (e : ImageError) (front : CodeSlots) (n slot : ℕ) (bytes : List ℕ)
    (total : Result CodeSlots ImageError) → slot < n
    → insn_at rows slot (drop (8 * slot) bytes) ≡ Err e
    → CodeReadSoFar rows front n false slot bytes total → total ≡ Err e
unfolding code_from
fails rows e front n slot bytes total lt h so_far =
    let k : n - slot ≡ suc (n - (slot + 1)) = omega arith in
    let rest = drop 8 (drop (8 * slot) bytes) in
    let one : with_front front (code_from rows (n - slot) false slot (drop (8 * slot) bytes))
    ≡ Err e =
    rw k (ap (λ (r : Result Insn ImageError). with_front front
    (r >>= λ j. code_from rows (n - (slot + 1)) (is_wide j) (slot + 1) rest
    >>= λ xs. Ok (Some j ∷ xs))) h) in
    sym so_far ∙ one

pub is_done : (rows : List MapDef) (front : CodeSlots) (n slot : ℕ) (half : Bool) (bytes : List ℕ)
    (total : Result CodeSlots ImageError) → n ≤ slot
    → CodeReadSoFar rows front n half slot bytes total → total ≡ Ok front
unfolding code_from
is_done rows front n slot half bytes total le so_far =
    let k : n - slot ≡ 0 = omega arith in
    let one : with_front front (code_from rows (n - slot) half slot (drop (8 * slot) bytes))
    ≡ Ok front = rw k (ap (λ (xs : CodeSlots). Ok xs) (append-nil front)) in
    sym so_far ∙ one

-- ---- map rows

next_row : (index : ℕ) (bytes : List ℕ)
    → drop 12 (drop (12 * index) bytes) ≡ drop (12 * (index + 1)) bytes
next_row index bytes = drop-drop 12 (12 * index) bytes ∙ ap (λ n. drop n bytes) (omega arith)

abbrev pub RowsSoFar : List MapDef → ℕ → ℕ → List ℕ → Result (List MapDef) ImageError → Type 0
RowsSoFar front n index bytes total =
    with_front front (rows_from (n - index) index (drop (12 * index) bytes)) ≡ total

pub row_goes_on : (front : List MapDef) (n index : ℕ) (bytes : List ℕ) (row : MapDef)
    (total : Result (List MapDef) ImageError) → index < n
    → row_at index (drop (12 * index) bytes) ≡ Ok row → RowsSoFar front n index bytes total
    → RowsSoFar (front ++ row ∷ []) n (index + 1) bytes total
unfolding rows_from
row_goes_on front n index bytes row total lt h so_far =
    let k : n - index ≡ suc (n - (index + 1)) = omega arith in
    let rest = drop 12 (drop (12 * index) bytes) in
    let one : with_front front (rows_from (n - index) index (drop (12 * index) bytes))
    ≡ with_front (front ++ row ∷ []) (rows_from (n - (index + 1)) (index + 1) rest) =
    rw k (ap (λ (r : Result MapDef ImageError). with_front front
    (r >>= λ x. rows_from (n - (index + 1)) (index + 1) rest >>= λ xs. Ok (x ∷ xs))) h
    ∙ regroup front row (rows_from (n - (index + 1)) (index + 1) rest)) in
    ap (λ b. with_front (front ++ row ∷ []) (rows_from (n - (index + 1)) (index + 1) b))
    (sym (next_row index bytes)) ∙ sym one ∙ so_far

pub row_fails : (e : ImageError) (front : List MapDef) (n index : ℕ) (bytes : List ℕ)
    (total : Result (List MapDef) ImageError) → index < n
    → row_at index (drop (12 * index) bytes) ≡ Err e → RowsSoFar front n index bytes total
    → total ≡ Err e
unfolding rows_from
row_fails e front n index bytes total lt h so_far =
    let k : n - index ≡ suc (n - (index + 1)) = omega arith in
    let rest = drop 12 (drop (12 * index) bytes) in
    let one : with_front front (rows_from (n - index) index (drop (12 * index) bytes)) ≡ Err e =
    rw k (ap (λ (r : Result MapDef ImageError). with_front front
    (r >>= λ x. rows_from (n - (index + 1)) (index + 1) rest >>= λ xs. Ok (x ∷ xs))) h) in
    sym so_far ∙ one

pub rows_are_done : (front : List MapDef) (n index : ℕ) (bytes : List ℕ)
    (total : Result (List MapDef) ImageError) → n ≤ index → RowsSoFar front n index bytes total
    → total ≡ Ok front
unfolding rows_from
rows_are_done front n index bytes total le so_far =
    let k : n - index ≡ 0 = omega arith in
    let one : with_front front (rows_from (n - index) index (drop (12 * index) bytes)) ≡ Ok front =
    rw k (ap (λ (xs : List MapDef). let r : Result (List MapDef) ImageError = Ok xs in r)
    (append-nil front)) in
    sym so_far ∙ one
