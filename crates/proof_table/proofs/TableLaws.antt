-- Tables are read from their spelling.
use Rattle.proof_table.proofs.Common.{◌≡◌, ℕ, zero, suc, ◌+◌, ◌≤◌, nat_lt, ◌==◌, false, List, [], ◌∷◌, ◌++◌, length, drop, map, All, Option, Some, None, Result, Ok, ap, sym, ◌∙◌, append_assoc, append-nil, length-append, arith, flat_map, le-ltb, All-head, All-tail, little_number, little_number-reads_back, Program, Read, Entry, entry_bytes, head_bytes, table_bytes, EntryFits}
use Rattle.std.specs.Prelude.{refl}
use Rattle.table_entries.specs.declared.refusals.TableRefusal.{TableRefusal}
use Rattle.isa_model.specs.declared.limits.TheConstants.{MAX_EXPLORED}
use Rattle.table_entries.specs.Tables.{before, then_entries, entries_in, to_the_end, count_in, with_count, first_none, all_of, unless, all_allowed, table_read}
use Rattle.proof_table.proofs.EntryLaws.{entry_in-reads}

entries_in-reads : (p : Program) (es : List Entry) (n k : ℕ) (rest : List ℕ) → length es ≡ n
    → All (EntryFits p) es
    → entries_in p n k (flat_map entry_bytes es ++ rest) ≡ Ok (map Some es, rest)
unfolding entries_in
entries_in-reads p [] zero k rest size h = refl
entries_in-reads p [] (suc n) k rest size h = absurd (omega arith)
entries_in-reads p (e ∷ es) zero k rest size h = absurd (omega arith)
entries_in-reads p (e ∷ es) (suc n) k rest size h =
    let behind = flat_map entry_bytes es ++ rest in
    ap (entries_in p (suc n) k) (append_assoc (entry_bytes e) (flat_map entry_bytes es) rest)
    ∙ ap (λ (r : Read Entry). then_entries k r (λ more. entries_in p n (k + 1) more))
    (entry_in-reads p e behind (All-head (EntryFits p) e es h))
    ∙ ap (before (Some e))
    (entries_in-reads p es n (k + 1) rest (omega arith) (All-tail (EntryFits p) e es h))

all_there : (es : List Entry) (k : ℕ) → first_none k (map Some es) ≡ None
all_there [] k = refl
all_there (e ∷ es) k = all_there es (k + 1)

all_kept : (es : List Entry) → all_of (map Some es) ≡ es
all_kept [] = refl
all_kept (e ∷ es) = ap (λ (l : List Entry). e ∷ l) (all_kept es)

-- the count that the first 8 bytes say
count_in-reads : (n : ℕ) (rest : List ℕ) → 1 ≤ n → n ≤ MAX_EXPLORED
    → count_in (head_bytes n ++ rest) ≡ Ok n
count_in-reads n rest some few =
    let bytes = head_bytes n ++ rest in
    let long : nat_lt (length bytes) 8 ≡ false =
    le-ltb (length bytes) 8 (omega (arith, length-append (head_bytes n) rest)) in
    let count : little_number 4 (drop 4 bytes) ≡ n =
    little_number-reads_back 4 n rest (omega arith) in
    let nonzero : (n == 0) ≡ false = grind arith in
    let most : nat_lt MAX_EXPLORED n ≡ false = le-ltb MAX_EXPLORED n few in
    rw (long, count, nonzero, most) refl

pub table_read-table_bytes : (p : Program) (es : List Entry) → 1 ≤ length es
    → length es ≤ MAX_EXPLORED → All (EntryFits p) es → table_read p (table_bytes es) ≡ Ok es
table_read-table_bytes p es some few h =
    let n = length es in
    let bytes = table_bytes es in
    let body : entries_in p n 0 (flat_map entry_bytes es) ≡ Ok (map Some es, []) =
    ap (entries_in p n 0) (sym (append-nil (flat_map entry_bytes es)))
    ∙ entries_in-reads p es n 0 [] refl h in
    ap (λ (r : Result ℕ TableRefusal). all_allowed (with_count p bytes r))
    (count_in-reads n (flat_map entry_bytes es) some few)
    ∙ ap (λ (r : Result (List (Option Entry) × List ℕ) TableRefusal). all_allowed (to_the_end r))
    body
    ∙ ap (λ (o : Option ℕ). unless o (all_of (map Some es))) (all_there es 0)
    ∙ ap (λ (l : List Entry). let r : Result (List Entry) TableRefusal = Ok l in r) (all_kept es)
