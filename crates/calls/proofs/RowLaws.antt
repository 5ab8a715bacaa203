-- Rows that are written to a buffer one after another.
use Rattle.std.proofs.Common.{◌≡◌, ◌+◌, ◌<◌, ◌≤◌, ◌⊎◌, inl, inr, ℕ, List, [], ◌∷◌, ◌++◌, map, min, length, take, drop, set, get_or, refl, sym, ap, ◌∙◌, arith}
use Rattle.std.proofs.lemmas.List.{length-set, length-map, get_or-map, take_more, take_more_set, take_all, drop_all, drop-drop, drop-set-lt, take-append-drop}
use Rattle.isa_model.specs.declared.map_defs.MapDef.{MapDef}
use Rattle.isa_model.specs.declared.map_defs.MapType.TheVariants.{Hash}
use Rattle.calls.specs.declared.describing.MapRow.{MapRow}
use Rattle.calls.specs.Listings.{row_in_numbers, rows_filled}

-- the first i rows are written
pub record AreWritten (old : List MapRow) (rows : List MapDef) (now : List MapRow) (i : ℕ)
    : Type 0 where
  pub front : take i now ≡ take i (map row_in_numbers rows)
  pub rest : drop i now ≡ drop i old
  pub size : length now ≡ length old

abbrev pub no_row : MapDef
no_row = record { kind = Hash; key_size = 0; value_size = 0; entries = 0 }

pub none_written : (old : List MapRow) (rows : List MapDef) → AreWritten old rows old 0
none_written old rows = record { front = refl; rest = refl; size = refl }

-- one more row is written
pub one_more : (old : List MapRow) (rows : List MapDef) (now : List MapRow) (i : ℕ) (row : MapRow)
    → i < length rows → i < length now
    → row ≡ row_in_numbers (get_or rows i no_row)
    → AreWritten old rows now i → AreWritten old rows (set now i row) (i + 1)
one_more old rows now i row inside room is before =
    let numbers = map row_in_numbers rows in
    let d : MapRow = row_in_numbers no_row in
    let within : i < length numbers = let h = length-map rows row_in_numbers in omega arith in
    let next : get_or numbers i d ≡ row =
    get_or-map row_in_numbers rows i no_row d inside ∙ sym is in
    record {
      front =
          take_more_set now i row room
          ∙ ap (λ (l : List MapRow). l ++ row ∷ []) before.front
          ∙ ap (λ (r : MapRow). take i numbers ++ r ∷ []) (sym next)
          ∙ sym (take_more numbers i d within);
      rest =
          drop-set-lt (i + 1) now i row (omega arith)
          ∙ sym (drop-drop 1 i now)
          ∙ ap (drop 1) before.rest
          ∙ drop-drop 1 i old;
      size = length-set now i row ∙ before.size;
    }

-- the least of two numbers is one of them
few : (i m n : ℕ) → i ≡ min m n → ((i ≡ m) × (m ≤ n)) ⊎ ((i ≡ n) × (n ≤ m))
few i m n e = grind arith

-- all rows are written for which there is room
pub all_written : (old : List MapRow) (rows : List MapDef) (now : List MapRow) (i : ℕ)
    → i ≡ min (length rows) (length old) → AreWritten old rows now i
    → now ≡ rows_filled old rows
all_written old rows now i last written =
    let numbers = map row_in_numbers rows in
    let many : length numbers ≡ length rows = length-map rows row_in_numbers in
    let whole : now ≡ take i numbers ++ drop i old =
    sym (take-append-drop i now)
    ∙ ap (λ (l : List MapRow). l ++ drop i now) written.front
    ∙ ap (λ (l : List MapRow). take i numbers ++ l) written.rest in
    elim (few i (length rows) (length old) last) [
      | inl (is, fits) ↦
          whole
          ∙ ap (λ (l : List MapRow). l ++ drop i old)
          (take_all i numbers (omega arith)
          ∙ sym (take_all (length old) numbers (omega arith)))
          ∙ ap (λ (n : ℕ). take (length old) numbers ++ drop n old) is
      | inr (is, over) ↦
          whole
          ∙ ap (λ (n : ℕ). take n numbers ++ drop i old) is
          ∙ ap (λ (l : List MapRow). take (length old) numbers ++ l)
          (drop_all i old (omega arith)
          ∙ sym (drop_all (length rows) old (omega arith)))
    ]
