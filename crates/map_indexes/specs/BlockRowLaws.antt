-- The rows of a block after one is written.
use Rattle.std.proofs.Common.{◌≡◌, ℕ, zero, suc, ◌+◌, ◌-◌, ◌*◌, ◌≤◌, ◌<◌, List, ◌++◌, length, take, drop, sym, ap, ◌∙◌, append_assoc, arith, inl, inr, ◌⊎◌}
use Rattle.std.proofs.Math.Seq.{take-add}
use Rattle.std.proofs.lemmas.List.{take-append-drop, take_at, drop_at, drop-drop, drop-take, take-take, length-append, length-take, length-drop, take-append-le}
use native.Mathlib.Nat.{mul-le-mul_right, suc-mul}
use Rattle.std.specs.List.{splice}
use Rattle.map_indexes.specs.BlockRows.{block_row, with_block_row}

module _ (b : List ℕ) (i : ℕ) (v : List ℕ) (inside : i + length v ≤ length b) where
  abbrev front : List ℕ
  front = take i b

  abbrev rest : List ℕ
  rest = drop (i + length v) b

  abbrev spliced : List ℕ
  spliced = splice b i (i + length v) v

  length-front : length front ≡ i
  length-front = let e = length-take i b in omega arith

  joined : spliced ≡ (front ++ v) ++ rest
  joined = sym (append_assoc front v rest)

  length-written : length (front ++ v) ≡ i + length v
  length-written = let e = length-append front v in let f = length-front in omega arith

  -- a splice in place keeps the length
  pub length-splice : length spliced ≡ length b
  length-splice =
      let e = length-append front (v ++ rest) in
      let f = length-append v rest in
      let g = length-drop (i + length v) b in
      let h = length-front in
      omega arith

  drop_past : drop (i + length v) spliced ≡ rest
  drop_past =
      ap (drop (i + length v)) joined ∙ drop_at (front ++ v) rest (i + length v) length-written

  take_past : take (i + length v) spliced ≡ front ++ v
  take_past =
      ap (take (i + length v)) joined ∙ take_at (front ++ v) rest (i + length v) length-written

  part_after : (j n : ℕ) → i + length v ≤ j → take n (drop j spliced) ≡ take n (drop j b)
  part_after j n h =
      let d : ℕ = j - (i + length v) in
      let e : i + length v + d ≡ j = omega arith in
      ap (take n) (ap (λ (k : ℕ). drop k spliced) (sym e) ∙ sym (drop-drop d (i + length v) spliced)
      ∙ ap (drop d) drop_past
      ∙ drop-drop d (i + length v) b ∙ ap (λ (k : ℕ). drop k b) e)

  part_before : (j n : ℕ) → j + n ≤ i → take n (drop j spliced) ≡ take n (drop j b)
  part_before j n h =
      let l = length-front in
      sym (drop-take j n spliced)
      ∙ ap (drop j)
      (take-append-le (j + n) front (v ++ rest) (omega arith) ∙ take-take (j + n) i b h)
      ∙ drop-take j n b

  part_written : take (length v) (drop i spliced) ≡ v
  part_written =
      sym (drop-take i (length v) spliced) ∙ ap (drop i) take_past ∙ drop_at front v i length-front

-- a row ends where a later one begins, or before
pub row_end : (p n size : ℕ) → p < n → p * size + size ≤ n * size
row_end p n size h =
    let e = suc-mul p size in
    let g : suc p * size ≤ n * size = mul-le-mul_right size (omega arith) in omega arith

pub below_or_above : (j i : ℕ) → (j ≡ i → ⊥) → (j < i) ⊎ (i < j)
below_or_above zero zero d = absurd (d (omega arith))
below_or_above zero (suc i) d = inl (omega arith)
below_or_above (suc j) zero d = inr (omega arith)
below_or_above (suc j) (suc i) d =
    elim (below_or_above j i (λ e. d (ap suc e)))
    [ inl h ↦ inl (omega arith) | inr h ↦ inr (omega arith) ]

module _ (size : ℕ) (block : List ℕ) (p : ℕ) (row : List ℕ) (n : ℕ) (long : length row ≡ size)
    (whole : length block ≡ n * size) (inside : p < n) where
  pub row_inside : p * size + length row ≤ length block
  row_inside = let g = row_end p n size inside in omega arith

  -- a written row keeps the block's length
  pub length-with_block_row : length (with_block_row size block p row) ≡ n * size
  length-with_block_row = length-splice block (p * size) row row_inside ∙ whole

  -- the row is the one written
  pub block_row-written : block_row size (with_block_row size block p row) p ≡ row
  block_row-written =
      ap (λ (k : ℕ). take k (drop (p * size) (with_block_row size block p row))) (sym long)
      ∙ part_written block (p * size) row row_inside

  -- and every other row is as it was
  pub block_row-other : (j : ℕ) → (j ≡ p → ⊥)
      → block_row size (with_block_row size block p row) j ≡ block_row size block j
  block_row-other j d = elim (below_or_above j p d) [
    | inl l ↦
        let g = row_end j p size l in
        part_before block (p * size) row row_inside (j * size) size (omega arith)
    | inr l ↦
        let g = row_end p j size l in
        part_after block (p * size) row row_inside (j * size) size (omega arith)
  ]

-- ---- comparisons with equal numbers

pub below-same : (p : ℕ) {a b : ℕ} → a ≡ b → p < a → p < b
below-same p e h = omega arith

pub at_most-same : (p : ℕ) {a b : ℕ} → a ≡ b → p ≤ a → p ≤ b
at_most-same p e h = omega arith

-- ---- part of a row written

module _ (size n : ℕ) (block : List ℕ) (p : ℕ) (whole : length block ≡ n * size) (inside : p < n)
    (i : ℕ) (v : List ℕ) (fits : i + length v ≤ size) where
  abbrev pub start : ℕ
  start = p * size

  abbrev pub row : List ℕ
  row = block_row size block p

  abbrev pub changed_row : List ℕ
  changed_row = splice row i (i + length v) v

  pub length-block_row : length row ≡ size
  length-block_row =
      let g = row_end p n size inside in
      let d = length-drop start block in
      let t = length-take size (drop start block) in
      omega arith

  pub length-changed_row : length changed_row ≡ size
  length-changed_row = let e = length-block_row in length-splice row i v (omega arith) ∙ e

  rest_of_row : drop (i + length v) row ++ drop (start + size) block
      ≡ drop (start + i + length v) block
  rest_of_row =
      let k : ℕ = i + length v in
      let m : ℕ = size - k in
      let s : k + m ≡ size = omega arith in
      let a : start + k + m ≡ start + size = omega arith in
      let b : start + k ≡ start + i + length v = omega arith in
      let d : List ℕ = drop start block in
      let front : drop k (take size d) ≡ take m (drop k d) =
      ap (λ (j : ℕ). drop k (take j d)) (sym s) ∙ drop-take k m d in
      let back : drop (start + size) block ≡ drop m (drop k d) =
      ap (λ (j : ℕ). drop j block) (sym a) ∙ sym (drop-drop m (start + k) block)
      ∙ ap (drop m) (sym (drop-drop k start block)) in
      (λ j. front j ++ back j) ∙ take-append-drop m (drop k d) ∙ drop-drop k start block
      ∙ ap (λ (j : ℕ). drop j block) b

  -- bytes written into a row of a block change that row
  pub splice_in_row : splice block (start + i) (start + i + length v) v
      ≡ with_block_row size block p changed_row
  splice_in_row =
      let d : List ℕ = drop start block in
      let long = length-changed_row in
      let front : take (start + i) block ≡ take start block ++ take i row =
      take-add start i block
      ∙ ap (λ (l : List ℕ). take start block ++ l) (sym (take-take i size d (omega arith))) in
      let tail : List ℕ = drop (start + i + length v) block in
      let ends : start + size ≡ start + length changed_row = omega arith in
      let back : tail ≡ drop (i + length v) row ++ drop (start + length changed_row) block =
      sym rest_of_row ∙ ap (λ (j : ℕ). drop (i + length v) row ++ drop j block) ends in
      (λ j. front j ++ (v ++ back j))
      ∙ append_assoc (take start block) (take i row)
      (v ++ (drop (i + length v) row ++ drop (start + length changed_row) block))
      ∙ ap (λ (l : List ℕ). take start block ++ l)
      (ap (λ (l : List ℕ). take i row ++ l)
      (sym (append_assoc v (drop (i + length v) row) (drop (start + length changed_row) block)))
      ∙ sym (append_assoc (take i row) (v ++ drop (i + length v) row)
      (drop (start + length changed_row) block)))
