-- A list after a write at an index: inside what was written, before it and after it; and its parts
-- of eight.
use Rattle.stack_state.proofs.Common.{◌≡◌, ℕ, ◌+◌, ◌-◌, ◌*◌, ◌/◌, ◌%◌, ◌<◌, ◌≤◌, List, ◌++◌, length, take, drop, slice_index_or, ◌⊎◌, sym, ap, ◌∙◌, inl, inr, arith, refl, length-drop, length-take-le, get_or-take, get_or-drop, get_or-append_right, get_or_append_left, same_lists, drop-take, drop-drop, take-take, length-splice, part_of, chunk_of, cells_with}

pub length-cells_with : {X : Type 0} (xs ys : List X) (at : ℕ) → at + length ys ≤ length xs
    → length (cells_with xs at ys) ≡ length xs
length-cells_with xs ys at fits = length-splice xs ys at fits

-- ---- one index

pub written_inside : {X : Type 0} (xs ys : List X) (at p : ℕ) (d : X) → at ≤ p → p < at + length ys
    → at + length ys ≤ length xs
    → slice_index_or (cells_with xs at ys) p d ≡ slice_index_or ys (p - at) d
written_inside xs ys at p d from to fits =
    let front = length-take-le at xs (omega arith) in
    get_or-append_right (take at xs) (ys ++ drop (at + length ys) xs) at p d front from
    ∙ get_or_append_left ys (drop (at + length ys) xs) d (p - at) (omega arith)

pub written_before : {X : Type 0} (xs ys : List X) (at p : ℕ) (d : X) → p < at
    → at + length ys ≤ length xs → slice_index_or (cells_with xs at ys) p d ≡ slice_index_or xs p d
written_before xs ys at p d to fits =
    let front = length-take-le at xs (omega arith) in
    get_or_append_left (take at xs) (ys ++ drop (at + length ys) xs) d p (omega arith)
    ∙ get_or-take at xs p d to

pub written_after : {X : Type 0} (xs ys : List X) (at p : ℕ) (d : X) → at + length ys ≤ p
    → at + length ys ≤ length xs → slice_index_or (cells_with xs at ys) p d ≡ slice_index_or xs p d
written_after xs ys at p d from fits =
    let front = length-take-le at xs (omega arith) in
    let same : at + length ys + (p - at - length ys) ≡ p = omega arith in
    get_or-append_right (take at xs) (ys ++ drop (at + length ys) xs) at p d front (omega arith)
    ∙ get_or-append_right ys (drop (at + length ys) xs) (length ys) (p - at) d refl (omega arith)
    ∙ get_or-drop (at + length ys) xs (p - at - length ys) d
    ∙ ap (λ q. slice_index_or xs q d) same

-- ---- the eight of a slot

pub get_or-chunk : {X : Type 0} (k i : ℕ) (xs : List X) (d : X) → i < 8
    → slice_index_or (chunk_of k xs) i d ≡ slice_index_or xs (8 * k + i) d
get_or-chunk k i xs d h = get_or-take 8 (drop (8 * k) xs) i d h ∙ get_or-drop (8 * k) xs i d

pub length-chunk : {X : Type 0} (k : ℕ) (xs : List X) → 8 * k + 8 ≤ length xs
    → length (chunk_of k xs) ≡ 8
length-chunk k xs inside =
    length-take-le 8 (drop (8 * k) xs) (let rest = length-drop (8 * k) xs in omega arith)

-- an index of the stack slot that is not written
pub chunk_kept : {X : Type 0} (xs ys : List X) (at k i : ℕ) (d : X) → i < 8
    → (8 * k + i < at) ⊎ (at + length ys ≤ 8 * k + i) → at + length ys ≤ length xs
    → slice_index_or (chunk_of k (cells_with xs at ys)) i d ≡ slice_index_or (chunk_of k xs) i d
chunk_kept xs ys at k i d h (inl before) fits =
    get_or-chunk k i (cells_with xs at ys) d h ∙ written_before xs ys at (8 * k + i) d before fits
    ∙ sym (get_or-chunk k i xs d h)
chunk_kept xs ys at k i d h (inr after) fits =
    get_or-chunk k i (cells_with xs at ys) d h ∙ written_after xs ys at (8 * k + i) d after fits
    ∙ sym (get_or-chunk k i xs d h)

-- an index that is written
pub chunk_written : {X : Type 0} (xs ys : List X) (at k i : ℕ) (d : X) → i < 8 → at ≤ 8 * k + i
    → 8 * k + i < at + length ys → at + length ys ≤ length xs
    → slice_index_or (chunk_of k (cells_with xs at ys)) i d ≡ slice_index_or ys (8 * k + i - at) d
chunk_written xs ys at k i d h from to fits =
    get_or-chunk k i (cells_with xs at ys) d h ∙ written_inside xs ys at (8 * k + i) d from to fits

-- another slot
pub chunk_other : {X : Type 0} (xs ys : List X) (at k : ℕ) → 8 * k + 8 ≤ length xs
    → at + length ys ≤ length xs
    → (8 * k + 8 ≤ at) ⊎ (at + length ys ≤ 8 * k) → chunk_of k (cells_with xs at ys) ≡ chunk_of k xs
chunk_other xs ys at k inside fits (inl before) =
    let long = length-cells_with xs ys at fits in
    let eight = length-chunk k (cells_with xs at ys) (omega arith) in
    same_lists _ _ (eight ∙ sym (length-chunk k xs inside))
    (λ i d h. chunk_kept xs ys at k i d (omega arith) (inl (omega arith)) fits)
chunk_other xs ys at k inside fits (inr after) =
    let long = length-cells_with xs ys at fits in
    let eight = length-chunk k (cells_with xs at ys) (omega arith) in
    same_lists _ _ (eight ∙ sym (length-chunk k xs inside))
    (λ i d h. chunk_kept xs ys at k i d (omega arith) (inr (omega arith)) fits)

-- a slot that is written whole
pub chunk_whole : {X : Type 0} (xs ys : List X) (k : ℕ) → length ys ≡ 8 → 8 * k + 8 ≤ length xs
    → chunk_of k (cells_with xs (8 * k) ys) ≡ ys
chunk_whole xs ys k eight inside =
    let long = length-cells_with xs ys (8 * k) (omega arith) in
    let same : (i : ℕ) → 8 * k + i - 8 * k ≡ i = λ i. omega arith in
    same_lists _ _ (length-chunk k (cells_with xs (8 * k) ys) (omega arith) ∙ sym eight)
    (λ i d h. let short = length-chunk k (cells_with xs (8 * k) ys) (omega arith) in
    chunk_written xs ys (8 * k) k i d (omega arith) (omega arith) (omega arith) (omega arith)
    ∙ ap (λ q. slice_index_or ys q d) (same i))

-- some of the elements inside a chunk
pub part_of-chunk : {X : Type 0} (xs : List X) (at n : ℕ) → at % 8 + n ≤ 8
    → part_of xs at n ≡ part_of (chunk_of (at / 8) xs) (at % 8) n
part_of-chunk xs at n inside =
    let k = at / 8 in
    let r = at % 8 in
    let ys = drop (8 * k) xs in
    let eight : r + (8 - r) ≡ 8 = omega arith in
    let index : 8 * k + r ≡ at = omega arith in
    let short = ap (λ m. drop r (take m ys)) (sym eight) ∙ drop-take r (8 - r) ys in
    sym (ap (take n) short ∙ take-take n (8 - r) (drop r ys) (omega arith)
    ∙ ap (take n) (drop-drop r (8 * k) xs ∙ ap (λ m. drop m xs) index))
