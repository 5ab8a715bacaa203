-- Stack slots before one, of which nothing is known.
use Rattle.stack_state.proofs.Common.{◌≡◌, ◌≤◌, ◌<◌, ◌+◌, ◌++◌, ◌∷◌, [], ℕ, List, length, take, drop, map, replicate, set, get_or, ap, sym, arith, ◌∙◌, replicate_more, append_assoc, set-append_right, drop-set, drop-set-add, ext_get_or, get_or-replicate, get_or-take, get_or-set_other, get_or-map, length-map, length-replicate, length-take-le, take-append-drop, StackSlot, Written, AreBlankBefore}

-- they are all the same
pub blank_taken : (n : ℕ) (xs : List StackSlot) → n ≤ length xs → AreBlankBefore n xs
    → take n xs ≡ replicate n (Written 0)
blank_taken n xs inside blank =
    ext_get_or (Written 0) (take n xs) (replicate n (Written 0))
    (length-take-le n xs inside ∙ sym (length-replicate n (Written 0)))
    (λ i below.
    let under : i < n = omega (arith, length-take-le n xs inside) in
    get_or-take n xs i (Written 0) under ∙ blank i under
    ∙ sym (get_or-replicate n i (Written 0) (Written 0) under))

-- they come before the others
pub blank_first : (n : ℕ) (xs : List StackSlot) → n ≤ length xs → AreBlankBefore n xs
    → xs ≡ replicate n (Written 0) ++ drop n xs
blank_first n xs inside blank =
    sym (take-append-drop n xs) ∙ ap (λ ys. ys ++ drop n xs) (blank_taken n xs inside blank)

-- another slot is written
pub blank_set : (n m i : ℕ) (s : StackSlot) (xs : List StackSlot) → m ≤ n → m ≤ i
    → AreBlankBefore n xs → AreBlankBefore m (set xs i s)
blank_set n m i s xs few low blank = λ k below.
    get_or-set_other xs i k s (Written 0) (λ same. omega (arith, same)) ∙ blank k (omega arith)

-- what leaves a blank slot as it is leaves them all
pub blank_mapped : (f : StackSlot → StackSlot) (n : ℕ) (xs : List StackSlot) → n ≤ length xs
    → AreBlankBefore n xs → f (Written 0) ≡ Written 0 → map f (take n xs) ≡ take n xs
blank_mapped f n xs inside blank same =
    ext_get_or (Written 0) (map f (take n xs)) (take n xs) (length-map (take n xs) f)
    (λ i below.
    let count = length-map (take n xs) f in
    let under : i < n = omega (arith, count, length-take-le n xs inside) in
    let here : get_or (take n xs) i (Written 0) ≡ Written 0 =
    get_or-take n xs i (Written 0) under ∙ blank i under in
    get_or-map f (take n xs) i (Written 0) (Written 0) (omega (arith, count))
    ∙ ap f here ∙ same ∙ sym here)

cleared_head : (i : ℕ) (xs : List StackSlot) → i < length xs
    → set (drop i xs) 0 (Written 0) ≡ Written 0 ∷ drop (i + 1) xs
cleared_head i xs inside =
    ap (λ (n : ℕ). set (drop i xs) n (Written 0)) (omega arith)
    ∙ sym (drop-set-add i xs 0 (Written 0))
    ∙ ap (λ (n : ℕ). drop i (set xs n (Written 0))) (omega arith)
    ∙ drop-set xs i (Written 0) inside

-- one more of them is cleared
pub blank_more : (i : ℕ) (xs ys : List StackSlot) → i < length xs
    → ys ≡ replicate i (Written 0) ++ drop i xs
    → set ys i (Written 0) ≡ replicate (i + 1) (Written 0) ++ drop (i + 1) xs
blank_more i xs ys inside same =
    let all : List StackSlot = replicate i (Written 0) in
    let count : length all ≡ i = length-replicate i (Written 0) in
    ap (λ (zs : List StackSlot). set zs i (Written 0)) same
    ∙ set-append_right all (drop i xs) i i (Written 0) count (omega arith)
    ∙ ap (λ (n : ℕ). all ++ set (drop i xs) n (Written 0)) (omega arith)
    ∙ ap (λ (zs : List StackSlot). all ++ zs) (cleared_head i xs inside)
    ∙ sym (append_assoc all (Written 0 ∷ []) (drop (i + 1) xs))
    ∙ ap (λ (zs : List StackSlot). zs ++ drop (i + 1) xs) (replicate_more i (Written 0))
