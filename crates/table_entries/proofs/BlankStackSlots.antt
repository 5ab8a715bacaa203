-- Bytes that are zeros, and the stack slots about which nothing is known that they spell: many of
-- them are read, or passed over, at once.
use Rattle.table_entries.proofs.Common.{◌≡◌, ℕ, zero, suc, ◌+◌, ◌-◌, ◌*◌, ◌<◌, ◌≤◌, Bool, true, List, [], ◌∷◌, ◌++◌, length, drop, replicate, Option, Some, None, Ok, Err, inl, inr, ap, sym, ◌∙◌, subst, arith, get_or, refl, is_some, cases_lt, get_or-drop, length-drop, drop-drop, replicate_more, little_number, StackSlot, Written, AreZeros, Read, seen, many, stack_slot_in}
use Rattle.table_entries.proofs.Many.{appended, with_front, many-goes_on, many-begins}
use Rattle.table_entries.proofs.Seen.{and_seen, seen-begins}

-- ---- zeros

eight_zeros : (xs : List ℕ) → little_number 8 xs ≡ 0 → (k : ℕ) → k < 8 → get_or xs k 0 ≡ 0
eight_zeros xs h zero lt = omega arith
eight_zeros xs h (suc zero) lt = omega arith
eight_zeros xs h (suc (suc zero)) lt = omega arith
eight_zeros xs h (suc (suc (suc zero))) lt = omega arith
eight_zeros xs h (suc (suc (suc (suc zero)))) lt = omega arith
eight_zeros xs h (suc (suc (suc (suc (suc zero))))) lt = omega arith
eight_zeros xs h (suc (suc (suc (suc (suc (suc zero)))))) lt = omega arith
eight_zeros xs h (suc (suc (suc (suc (suc (suc (suc zero))))))) lt = omega arith
eight_zeros xs h (suc (suc (suc (suc (suc (suc (suc (suc k)))))))) lt = absurd (omega arith)

zeros_at : (xs : List ℕ) (d : ℕ) → little_number 8 (drop d xs) ≡ 0 → (k : ℕ) → d ≤ k → k < d + 8
    → get_or xs k 0 ≡ 0
zeros_at xs d h k from to =
    let same : d + (k - d) ≡ k = omega arith in
    let zero : get_or (drop d xs) (k - d) 0 ≡ 0 = eight_zeros (drop d xs) h (k - d) (omega arith) in
    ap (λ (j : ℕ). get_or xs j 0) (sym same) ∙ sym (get_or-drop d xs (k - d) 0) ∙ zero

pub AreZeros-thirty_two : (xs : List ℕ) → 32 ≤ length xs → little_number 8 xs ≡ 0
    → little_number 8 (drop 8 xs) ≡ 0 → little_number 8 (drop 16 xs) ≡ 0
    → little_number 8 (drop 24 xs) ≡ 0 → AreZeros 32 xs
AreZeros-thirty_two xs long a b c d = record { inside = long; zeros = each } where
  each : (k : ℕ) → k < 32 → get_or xs k 0 ≡ 0
  each k lt = elim (cases_lt k 8) [
    | inl h ↦ eight_zeros xs a k h
    | inr h ↦ elim (cases_lt k 16) [
      | inl i ↦ zeros_at xs 8 b k (omega arith) (omega arith)
      | inr i ↦ elim (cases_lt k 24) [
        | inl j ↦ zeros_at xs 16 c k (omega arith) (omega arith)
        | inr j ↦ zeros_at xs 24 d k (omega arith) (omega arith)
      ]
    ]
  ]

pub AreZeros-eight : (xs : List ℕ) → 8 ≤ length xs → little_number 8 xs ≡ 0 → AreZeros 8 xs
AreZeros-eight xs long a = record { inside = long; zeros = λ k lt. eight_zeros xs a k lt }

six_zeros : (xs : List ℕ) → little_number 4 (drop 2 xs) ≡ 0 → little_number 2 (drop 6 xs) ≡ 0
    → (k : ℕ) → k < 6 → get_or (drop 2 xs) k 0 ≡ 0
six_zeros xs a b zero lt = omega arith
six_zeros xs a b (suc zero) lt = omega arith
six_zeros xs a b (suc (suc zero)) lt = omega arith
six_zeros xs a b (suc (suc (suc zero))) lt = omega arith
six_zeros xs a b (suc (suc (suc (suc zero)))) lt =
    let z : get_or (drop 6 xs) 0 0 ≡ 0 = omega arith in
    get_or-drop 2 xs 4 0 ∙ sym (get_or-drop 6 xs 0 0) ∙ z
six_zeros xs a b (suc (suc (suc (suc (suc zero))))) lt =
    let z : get_or (drop 6 xs) 1 0 ≡ 0 = omega arith in
    get_or-drop 2 xs 5 0 ∙ sym (get_or-drop 6 xs 1 0) ∙ z
six_zeros xs a b (suc (suc (suc (suc (suc (suc k)))))) lt = absurd (omega arith)

-- six zeros after two bytes
pub AreZeros-six : (xs : List ℕ) → 8 ≤ length xs → little_number 4 (drop 2 xs) ≡ 0
    → little_number 2 (drop 6 xs) ≡ 0 → AreZeros 6 (drop 2 xs)
AreZeros-six xs long a b =
    record { inside = let size = length-drop 2 xs in omega arith; zeros = six_zeros xs a b }

-- more zeros after zeros
pub AreZeros-more : (n m : ℕ) (xs : List ℕ) → AreZeros n xs → AreZeros m (drop n xs)
    → AreZeros (n + m) xs
AreZeros-more n m xs first second = record {
  inside = let a = first.inside in let b = second.inside in let c = length-drop n xs in omega arith;
  zeros = λ k lt. elim (cases_lt k n) [
    | inl h ↦ first.zeros k h
    | inr h ↦
        let same : n + (k - n) ≡ k = omega arith in
        let zero : get_or (drop n xs) (k - n) 0 ≡ 0 = second.zeros (k - n) (omega arith) in
        ap (λ (j : ℕ). get_or xs j 0) (sym same) ∙ sym (get_or-drop n xs (k - n) 0) ∙ zero
  ];
}

AreZeros-fewer : (n m : ℕ) (xs : List ℕ) → m ≤ n → AreZeros n xs → AreZeros m xs
AreZeros-fewer n m xs le z =
    record { inside = let a = z.inside in omega arith; zeros = λ k lt. z.zeros k (omega arith) }

-- ---- stack slots

stack_slot_blank : (rows holder : ℕ) (bytes : List ℕ) → 2 ≤ length bytes → get_or bytes 0 0 ≡ 0
    → get_or bytes 1 0 ≡ 0
    → stack_slot_in rows holder bytes ≡ Ok (Some (Written 0), drop 2 bytes)
unfolding stack_slot_in
stack_slot_blank rows holder [] long a b = absurd (omega arith)
stack_slot_blank rows holder (x ∷ []) long a b = absurd (omega arith)
stack_slot_blank rows holder (x ∷ (y ∷ rest)) long a b = rw (a, b) refl

-- j stack slots about which nothing is known were read
pub blank_so_far : (rows holder n j : ℕ) (bytes : List ℕ) → j ≤ n → AreZeros (2 * j) bytes
    → with_front (Some (replicate j (Written 0)))
    (many (λ k. stack_slot_in rows holder) (n - j) j (drop (2 * j) bytes))
    ≡ many (λ k. stack_slot_in rows holder) n 0 bytes
blank_so_far rows holder n zero bytes le z = many-begins (λ k. stack_slot_in rows holder) n bytes
blank_so_far rows holder n (suc j) bytes le z =
    let before =
    blank_so_far rows holder n j bytes (omega arith)
    (AreZeros-fewer (2 * suc j) (2 * j) bytes (omega arith) z) in
    let rest : List ℕ = drop (2 * j) bytes in
    let inside = z.inside in
    let size : length rest ≡ length bytes - 2 * j = length-drop (2 * j) bytes in
    let a : get_or rest 0 0 ≡ 0 =
    get_or-drop (2 * j) bytes 0 0 ∙ z.zeros (2 * j + 0) (omega arith) in
    let b : get_or rest 1 0 ≡ 0 =
    get_or-drop (2 * j) bytes 1 0 ∙ z.zeros (2 * j + 1) (omega arith) in
    let read = stack_slot_blank rows holder rest (omega arith) a b in
    let next : drop 2 rest ≡ drop (2 * suc j) bytes =
    drop-drop 2 (2 * j) bytes ∙ ap (λ (k : ℕ). drop k bytes) (omega arith) in
    let one : j + 1 ≡ suc j = omega arith in
    let slots : replicate j (Written 0) ++ Written 0 ∷ [] ≡ replicate (suc j) (Written 0) =
    replicate_more j (Written 0) ∙ ap (λ (k : ℕ). replicate k (Written 0)) one in
    let after =
    many-goes_on (λ k. stack_slot_in rows holder) (Some (replicate j (Written 0))) n j rest
    (Some (Written 0)) (drop 2 rest) _ (omega arith) read before in
    subst (λ (k : ℕ). with_front (Some (replicate (suc j) (Written 0)))
    (many (λ k. stack_slot_in rows holder) (n - k) k (drop (2 * suc j) bytes))
    ≡ many (λ k. stack_slot_in rows holder) n 0 bytes) one
    (subst (λ (r : List ℕ). with_front (Some (replicate (suc j) (Written 0)))
    (many (λ k. stack_slot_in rows holder) (n - (j + 1)) (j + 1) r)
    ≡ many (λ k. stack_slot_in rows holder) n 0 bytes) next
    (subst (λ (xs : List StackSlot). with_front (Some xs)
    (many (λ k. stack_slot_in rows holder) (n - (j + 1)) (j + 1) (drop 2 rest))
    ≡ many (λ k. stack_slot_in rows holder) n 0 bytes) slots after))

seen_front : {X : Type 0} (front : List X) (read : Read (List X))
    → seen (with_front (Some front) read) ≡ seen read
seen_front front (Ok x) = ap (λ (b : Bool). Ok (b, x.1)) (of x.0) where
  of : (xs : Option (List _)) → is_some (appended (Some front) xs) ≡ is_some xs
  of (Some xs) = refl
  of None = refl
seen_front front (Err stop) = refl

-- the same, passed over
pub blank_passed : (rows holder n j : ℕ) (bytes : List ℕ) → j ≤ n → AreZeros (2 * j) bytes
    → and_seen true (seen (many (λ k. stack_slot_in rows holder) (n - j) j (drop (2 * j) bytes)))
    ≡ seen (many (λ k. stack_slot_in rows holder) n 0 bytes)
blank_passed rows holder n j bytes le z =
    let rest = many (λ k. stack_slot_in rows holder) (n - j) j (drop (2 * j) bytes) in
    seen-begins (seen rest) ∙ sym (seen_front (replicate j (Written 0)) rest)
    ∙ ap seen (blank_so_far rows holder n j bytes le z)
