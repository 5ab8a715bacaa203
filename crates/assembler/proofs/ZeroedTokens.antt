-- Laws of tokens whose numbers were replaced by 0.
use Rattle.assembler.proofs.Common.{◌≡◌, ◌≤◌, ℕ, false, List, ◌++◌, map, take, drop, length, ap, ◌∙◌, sym, append-nil, arith, slice_range, le_of_eq, ◌-◌, take_all, drop_all, length-drop, Token, reading_of, zeroed, has_form}

-- the first n items are those that were written over a vector's items
pub same-items : (n : ℕ) (xs ys : List Token) → length xs ≡ n → length ys ≡ n
    → take n (xs ++ drop (length xs) ys) ≡ xs
same-items n xs ys e f =
    let few : length ys ≤ length xs = omega (arith, e, f) in
    let all : length xs ≤ n = omega (arith, e) in
    ap (λ l. take n (xs ++ l)) (drop_all (length xs) ys few) ∙ ap (λ l. take n l) (append-nil xs)
    ∙ take_all n xs all

-- where the loop has gone over all tokens, all are zeroed
pub all-zeroed : (ts : List Token) (n : ℕ) → length ts ≤ n
    → map zeroed (take n ts) ++ drop n ts ≡ map zeroed ts
all-zeroed ts n h = ap (λ l. map zeroed l ++ drop n ts) (take_all n ts h)
    ∙ ap (λ l. map zeroed ts ++ l) (drop_all n ts h) ∙ append-nil (map zeroed ts)

-- where no tokens are left, no form fits
pub has_form-none : (ts : List Token) (k : ℕ) → length ts ≤ k → false ≡ has_form (drop k ts)
unfolding reading_of
has_form-none ts k h = sym (ap (λ l. has_form l) (drop_all k ts h))

-- the range up to the end is all tokens from the index on
pub range-end : (k : ℕ) (ts : List Token) → slice_range ts k (length ts) ≡ drop k ts
range-end k ts = take_all (length ts - k) (drop k ts) (le_of_eq (length-drop k ts))
