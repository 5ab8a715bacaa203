-- Laws of the ranks of numbers that were counted.
use Rattle.coverage.proofs.Common.{◌≡◌, ℕ, ◌+◌, ◌<◌, ◌≤◌, ◌==◌, if◌then◌else◌, cond, Bool, true, false, nat_lt, nat_le, List, [], ◌∷◌, length, count_by, All, refl, sym, ap, ◌∙◌, arith, sum_by-cons, is_number}
use Rattle.std.proofs.lemmas.Bool.{lt-ltb, ltb-true, le-ltb, ltb-false, leb-true, leb-false, eqb-true, eqb-false}
use Rattle.std.proofs.lemmas.List.Elements.{All-head, All-tail}

count_by-cons : {A : Type 0} (p : A → Bool) (x : A) (xs : List A)
    → count_by p (x ∷ xs) ≡ (if p x then 1 else 0) + count_by p xs
count_by-cons p x xs = sum_by-cons (λ y. cond (p y) 1 0) x xs

abbrev below : ℕ → ℕ → Bool
below n x = nat_lt x n

one-below : (n x : ℕ)
    → (if nat_lt x (n + 1) then 1 else 0)
    ≡ (if nat_lt x n then 1 else 0) + (if x == n then 1 else 0)
one-below n x = go (nat_lt x n) refl (x == n) refl
  where
    go : (b : Bool) → nat_lt x n ≡ b → (e : Bool) → (x == n) ≡ e
        → (if nat_lt x (n + 1) then 1 else 0) ≡ (if b then 1 else 0) + (if e then 1 else 0)
    go true less true same =
        let h = ltb-true x n less in
        let e = eqb-true x n same in
        absurd (omega (arith, h, e))
    go true less false other =
        let h = ltb-true x n less in
        ap {B = ℕ} (λ b. if b then 1 else 0) (lt-ltb x (n + 1) (omega (arith, h)))
    go false more true same =
        let e = eqb-true x n same in
        ap {B = ℕ} (λ b. if b then 1 else 0) (lt-ltb x (n + 1) (omega (arith, e)))
    go false more false other =
        let h = ltb-false x n more in
        let e = eqb-false x n other in
        ap {B = ℕ} (λ b. if b then 1 else 0) (le-ltb x (n + 1) (omega (arith, h, e)))

-- one number more is below
pub count_below-suc : (n : ℕ) (xs : List ℕ)
    → count_by (below (n + 1)) xs ≡ count_by (below n) xs + count_by (is_number n) xs
count_below-suc n [] = refl
count_below-suc n (x ∷ xs) =
    let more = count_below-suc n xs in
    let one = one-below n x in
    let a = count_by-cons (below (n + 1)) x xs in
    let b = count_by-cons (below n) x xs in
    let c = count_by-cons (is_number n) x xs in
    omega (arith, more, one, a, b, c)

one-most : (n x : ℕ) → nat_le x n ≡ nat_lt x (n + 1)
one-most n x = go (nat_le x n) refl
  where
    go : (b : Bool) → nat_le x n ≡ b → b ≡ nat_lt x (n + 1)
    go true less = let h = leb-true x n less in sym (lt-ltb x (n + 1) (omega (arith, h)))
    go false more = let h = leb-false x n more in sym (le-ltb x (n + 1) (omega (arith, h)))

-- as many are at most a number as are below the next
pub count_most : (n : ℕ) (xs : List ℕ)
    → count_by (λ x. nat_le x n) xs ≡ count_by (below (n + 1)) xs
count_most n [] = refl
count_most n (x ∷ xs) =
    let more = count_most n xs in
    let one = ap {B = ℕ} (λ b. if b then 1 else 0) (one-most n x) in
    let a = count_by-cons (λ y. nat_le y n) x xs in
    let b = count_by-cons (below (n + 1)) x xs in
    omega (arith, more, one, a, b)

-- none is below 0
pub count_below-zero : (xs : List ℕ) → count_by (below 0) xs ≡ 0
count_below-zero [] = refl
count_below-zero (x ∷ xs) =
    let more = count_below-zero xs in
    let one = ap {B = ℕ} (λ b. if b then 1 else 0) (le-ltb x 0 (omega arith)) in
    let a = count_by-cons (below 0) x xs in
    omega (arith, more, one, a)

-- all are below their limit
pub count_below-all : (n : ℕ) (xs : List ℕ) → All (λ x. x < n) xs
    → count_by (below n) xs ≡ length xs
count_below-all n [] all = refl
count_below-all n (x ∷ xs) all =
    let more = count_below-all n xs (All-tail (λ y. y < n) x xs all) in
    let one = ap {B = ℕ} (λ b. if b then 1 else 0) (lt-ltb x n (All-head (λ y. y < n) x xs all)) in
    let a = count_by-cons (below n) x xs in
    omega (arith, more, one, a)
