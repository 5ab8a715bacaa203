-- Laws of counts by index.
use Rattle.coverage.proofs.Common.{◌≡◌, ℕ, ◌+◌, ◌<◌, ◌≤◌, ◌%◌, ◌^◌, if◌then◌else◌, cond, Bool, true, false, List, [], ◌∷◌, ◌++◌, length, slice_index, get_or, replicate, count_by, sym, ap, ◌∙◌, subst, refl, arith, mod-eq_of_lt, get_or-replicate, length-replicate, sum_by_push, count_by-le-length, CountsExactly, CountsModulo}

-- one more element is counted where it passes
pub count_by-push : {A : Type 0} (p : A → Bool) (xs : List A) (x : A)
    → count_by p (xs ++ x ∷ []) ≡ count_by p xs + (if p x then 1 else 0)
count_by-push p xs x = sum_by_push (λ y. cond (p y) 1 0) xs x

one_more : (n : ℕ) (b : Bool)
    → (if b then (n % 2 ^ 64 + 1) % 2 ^ 64 else n % 2 ^ 64)
    ≡ (n + (if b then 1 else 0)) % 2 ^ 64
one_more n true = omega arith
one_more n false = omega arith

pub CountsModulo-push : {A : Type 0} (test : ℕ → A → Bool) (xs : List A) (x : A)
    (old new : List ℕ) → length new ≡ length old → CountsModulo test xs old
    → ((k : ℕ) → k < length old → slice_index new k
    ≡ (if test k x then (slice_index old k + 1) % 2 ^ 64 else slice_index old k))
    → CountsModulo test (xs ++ x ∷ []) new
CountsModulo-push test xs x old new len so more = λ k below.
    let here : k < length old = omega (arith, below, len) in
    more k here
    ∙ ap (λ n. if test k x then (n + 1) % 2 ^ 64 else n) (so k here)
    ∙ one_more (count_by (test k) xs) (test k x)
    ∙ ap (λ n. n % 2 ^ 64) (sym (count_by-push (test k) xs x))

-- nothing is counted in zeros
pub CountsModulo-none : {A : Type 0} (test : ℕ → A → Bool) (n : ℕ)
    → CountsModulo test [] (replicate n 0)
CountsModulo-none test n = λ k below.
    let here : k < n = subst (λ m. k < m) (length-replicate n 0) below in
    get_or-replicate n k 0 0 here

-- where there are few elements the counts are exact
pub Counts-few : {A : Type 0} (test : ℕ → A → Bool) (xs : List A) (counts : List ℕ)
    → length xs < 2 ^ 64 → CountsModulo test xs counts → CountsExactly test xs counts
Counts-few test xs counts few so = λ k below.
    let most = count_by-le-length (test k) xs in
    let less : count_by (test k) xs < 2 ^ 64 = omega (arith, most, few) in
    so k below ∙ mod-eq_of_lt less
