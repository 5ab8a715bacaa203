-- Lists on whose elements a function has the same values.
use Rattle.std.proofs.Common.{◌≡◌, ◌∙◌, ℕ, zero, suc, ◌<◌, List, [], ◌∷◌, map, set, get_or, length, refl, ap, arith}

-- an element is written again with the same value
pub map-set_same : {A B : Type 0} (f : A → B) (xs : List A) (i : ℕ) (x d : A)
    → f x ≡ f (get_or xs i d) → map f (set xs i x) ≡ map f xs
map-set_same f [] i x d h = refl
map-set_same {B = B} f (y ∷ ys) zero x d h = ap (λ (z : B). z ∷ map f ys) h
map-set_same {B = B} f (y ∷ ys) (suc i) x d h =
    ap (λ (l : List B). f y ∷ l) (map-set_same f ys i x d h)

-- each element is its own value
pub map-fixed : {A : Type 0} (f : A → A) (xs : List A)
    → ((d : A) (k : ℕ) → k < length xs → f (get_or xs k d) ≡ get_or xs k d) → map f xs ≡ xs
map-fixed f [] h = refl
map-fixed {A = A} f (y ∷ ys) h =
    ap (λ (z : A). z ∷ map f ys) (h y zero (omega arith))
    ∙ ap (λ (l : List A). y ∷ l)
    (map-fixed f ys (λ d k below. h d (suc k) (omega (arith, below))))
