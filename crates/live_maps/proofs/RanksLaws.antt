-- Laws of places in lists, one list after another.
use Rattle.live_maps.proofs.Common.{◌≡◌, ◌≢◌, ℕ, zero, suc, ◌+◌, ◌-◌, ◌<◌, ◌≤◌, List, [], ◌∷◌, ◌++◌, take, drop, length, Some, refl, sym, ap, ◌∙◌, ◌⊎◌, inl, inr, arith, append_assoc, slice_get, slice_set, slice_index_or, concat, insert, remove, append-nil, get_or-append_right, length-append, take-set-le, take_all, take_more, take_more_set, get_or-append, insert-append_left, insert-append_right, count_to}
use Rattle.std.proofs.lemmas.List.Folds.{concat-append}

abbrev pub Lists : Type 0
Lists = List (List ℕ)

abbrev pub list_in : Lists → ℕ → List ℕ
list_in css c = slice_index_or css c []

-- ---- how many places are before a list

pub count-suc : (css : Lists) (c : ℕ) → c < length css
    → count_to css (suc c) ≡ count_to css c + length (list_in css c)
count-suc [] c l = absurd (omega arith)
count-suc (cs ∷ css) zero l = let e = ap length (append-nil cs) in omega arith
count-suc (cs ∷ css) (suc c) l =
    let r = count-suc css c (omega arith) in
    let a = length-append cs (concat (take (suc c) css)) in
    let b = length-append cs (concat (take c css)) in
    omega arith

pub count-all : (css : Lists) → count_to css (length css) ≡ length (concat css)
count-all css = ap (λ (xs : Lists). length (concat xs)) (take_all (length css) css (omega arith))

pub count-most : (css : Lists) (c : ℕ) → count_to css c ≤ length (concat css)
count-most css zero = omega arith
count-most [] (suc c) = omega arith
count-most (cs ∷ css) (suc c) =
    let r = count-most css c in
    let a = length-append cs (concat (take c css)) in
    let b = length-append cs (concat css) in
    omega arith

-- a list replaced changes nothing before it
pub count-set : (css : Lists) (c k : ℕ) (ns : List ℕ) → k ≤ c
    → count_to (slice_set css c ns) k ≡ count_to css k
count-set css c k ns l = ap (λ (xs : Lists). length (concat xs)) (take-set-le k css c ns l)

-- ---- a place of a list

pub at_index : (css : Lists) (c i : ℕ) → c < length css → i < length (list_in css c)
    → slice_index_or (concat css) (count_to css c + i) 0 ≡ slice_index_or (list_in css c) i 0
at_index [] c i l m = absurd (omega arith)
at_index (cs ∷ css) zero i l m =
    let e : 0 + i ≡ i = omega arith in
    ap (λ (k : ℕ). slice_index_or (cs ++ concat css) k 0) e ∙ get_or-append cs (concat css) 0 i m
at_index (cs ∷ css) (suc c) i l m =
    let a = length-append cs (concat (take c css)) in
    let k : ℕ = length (cs ++ concat (take c css)) + i in
    let off : k - length cs ≡ count_to css c + i = omega arith in
    get_or-append_right cs (concat css) (length cs) k 0 refl (omega arith)
    ∙ ap (λ (j : ℕ). slice_index_or (concat css) j 0) off ∙ at_index css c i (omega arith) m

got-append : (xs ys : List ℕ) (i x : ℕ) → slice_get (xs ++ ys) i ≡ Some x
    → (slice_get xs i ≡ Some x) ⊎ ((j : ℕ) × (slice_get ys j ≡ Some x))
got-append [] ys i x e = inr (i, e)
got-append (z ∷ xs) ys zero x e = inl e
got-append (z ∷ xs) ys (suc i) x e = got-append xs ys i x e

-- what is in no list is nowhere
pub nowhere : (css : Lists) (x : ℕ)
    → ((c i : ℕ) → c < length css → slice_get (list_in css c) i ≢ Some x)
    → (rank : ℕ) → slice_get (concat css) rank ≢ Some x
nowhere [] x none rank e = absurd cc
nowhere (cs ∷ css) x none rank e =
    elim (got-append cs (concat css) rank x e) [
      | inl f ↦ none 0 rank (omega arith) f
      | inr f ↦ nowhere css x (λ c i l. none (suc c) i (omega arith)) f.0 f.1
    ]

-- ---- a place put in or taken out

pub put_at : (css : Lists) (c i x : ℕ) → c < length css → i ≤ length (list_in css c)
    → concat (slice_set css c (insert (list_in css c) i x))
    ≡ insert (concat css) (count_to css c + i) x
put_at [] c i x l m = absurd (omega arith)
put_at (cs ∷ css) zero i x l m =
    let e : i ≡ 0 + i = omega arith in
    sym (insert-append_left cs (concat css) i x m)
    ∙ ap (λ (k : ℕ). insert (cs ++ concat css) k x) e
put_at (cs ∷ css) (suc c) i x l m =
    let a = length-append cs (concat (take c css)) in
    let k : ℕ = length (cs ++ concat (take c css)) + i in
    let off : count_to css c + i ≡ k - length cs = omega arith in
    ap (λ (xs : List ℕ). cs ++ xs) (put_at css c i x (omega arith) m)
    ∙ ap (λ (j : ℕ). cs ++ insert (concat css) j x) off
    ∙ sym (insert-append_right cs (concat css) (length cs) k x refl (omega arith))

remove-append_left : (xs ys : List ℕ) (i : ℕ) → i < length xs
    → remove (xs ++ ys) i ≡ remove xs i ++ ys
remove-append_left [] ys i l = absurd (omega arith)
remove-append_left (x ∷ xs) ys zero l = refl
remove-append_left (x ∷ xs) ys (suc i) l =
    ap (λ (zs : List ℕ). x ∷ zs) (remove-append_left xs ys i (omega arith))

remove-append_right : (xs ys : List ℕ) (i : ℕ)
    → remove (xs ++ ys) (length xs + i) ≡ xs ++ remove ys i
remove-append_right [] ys i = let e : 0 + i ≡ i = omega arith in ap (remove ys) e
remove-append_right (x ∷ xs) ys i =
    let e : suc (length xs) + i ≡ suc (length xs + i) = omega arith in
    ap (remove (x ∷ xs ++ ys)) e
    ∙ ap (λ (zs : List ℕ). x ∷ zs) (remove-append_right xs ys i)

pub taken_at : (css : Lists) (c i : ℕ) → c < length css → i < length (list_in css c)
    → concat (slice_set css c (remove (list_in css c) i))
    ≡ remove (concat css) (count_to css c + i)
taken_at [] c i l m = absurd (omega arith)
taken_at (cs ∷ css) zero i l m =
    let e : i ≡ 0 + i = omega arith in
    sym (remove-append_left cs (concat css) i m) ∙ ap (remove (cs ++ concat css)) e
taken_at (cs ∷ css) (suc c) i l m =
    let a = length-append cs (concat (take c css)) in
    let e : length cs + (count_to css c + i) ≡ length (cs ++ concat (take c css)) + i =
    omega arith in
    ap (λ (xs : List ℕ). cs ++ xs) (taken_at css c i (omega arith) m)
    ∙ sym (remove-append_right cs (concat css) (count_to css c + i))
    ∙ ap (remove (cs ++ concat css)) e

-- ---- lists in parts

-- the second part of a list behind the first one
pub halved : (css : Lists) (c : ℕ) (xs ys : List ℕ) → c < length css → xs ++ ys ≡ list_in css c
    → concat (insert (slice_set css c xs) (suc c) ys) ≡ concat css
halved [] c xs ys l e = absurd (omega arith)
halved (cs ∷ css) zero xs ys l e =
    sym (append_assoc xs ys (concat css)) ∙ ap (λ (zs : List ℕ). zs ++ concat css) e
halved (cs ∷ css) (suc c) xs ys l e =
    ap (λ (zs : List ℕ). cs ++ zs) (halved css c xs ys (omega arith) e)

-- a last list without a place
pub without_last : (css : Lists) (cs : List ℕ) → cs ≡ []
    → concat (css ++ cs ∷ []) ≡ concat css
without_last css cs e =
    concat-append css (cs ∷ []) ∙ ap (λ (xs : List ℕ). concat css ++ (xs ++ [])) e
    ∙ append-nil (concat css)

-- one list more
pub one_more : (css : Lists) (c : ℕ) → c < length css
    → concat (take (c + 1) css) ≡ concat (take c css) ++ list_in css c
one_more css c l =
    ap concat (take_more css c [] l) ∙ concat-append (take c css) (list_in css c ∷ [])
    ∙ ap (λ (xs : List ℕ). concat (take c css) ++ xs) (append-nil (list_in css c))

-- one list more, which is replaced
pub one_more_set : (css : Lists) (c : ℕ) (ns : List ℕ) → c < length css
    → concat (take (c + 1) (slice_set css c ns)) ≡ concat (take c css) ++ ns
one_more_set css c ns l =
    ap concat (take_more_set css c ns l) ∙ concat-append (take c css) (ns ∷ [])
    ∙ ap (λ (xs : List ℕ). concat (take c css) ++ xs) (append-nil ns)

-- some more elements of a list
pub take_part : (n m : ℕ) (xs : List ℕ) → take (n + m) xs ≡ take n xs ++ take m (drop n xs)
take_part zero m xs = let e : 0 + m ≡ m = omega arith in ap (λ (k : ℕ). take k xs) e
take_part (suc n) m [] = take_all (suc n + m) [] (omega arith) ∙ sym (take_all m [] (omega arith))
take_part (suc n) m (x ∷ xs) =
    let e : suc n + m ≡ suc (n + m) = omega arith in
    ap (λ (k : ℕ). take k (x ∷ xs)) e ∙ ap (λ (ys : List ℕ). x ∷ ys) (take_part n m xs)
