-- The stored states without a number are those of the path.
use Rattle.explorer.proofs.Common.{◌≡◌, ◌≤◌, ◌+◌, ◌<◌, ◌∷◌, ◌++◌, [], ℕ, zero, suc, Some, None, Option, List, length, map, arith, refl, sym, ap, ◌∙◌, subst, set, slice_get_within, map-append, map-set, length-map, Program, State, StoredState, Visit, New, StoredAt, GetsNumber, Arrives, zeros_from, unfinished, with_first, with_last, indexes_of, OnPath}

-- ---- zeros

zeros_from-push : (k : ℕ) (ns : List ℕ) (j : ℕ) → j ≡ k + length ns
    → zeros_from k (ns ++ 0 ∷ []) ≡ zeros_from k ns ++ j ∷ []
zeros_from-push k [] j at = let same : k ≡ j = omega (arith, at) in ap (λ n. n ∷ []) same
zeros_from-push k (zero ∷ ns) j at =
    ap (λ xs. k ∷ xs) (zeros_from-push (suc k) ns j (omega (arith, at)))
zeros_from-push k (suc n ∷ ns) j at = zeros_from-push (suc k) ns j (omega (arith, at))

-- none is before the index at which the list begins
zeros_from-last : (k : ℕ) (ns xs : List ℕ) (j : ℕ) → zeros_from k ns ≡ xs ++ j ∷ [] → k ≤ j
zeros_from-last k [] [] j e = absurd (cc)
zeros_from-last k [] (x ∷ xs) j e = absurd (cc)
zeros_from-last k (zero ∷ ns) [] j e = let same : k ≡ j = cc in omega (arith, same)
zeros_from-last k (zero ∷ ns) (x ∷ xs) j e =
    let rest : zeros_from (suc k) ns ≡ xs ++ j ∷ [] = cc in
    let above = zeros_from-last (suc k) ns xs j rest in omega (arith, above)
zeros_from-last k (suc n ∷ ns) xs j e =
    let above = zeros_from-last (suc k) ns xs j e in omega (arith, above)

-- the last zero gets a number
zeros_from-set : (k : ℕ) (ns xs : List ℕ) (i j n : ℕ) → j ≡ k + i → i < length ns
    → zeros_from k ns ≡ xs ++ j ∷ [] → zeros_from k (set ns i (suc n)) ≡ xs
zeros_from-set k [] xs i j n at within e = absurd (omega arith)
zeros_from-set k (zero ∷ ns) [] zero j n at within e = cc
zeros_from-set k (zero ∷ ns) (x ∷ xs) zero j n at within e =
    let rest : zeros_from (suc k) ns ≡ xs ++ j ∷ [] = cc in
    let above = zeros_from-last (suc k) ns xs j rest in absurd (omega (arith, at, above))
zeros_from-set k (suc m ∷ ns) xs zero j n at within e =
    let above = zeros_from-last (suc k) ns xs j e in absurd (omega (arith, at, above))
zeros_from-set k (zero ∷ ns) [] (suc i) j n at within e =
    let same : k ≡ j = cc in absurd (omega (arith, at, same))
zeros_from-set k (zero ∷ ns) (x ∷ xs) (suc i) j n at within e =
    let rest : zeros_from (suc k) ns ≡ xs ++ j ∷ [] = cc in
    let same : k ≡ x = cc in
    let left =
    zeros_from-set (suc k) ns xs i j n (omega (arith, at)) (omega (arith, within)) rest in
    ap (λ y. k ∷ y) left ∙ ap (λ y. y ∷ xs) same
zeros_from-set k (suc m ∷ ns) xs (suc i) j n at within e =
    zeros_from-set (suc k) ns xs i j n (omega (arith, at)) (omega (arith, within)) e

-- ---- indexes

first_alone : (o : Option ℕ) → with_first o [] ≡ with_last [] o
first_alone None = refl
first_alone (Some k) = refl

first_then_last : (o q : Option ℕ) (xs : List ℕ)
    → with_first o (with_last xs q) ≡ with_last (with_first o xs) q
first_then_last None q xs = refl
first_then_last (Some k) None xs = refl
first_then_last (Some k) (Some j) xs = refl

indexes_of-push : (path : List Visit) (visit : Visit)
    → indexes_of (path ++ visit ∷ []) ≡ with_last (indexes_of path) visit.stored
indexes_of-push [] visit = first_alone visit.stored
indexes_of-push (first ∷ path) visit =
    ap (with_first first.stored) (indexes_of-push path visit)
    ∙ first_then_last first.stored visit.stored (indexes_of path)

-- ---- the path

pub OnPath-start : (states : List StoredState) (path : List Visit) → states ≡ [] → path ≡ []
    → OnPath states path None
unfolding OnPath
OnPath-start states path none empty =
    subst (λ x. unfinished x ≡ indexes_of path) (sym none)
    (subst (λ x. [] ≡ indexes_of x) (sym empty) refl)

pub OnPath-same : (old new : List StoredState) (path : List Visit) (stored : Option ℕ) → new ≡ old
    → OnPath old path stored → OnPath new path stored
OnPath-same old new path stored e h = subst (λ x. OnPath x path stored) (sym e) h

pub OnPath-push : (states : List StoredState) (path whole : List Visit) (visit : Visit)
    → whole ≡ path ++ visit ∷ [] → OnPath states path visit.stored → OnPath states whole None
unfolding OnPath
OnPath-push states path whole visit e h = h ∙ sym (ap indexes_of e ∙ indexes_of-push path visit)

pub OnPath-pop : (states : List StoredState) (path whole : List Visit) (visit : Visit)
    → whole ≡ path ++ visit ∷ [] → OnPath states whole None → OnPath states path visit.stored
unfolding OnPath
OnPath-pop states path whole visit e h = h ∙ (ap indexes_of e ∙ indexes_of-push path visit)

-- a state that was met is stored after all others
pub OnPath-arrives : (p : Program) (old new : List StoredState) (path : List Visit) (s : State)
    (at : Option ℕ) → Arrives p old s (New at) new → OnPath old path None → OnPath new path at
unfolding OnPath
OnPath-arrives p old new path s None h on = ap unfinished h ∙ on
OnPath-arrives p old new path s (Some k) h on =
    let e : StoredState = record { state = s; number = 0 } in
    let f : StoredState → ℕ = λ x. x.number in
    let count : k ≡ 0 + length (map f old) = omega (arith, h.1, length-map old f) in
    ap unfinished h.2
    ∙ (ap (zeros_from 0) (map-append f old (e ∷ []))
    ∙ (zeros_from-push 0 (map f old) k count ∙ ap (λ xs. xs ++ k ∷ []) on))

-- the last state gets its number
pub OnPath-finish : (old new : List StoredState) (path : List Visit) (stored : Option ℕ) (s : State)
    (n : ℕ)
    → GetsNumber old stored n new → StoredAt old stored s → 0 < n → OnPath old path stored
    → OnPath new path None
unfolding OnPath
OnPath-finish old new path None s n h at some on = ap unfinished h ∙ on
OnPath-finish old new path (Some i) s zero h at some on = absurd (omega arith)
OnPath-finish old new path (Some i) s (suc n) h at some on =
    let e : StoredState = record { state = s; number = suc n } in
    let before : StoredState = record { state = s; number = at.0 } in
    let f : StoredState → ℕ = λ x. x.number in
    let within : i < length (map f old) =
    omega (arith, slice_get_within old i before at.1, length-map old f) in
    ap unfinished (h s at)
    ∙ (ap (zeros_from 0) (map-set f old i e)
    ∙ zeros_from-set 0 (map f old) (indexes_of path) i i n (omega arith) within on)
