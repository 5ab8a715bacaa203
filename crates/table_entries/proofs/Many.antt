-- What a loop reads one after the other: what it has so far, and what is still to be read.
use Rattle.table_entries.proofs.Common.{◌≡◌, ℕ, suc, ◌+◌, ◌-◌, ◌<◌, ◌≤◌, ◌&&◌, Bool, true, false, List, [], ◌∷◌, ◌++◌, length, take, slice_set, Option, Some, None, Ok, Err, sym, ap, ◌∙◌, append_assoc, arith, subst, get_or, take_all, refl, append-nil, take_more, take_more_set, StopReason, Read, kept, then_read, joined, many, one_more}

abbrev pub appended : {X : Type 0} → Option (List X) → Option (List X) → Option (List X)
appended (Some xs) (Some ys) = Some (xs ++ ys)
appended xs ys = None

-- what was read before, and what is still read
abbrev pub with_front : {X : Type 0} → Option (List X) → Read (List X) → Read (List X)
with_front front (Ok x) = Ok (appended front x.0, x.1)
with_front front (Err stop) = Err stop

regroup : {X : Type 0} (front : Option (List X)) (x : Option X) (others : Option (List X))
    → appended front (joined x others) ≡ appended (one_more front x) others
regroup None x others = refl
regroup (Some xs) None others = refl
regroup (Some xs) (Some x) None = refl
regroup (Some xs) (Some x) (Some ys) = ap Some (sym (append_assoc xs (x ∷ []) ys))

regroup_read : {X : Type 0} (front : Option (List X)) (x : Option X) (read : Read (List X))
    → with_front front (then_read read (λ others after. Ok (joined x others, after)))
    ≡ with_front (one_more front x) read
regroup_read front x (Ok r) = ap (λ (xs : Option (List _)). Ok (xs, r.1)) (regroup front x r.0)
regroup_read front x (Err stop) = refl

pub many-goes_on : {X : Type 0} (one : ℕ → List ℕ → Read X) (front : Option (List X)) (n i : ℕ)
    (bytes : List ℕ) (x : Option X) (after : List ℕ)
    (total : Read (List X)) → i < n → one i bytes ≡ Ok (x, after)
    → with_front front (many one (n - i) i bytes) ≡ total
    → with_front (one_more front x) (many one (n - (i + 1)) (i + 1) after) ≡ total
unfolding many
many-goes_on one front n i bytes x after total lt h so_far =
    let k : n - i ≡ suc (n - (i + 1)) = omega arith in
    let first : with_front front (many one (n - i) i bytes)
    ≡ with_front (one_more front x) (many one (n - (i + 1)) (i + 1) after) =
    rw (k, h) (regroup_read front x (many one (n - (i + 1)) (i + 1) after)) in
    sym first ∙ so_far

pub many-stops : {X : Type 0} (one : ℕ → List ℕ → Read X) (front : Option (List X)) (n i : ℕ)
    (bytes : List ℕ) (stop : StopReason) (total : Read (List X))
    → i < n → one i bytes ≡ Err stop → with_front front (many one (n - i) i bytes) ≡ total
    → total ≡ Err stop
unfolding many
many-stops one front n i bytes stop total lt h so_far =
    let k : n - i ≡ suc (n - (i + 1)) = omega arith in
    let first : with_front front (many one (n - i) i bytes) ≡ Err stop = rw (k, h) refl in
    sym so_far ∙ first

nothing_more : {X : Type 0} (front : Option (List X)) → appended front (Some []) ≡ front
nothing_more None = refl
nothing_more (Some xs) = ap Some (append-nil xs)

pub many-done : {X : Type 0} (one : ℕ → List ℕ → Read X) (front : Option (List X)) (n i : ℕ)
    (bytes : List ℕ) (total : Read (List X))
    → n ≤ i → with_front front (many one (n - i) i bytes) ≡ total → total ≡ Ok (front, bytes)
unfolding many
many-done one front n i bytes total le so_far =
    let k : n - i ≡ 0 = omega arith in
    let first : with_front front (many one (n - i) i bytes) ≡ Ok (front, bytes) =
    rw k (ap (λ (xs : Option (List _)). Ok (xs, bytes)) (nothing_more front)) in
    sym so_far ∙ first

nothing_before : {X : Type 0} (xs : Option (List X)) → appended (Some []) xs ≡ xs
nothing_before None = refl
nothing_before (Some xs) = refl

begins : {X : Type 0} (read : Read (List X)) → with_front (Some []) read ≡ read
begins (Ok x) = ap (λ (xs : Option (List _)). Ok (xs, x.1)) (nothing_before x.0)
begins (Err stop) = refl

pub many-begins : {X : Type 0} (one : ℕ → List ℕ → Read X) (n : ℕ) (bytes : List ℕ)
    → with_front (Some []) (many one (n - 0) 0 bytes) ≡ many one n 0 bytes
many-begins one n bytes = let all : n - 0 ≡ n = omega arith in rw all (begins (many one n 0 bytes))

-- one more is spelled
pub spelled-goes_on : {X : Type 0} (one : ℕ → List ℕ → Read X) (xs : List X) (n i : ℕ)
    (bytes : List ℕ) (d : X) (after : List ℕ) (total : Read (List X))
    → i < n → i < length xs → one i bytes ≡ Ok (Some (get_or xs i d), after)
    → with_front (Some (take i xs)) (many one (n - i) i bytes) ≡ total
    → with_front (Some (take (i + 1) xs)) (many one (n - (i + 1)) (i + 1) after) ≡ total
spelled-goes_on one xs n i bytes d after total lt inside h so_far =
    subst (λ (ys : List _). with_front (Some ys) (many one (n - (i + 1)) (i + 1) after) ≡ total)
    (sym (take_more xs i d inside))
    (many-goes_on one (Some (take i xs)) n i bytes (Some (get_or xs i d)) after total lt h so_far)

-- one more is put at its index
pub kept-set : {X : Type 0} (whole fits : Bool) (xs : List X) (i : ℕ) (x : X) → i < length xs
    → kept (whole && fits) (take (i + 1) (slice_set xs i x))
    ≡ one_more (kept whole (take i xs)) (kept fits x)
kept-set true true xs i x lt = ap Some (take_more_set xs i x lt)
kept-set true false xs i x lt = refl
kept-set false fits xs i x lt = refl

pub kept-both : {X : Type 0} (whole fits : Bool) (xs : List X) (x : X)
    → kept (whole && fits) (xs ++ x ∷ []) ≡ one_more (kept whole xs) (kept fits x)
kept-both true true xs x = refl
kept-both true false xs x = refl
kept-both false fits xs x = refl

-- one turn of a loop that puts what it reads at its index
pub kept-goes_on : {X : Type 0} (one : ℕ → List ℕ → Read X) (whole fits : Bool) (xs : List X)
    (n i : ℕ) (bytes : List ℕ) (x : X) (after : List ℕ)
    (total : Read (List X)) → i < n → i < length xs → one i bytes ≡ Ok (kept fits x, after)
    → with_front (kept whole (take i xs)) (many one (n - i) i bytes) ≡ total
    → with_front (kept (whole && fits) (take (i + 1) (slice_set xs i x)))
    (many one (n - (i + 1)) (i + 1) after) ≡ total
kept-goes_on one whole fits xs n i bytes x after total lt inside h so_far =
    rw (kept-set whole fits xs i x inside)
    (many-goes_on one (kept whole (take i xs)) n i bytes (kept fits x) after total lt h so_far)

-- and the end of such a loop
pub kept-done : {X : Type 0} (one : ℕ → List ℕ → Read X) (whole : Bool) (xs : List X) (n i : ℕ)
    (bytes : List ℕ) (total : Read (List X))
    → n ≤ i → length xs ≤ i → with_front (kept whole (take i xs)) (many one (n - i) i bytes) ≡ total
    → total ≡ Ok (kept whole xs, bytes)
kept-done one whole xs n i bytes total le long so_far =
    many-done one (kept whole (take i xs)) n i bytes total le so_far
    ∙ ap (λ (ys : List _). Ok (kept whole ys, bytes)) (take_all i xs long)
