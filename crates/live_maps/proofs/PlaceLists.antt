-- Lists of places: parts of them, and one put in or taken out.
use Rattle.live_maps.proofs.Common.{◌≢◌, ◌==◌, not, slice_get, ◌≡◌, ℕ, zero, suc, ◌<◌, ◌≤◌, List, [], ◌∷◌, length, Option, Some, None, Bool, true, false, cond, refl, sym, ap, subst, ◌∙◌, arith, option_map, eqb, eqb-true, eqb-false, nat_tests, slice_get-get_or, slice_get_within, get_or_from_slice_get, AreDistinct, place_in}
use Rattle.std.specs.List.{filter, insert, position, remove as remove_at}
use Rattle.live_maps.proofs.KeyValueLaws.{position-cons}

abbrev pub without : ℕ → List ℕ → List ℕ
without place places = filter (λ p. not (p == place)) places

-- a place is nowhere in a list
abbrev pub IsOut : ℕ → List ℕ → Type 0
IsOut p xs = (i : ℕ) → slice_get xs i ≢ Some p

pub equal_to : (a b : ℕ) → a ≡ b → (a == b) ≡ true
equal_to a b e = grind (arith, nat_tests)

pub not_equal : (a b : ℕ) → a ≢ b → (a == b) ≡ false
not_equal a b d = grind (arith, nat_tests)

pub either_equal : (a b : ℕ) (A : Type 0) → (a ≡ b → A) → (a ≢ b → A) → A
either_equal a b A same other = by (eqb a b) refl
  where
    by : (t : Bool) → eqb a b ≡ t → A
    by true e = same (eqb-true a b e)
    by false e = other (eqb-false a b e)

one_same : (x p : ℕ) → Some x ≡ Some p → x ≡ p
one_same x p e = cc

out_rest : (p x : ℕ) (xs : List ℕ) → IsOut p (x ∷ xs) → IsOut p xs
out_rest p x xs h i e = h (suc i) e

out_first : (p x : ℕ) (xs : List ℕ) → IsOut p (x ∷ xs) → x ≢ p
out_first p x xs h e = h 0 (ap Some e)

-- tests that agree on all places of a list
pub filter-agree : (u v : ℕ → Bool) (xs : List ℕ)
    → ((i q : ℕ) → slice_get xs i ≡ Some q → u q ≡ v q) → filter u xs ≡ filter v xs
filter-agree u v [] h = refl
filter-agree u v (x ∷ xs) h =
    let rest = filter-agree u v xs (λ i q e. h (suc i) q e) in
    λ j. cond (h 0 x refl j) (x ∷ rest j) (rest j)

pub filter-all : (u : ℕ → Bool) (xs : List ℕ)
    → ((i q : ℕ) → slice_get xs i ≡ Some q → u q ≡ true) → filter u xs ≡ xs
filter-all u [] h = refl
filter-all u (x ∷ xs) h =
    let rest = filter-all u xs (λ i q e. h (suc i) q e) in
    λ j. cond (h 0 x refl j) (x ∷ rest j) (rest j)

-- what is in a part of a list
pub in-filter : (u : ℕ → Bool) (xs : List ℕ) (j q : ℕ) → slice_get (filter u xs) j ≡ Some q
    → (u q ≡ true) × (k : ℕ) × (slice_get xs k ≡ Some q)
in-filter u [] j q e = absurd cc
in-filter u (x ∷ xs) j q e = by (u x) refl j e (λ i f. in-filter u xs i q f)
  where
    by : (b : Bool) → u x ≡ b → (j : ℕ)
        → slice_get (cond b (x ∷ filter u xs) (filter u xs)) j ≡ Some q
        → ((i : ℕ) → slice_get (filter u xs) i ≡ Some q
        → (u q ≡ true) × (k : ℕ) × (slice_get xs k ≡ Some q))
        → (u q ≡ true) × (k : ℕ) × (slice_get (x ∷ xs) k ≡ Some q)
    by true t zero f rest = let same = one_same x q f in (ap u (sym same) ∙ t, 0, f)
    by true t (suc i) f rest = let r = rest i f in (r.0, suc r.1, r.2)
    by false t i f rest = let r = rest i f in (r.0, suc r.1, r.2)

-- a relation of each place with those behind it
pub pairs-filter : (u : ℕ → Bool) (R : ℕ → ℕ → Type 0) (xs : List ℕ)
    → ((i j p q : ℕ) → i < j → slice_get xs i ≡ Some p → slice_get xs j ≡ Some q → R p q)
    → (i j p q : ℕ) → i < j → slice_get (filter u xs) i ≡ Some p
    → slice_get (filter u xs) j ≡ Some q → R p q
pairs-filter u R [] h i j p q l e f = absurd cc
pairs-filter u R (x ∷ xs) h i j p q l e f =
    by (u x) i j l e f
    (λ a b m d g. pairs-filter u R xs (λ a b c d m. h (suc a) (suc b) c d (omega arith)) a b p q m d g)
  where
    by : (b : Bool) (i j : ℕ) → i < j
        → slice_get (cond b (x ∷ filter u xs) (filter u xs)) i ≡ Some p
        → slice_get (cond b (x ∷ filter u xs) (filter u xs)) j ≡ Some q
        → ((i j : ℕ) → i < j → slice_get (filter u xs) i ≡ Some p
        → slice_get (filter u xs) j ≡ Some q → R p q)
        → R p q
    by true i zero l e f rest = absurd (omega arith)
    by true zero (suc j) l e f rest =
        let r = in-filter u xs j q f in h 0 (suc r.1) p q (omega arith) e r.2
    by true (suc i) (suc j) l e f rest = rest i j (omega arith) e f
    by false i j l e f rest = rest i j l e f

pub length-filter_less : (u : ℕ → Bool) (xs : List ℕ) → length (filter u xs) ≤ length xs
length-filter_less u [] = omega arith
length-filter_less u (x ∷ xs) =
    let rest = length-filter_less u xs in
    by (u x) rest
  where
    by : (b : Bool) → length (filter u xs) ≤ length xs
        → length (cond b (x ∷ filter u xs) (filter u xs)) ≤ suc (length xs)
    by true l = omega arith
    by false l = omega arith

-- a part that a place is not in
pub filter-without : (u : ℕ → Bool) (p : ℕ) (xs : List ℕ) → u p ≡ false
    → filter u (without p xs) ≡ filter u xs
filter-without u p [] none = refl
filter-without u p (x ∷ xs) none =
    let rest = filter-without u p xs none in
    either_equal x p (filter u (without p (x ∷ xs)) ≡ filter u (x ∷ xs))
    (λ same. ap (λ (b : Bool). filter u (cond (not b) (x ∷ without p xs) (without p xs)))
    (equal_to x p same) ∙ rest
    ∙ sym (ap (λ (b : Bool). cond b (x ∷ filter u xs) (filter u xs)) (ap u same ∙ none)))
    (λ other. ap (λ (b : Bool). filter u (cond (not b) (x ∷ without p xs) (without p xs)))
    (not_equal x p other) ∙ ap (λ (ys : List ℕ). cond (u x) (x ∷ ys) ys) rest)

-- both tests, in either order
pub filter-swap : (u : ℕ → Bool) (p : ℕ) (xs : List ℕ)
    → filter u (without p xs) ≡ without p (filter u xs)
filter-swap u p [] = refl
filter-swap u p (x ∷ xs) = by (not (x == p)) (u x) refl refl (filter-swap u p xs)
  where
    by : (a b : Bool) → not (x == p) ≡ a → u x ≡ b
        → filter u (without p xs) ≡ without p (filter u xs)
        → filter u (cond a (x ∷ without p xs) (without p xs))
        ≡ without p (cond b (x ∷ filter u xs) (filter u xs))
    by true true e f r =
        ap (λ (c : Bool). cond c (x ∷ filter u (without p xs)) (filter u (without p xs))) f
        ∙ ap (λ (ys : List ℕ). x ∷ ys) r
        ∙ sym (ap (λ (c : Bool). cond c (x ∷ without p (filter u xs)) (without p (filter u xs))) e)
    by true false e f r =
        ap (λ (c : Bool). cond c (x ∷ filter u (without p xs)) (filter u (without p xs))) f ∙ r
    by false true e f r =
        r ∙ sym (ap (λ (c : Bool). cond c (x ∷ without p (filter u xs)) (without p (filter u xs))) e)
    by false false e f r = r

-- a list without a place that is not in it
pub none_without : (xs : List ℕ) (p : ℕ) → IsOut p xs → without p xs ≡ xs
none_without [] p out = refl
none_without (x ∷ xs) p out =
    ap (λ (b : Bool). cond (not b) (x ∷ without p xs) (without p xs))
    (not_equal x p (out_first p x xs out))
    ∙ ap (λ (ys : List ℕ). x ∷ ys) (none_without xs p (out_rest p x xs out))

pub out_without : (p : ℕ) (xs : List ℕ) → IsOut p (without p xs)
out_without p xs i e =
    let r = (in-filter (λ q. not (q == p)) xs i p e).0 in
    let t = equal_to p p refl in
    let f : not (p == p) ≡ false = ap not t in
    absurd cc

pub out_still : (p q : ℕ) (xs : List ℕ) → IsOut q xs → IsOut q (without p xs)
out_still p q xs out i e = let r = in-filter (λ x. not (x == p)) xs i q e in out r.1 r.2

-- ---- lists in which no place is twice

distinct_rest : (x : ℕ) (xs : List ℕ) → AreDistinct (x ∷ xs) → AreDistinct xs
distinct_rest x xs d i j l m e =
    let z = d (suc i) (suc j) (omega arith) (omega arith) e in omega arith

distinct_first : (x p i : ℕ) (xs : List ℕ) → AreDistinct (x ∷ xs) → slice_get xs i ≡ Some p → x ≢ p
distinct_first x p i xs d e same =
    let within = slice_get_within xs i p e in
    let z = d 0 (suc i) (omega arith) (omega arith)
    (same ∙ sym (get_or_from_slice_get xs i p 0 e)) in
    absurd (omega arith)

pub distinct-once : (xs : List ℕ) (i j p : ℕ) → AreDistinct xs → slice_get xs i ≡ Some p
    → slice_get xs j ≡ Some p → i ≡ j
distinct-once xs i j p d e f =
    d i j (slice_get_within xs i p e) (slice_get_within xs j p f)
    (get_or_from_slice_get xs i p 0 e ∙ sym (get_or_from_slice_get xs j p 0 f))

-- a list without the place at an index
pub removed_at : (xs : List ℕ) (i p : ℕ) → AreDistinct xs → slice_get xs i ≡ Some p
    → remove_at xs i ≡ without p xs
removed_at [] i p d at = absurd cc
removed_at (x ∷ xs) zero p d at =
    let same : x ≡ p = one_same x p at in
    let out : IsOut p xs = λ j e. distinct_first x p j xs d e same in
    sym (ap (λ (b : Bool). cond (not b) (x ∷ without p xs) (without p xs))
    (equal_to x p same) ∙ none_without xs p out)
removed_at (x ∷ xs) (suc i) p d at =
    ap (λ (ys : List ℕ). x ∷ ys) (removed_at xs i p (distinct_rest x xs d) at)
    ∙ sym (ap (λ (b : Bool). cond (not b) (x ∷ without p xs) (without p xs))
    (not_equal x p (distinct_first x p i xs d at)))

either_less : (i j : ℕ) → i ≢ j → (A : Type 0) → (i < j → A) → (j < i → A) → A
either_less zero zero d A a b = absurd (d refl)
either_less zero (suc j) d A a b = a (omega arith)
either_less (suc i) zero d A a b = b (omega arith)
either_less (suc i) (suc j) d A a b =
    either_less i j (λ e. d (ap suc e)) A (λ l. a (omega arith)) (λ l. b (omega arith))

distinct-of : (xs : List ℕ)
    → ((i j p : ℕ) → i < j → slice_get xs i ≡ Some p → slice_get xs j ≡ Some p → ⊥) → AreDistinct xs
distinct-of xs h i j l m e =
    let a = slice_get-get_or xs i 0 l in
    let b = slice_get-get_or xs j 0 m ∙ ap Some (sym e) in
    by (eqb i j) refl a b
  where
    by : (t : Bool) → eqb i j ≡ t → slice_get xs i ≡ Some (place_in xs i)
        → slice_get xs j ≡ Some (place_in xs i) → i ≡ j
    by true t a b = eqb-true i j t
    by false t a b =
        let d = eqb-false i j t in
        either_less i j d (i ≡ j) (λ less. absurd (h i j (place_in xs i) less a b))
        (λ more. absurd (h j i (place_in xs i) more b a))

pub distinct-filter : (u : ℕ → Bool) (xs : List ℕ) → AreDistinct xs → AreDistinct (filter u xs)
distinct-filter u xs d =
    distinct-of (filter u xs) (λ i j p l e f.
    pairs-filter u (λ a b. a ≢ b) xs
    (λ a b c g m x y same. let z = distinct-once xs a b c d x (y ∙ ap Some (sym same)) in
    absurd (omega arith)) i j p p l e f refl)

-- ---- where a place is

pub position-at : (xs : List ℕ) (i p : ℕ) → AreDistinct xs → slice_get xs i ≡ Some p
    → position (λ q. q == p) xs ≡ Some i
position-at [] i p d e = absurd cc
position-at (x ∷ xs) zero p d e =
    position-cons (λ q. q == p) x xs
    ∙ ap (λ (b : Bool). cond b (Some 0) (option_map suc (position (λ q. q == p) xs)))
    (equal_to x p (one_same x p e))
position-at (x ∷ xs) (suc i) p d e =
    position-cons (λ q. q == p) x xs
    ∙ ap (λ (b : Bool). cond b (Some 0) (option_map suc (position (λ q. q == p) xs)))
    (not_equal x p (distinct_first x p i xs d e))
    ∙ ap (option_map suc) (position-at xs i p (distinct_rest x xs d) e)

pub position-out : (xs : List ℕ) (p : ℕ) → IsOut p xs → position (λ q. q == p) xs ≡ None
position-out [] p out = refl
position-out (x ∷ xs) p out =
    position-cons (λ q. q == p) x xs
    ∙ ap (λ (b : Bool). cond b (Some 0) (option_map suc (position (λ q. q == p) xs)))
    (not_equal x p (out_first p x xs out))
    ∙ ap (option_map suc) (position-out xs p (out_rest p x xs out))

pub position-found : (xs : List ℕ) (i p : ℕ) → position (λ q. q == p) xs ≡ Some i
    → slice_get xs i ≡ Some p
position-found [] i p e = absurd cc
position-found (x ∷ xs) i p e =
    by (x == p) refl (position (λ q. q == p) xs) i (sym (position-cons (λ q. q == p) x xs) ∙ e)
    (λ j f. position-found xs j p f)
  where
    by : (b : Bool) → (x == p) ≡ b → (o : Option ℕ) (i : ℕ)
        → cond b (Some 0) (option_map suc o) ≡ Some i
        → ((j : ℕ) → o ≡ Some j → slice_get xs j ≡ Some p) → slice_get (x ∷ xs) i ≡ Some p
    by true t o zero f rest = ap Some (eqb-true x p t)
    by true t o (suc i) f rest = absurd cc
    by false t None i f rest = absurd cc
    by false t (Some j) zero f rest = absurd cc
    by false t (Some j) (suc i) f rest = let same : j ≡ i = cc in rest i (ap Some same)

-- ---- a place put in

-- a place put into a part of a list is in the part with it, where those before it have a property
-- and those behind it have it not
pub inserted : (u v : ℕ → Bool) (B : ℕ → Type 0) (p : ℕ) (xs : List ℕ) (t r : ℕ)
    → slice_get xs t ≡ Some p → AreDistinct xs
    → ((i q : ℕ) → i < t → slice_get xs i ≡ Some q → B q)
    → ((i q : ℕ) → t < i → slice_get xs i ≡ Some q → B q → ⊥)
    → u p ≡ false → v p ≡ true → ((q : ℕ) → q ≢ p → u q ≡ v q) → r ≤ length (filter u xs)
    → ((k q : ℕ) → k < r → slice_get (filter u xs) k ≡ Some q → B q)
    → ((k q : ℕ) → r ≤ k → slice_get (filter u xs) k ≡ Some q → B q → ⊥)
    → insert (filter u xs) r p ≡ filter v xs
inserted u v B p [] t r at d before behind absent present agree few low high = absurd cc
inserted u v B p (x ∷ xs) zero r at d before behind absent present agree few low high =
    let same : x ≡ p = one_same x p at in
    let none : u x ≡ false = ap u same ∙ absent in
    let one : v x ≡ true = ap v same ∙ present in
    let whole : filter u (x ∷ xs) ≡ filter u xs =
    ap (λ (b : Bool). cond b (x ∷ filter u xs) (filter u xs)) none in
    let also : filter v (x ∷ xs) ≡ x ∷ filter v xs =
    ap (λ (b : Bool). cond b (x ∷ filter v xs) (filter v xs)) one in
    let rest : filter u xs ≡ filter v xs =
    filter-agree u v xs (λ i q e. agree q (λ f. distinct_first x p i xs d (e ∙ ap Some f) same)) in
    let first : r ≡ 0 =
    at_front r (filter u xs) (subst (λ (ys : List ℕ). r ≤ length ys) whole few)
    (λ q l e.
    let s = in-filter u xs 0 q e in
    behind (suc s.1) q (omega arith) s.2
    (low 0 q l (ap (λ (ys : List ℕ). slice_get ys 0) whole ∙ e))) in
    ap (λ (ys : List ℕ). insert ys r p) whole
    ∙ ap (λ (n : ℕ). insert (filter u xs) n p) first
    ∙ (λ j. (sym same j) ∷ rest j) ∙ sym also
  where
    at_front : (r : ℕ) (ys : List ℕ) → r ≤ length ys
        → ((q : ℕ) → 0 < r → slice_get ys 0 ≡ Some q → ⊥) → r ≡ 0
    at_front zero ys l never = refl
    at_front (suc r) [] l never = absurd (omega arith)
    at_front (suc r) (y ∷ ys) l never = absurd (never y (omega arith) refl)
inserted u v B p (x ∷ xs) (suc t) r at d before behind absent present agree few low high =
    let other : x ≢ p = distinct_first x p t xs d at in
    let here : B x = before 0 x (omega arith) refl in
    by (u x) refl (sym (agree x other)) r few low high
    (λ r few low high. inserted u v B p xs t r at (distinct_rest x xs d)
    (λ i q l e. before (suc i) q (omega arith) e) (λ i q l e. behind (suc i) q (omega arith) e)
    absent present agree few low high) here
  where
    by : (b : Bool) → u x ≡ b → v x ≡ u x → (r : ℕ)
        → r ≤ length (cond b (x ∷ filter u xs) (filter u xs))
        → ((k q : ℕ) → k < r → slice_get (cond b (x ∷ filter u xs) (filter u xs)) k ≡ Some q → B q)
        → ((k q : ℕ) → r ≤ k → slice_get (cond b (x ∷ filter u xs) (filter u xs)) k ≡ Some q
        → B q → ⊥)
        → ((r : ℕ) → r ≤ length (filter u xs)
        → ((k q : ℕ) → k < r → slice_get (filter u xs) k ≡ Some q → B q)
        → ((k q : ℕ) → r ≤ k → slice_get (filter u xs) k ≡ Some q → B q → ⊥)
        → insert (filter u xs) r p ≡ filter v xs)
        → B x
        → insert (cond b (x ∷ filter u xs) (filter u xs)) r p ≡ cond (v x) (x ∷ filter v xs) (filter v xs)
    by true e f zero few low high rest here = absurd (high 0 x (omega arith) refl here)
    by true e f (suc r) few low high rest here =
        ap (λ (ys : List ℕ). x ∷ ys) (rest r (omega arith) (λ k q l g. low (suc k) q (omega arith) g)
        (λ k q l g. high (suc k) q (omega arith) g))
        ∙ sym (ap (λ (c : Bool). cond c (x ∷ filter v xs) (filter v xs)) (f ∙ e))
    by false e f r few low high rest here =
        rest r few low high
        ∙ sym (ap (λ (c : Bool). cond c (x ∷ filter v xs) (filter v xs)) (f ∙ e))
