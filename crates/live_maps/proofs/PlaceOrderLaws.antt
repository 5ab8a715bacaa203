-- Laws of the serials of a map's values by what became of them since the last numbering.
use Rattle.live_maps.proofs.Common.{◌≢◌, ◌==◌, slice_get, slice_set, slice_index_or, ◌≡◌, ℕ, zero, suc, ◌+◌, ◌<◌, List, [], ◌∷◌, ◌++◌, length, Option, Some, None, Bool, true, false, cond, refl, sym, ap, subst, ◌∙◌, arith, filter, position, option_map, values, get_or-map, get_or-set_same, get_or-set_other, get_or_append_left, get_or_default, get_or_push, length-map, length-set, map-set, eqb-true, slice_get-get_or, slice_get_within, get_or_from_slice_get, MapState, IsMap, map_at, Since, Same, Gone, Given, New, AllSame, AreFresh, AreGone, HaveCome, IsLater, IsOrderOf, PlaceOrder, after, given_now, is_given, is_same, is_same_at, kept_at, serials_from, serials_in, serials_of, since_in, start_serial, taken_now, with_since, Serials, HasSerials, has_serial, serial_in, serials_at, AreDistinct, NumbersAll, place_in}
use Rattle.live_maps.proofs.KeyValueLaws.{position-cons}
use Rattle.live_maps.proofs.NumberingLaws.{values-distinct, values-within}
use Rattle.live_maps.proofs.PlaceLists.{IsOut, either_equal, filter-agree, filter-swap, filter-without, none_without, not_equal, out_without, position-at, position-found, position-out, without}

-- ---- serials by place

length-serials_from : (start : ℕ → Option ℕ) (p : ℕ) (since : List Since)
    → length (serials_from start p since) ≡ length since
length-serials_from start p [] = refl
length-serials_from start p (s ∷ since) = ap suc (length-serials_from start (p + 1) since)

pub length-serials_of : (k : PlaceOrder) → length (serials_of k) ≡ length k.since
unfolding serials_of
length-serials_of k = length-serials_from (start_serial k.first k.order) 0 k.since

serial_in-from : (start : ℕ → Option ℕ) (p i : ℕ) (since : List Since) → i < length since
    → serial_in (serials_from start p since) i ≡ after (since_in since i) (start (p + i))
serial_in-from start p i [] l = absurd (omega arith)
serial_in-from start p zero (s ∷ since) l =
    let e : p ≡ p + 0 = omega arith in ap (λ (q : ℕ). after s (start q)) e
serial_in-from start p (suc i) (s ∷ since) l =
    let e : p + 1 + i ≡ p + suc i = omega arith in
    serial_in-from start (p + 1) i since (omega arith)
    ∙ ap (λ (q : ℕ). after (since_in since i) (start q)) e

-- the serial of a place
pub serial_in-of : (k : PlaceOrder) (p : ℕ) → p < length k.since
    → serial_in (serials_of k) p ≡ after (since_in k.since p) (start_serial k.first k.order p)
unfolding serials_of
serial_in-of k p l =
    let e : 0 + p ≡ p = omega arith in
    serial_in-from (start_serial k.first k.order) 0 p k.since l
    ∙ ap (λ (q : ℕ). after (since_in k.since p) (start_serial k.first k.order q)) e

-- a place that has a serial is one of the places
pub serial_inside : (k : PlaceOrder) (p n : ℕ) → serial_in (serials_of k) p ≡ Some n → p < length k.since
serial_inside k p n e =
    let l = within (serials_of k) p e in
    let same = length-serials_of k in
    omega arith
  where
    within : (s : Serials) (p : ℕ) → serial_in s p ≡ Some n → p < length s
    within [] p f = absurd cc
    within (o ∷ s) zero f = omega arith
    within (o ∷ s) (suc p) f = let l = within s p f in omega arith

serials_from-set : (start : ℕ → Option ℕ) (p i : ℕ) (since : List Since) (s : Since)
    → serials_from start p (slice_set since i s)
    ≡ slice_set (serials_from start p since) i (after s (start (p + i)))
serials_from-set start p i [] s = refl
serials_from-set start p zero (t ∷ since) s =
    let e : p ≡ p + 0 = omega arith in
    ap (λ (q : ℕ). after s (start q) ∷ serials_from start (p + 1) since) e
serials_from-set start p (suc i) (t ∷ since) s =
    let e : p + 1 + i ≡ p + suc i = omega arith in
    ap (λ (l : Serials). after t (start p) ∷ l) (serials_from-set start (p + 1) i since s)
    ∙ ap (λ (q : ℕ). after t (start p) ∷ slice_set (serials_from start (p + 1) since) i
    (after s (start q))) e

pub serials_of-set : (k : PlaceOrder) (p : ℕ) (s : Since)
    → serials_of (with_since k p s)
    ≡ slice_set (serials_of k) p (after s (start_serial k.first k.order p))
unfolding serials_of
serials_of-set k p s =
    let e : 0 + p ≡ p = omega arith in
    serials_from-set (start_serial k.first k.order) 0 p k.since s
    ∙ ap (λ (q : ℕ). slice_set (serials_from (start_serial k.first k.order) 0 k.since) p
    (after s (start_serial k.first k.order q))) e

after-given : (n : ℕ) (s : Since) (o : Option ℕ) → after (given_now n s) o ≡ Some n
after-given n Same o = refl
after-given n Gone o = refl
after-given n (Given m) o = refl
after-given n (New m) o = refl

pub serials_of-given : (k : PlaceOrder) (p n : ℕ)
    → serials_of (with_since k p (given_now n (since_in k.since p)))
    ≡ slice_set (serials_of k) p (Some n)
serials_of-given k p n =
    serials_of-set k p (given_now n (since_in k.since p))
    ∙ ap (slice_set (serials_of k) p)
    (after-given n (since_in k.since p) (start_serial k.first k.order p))

pub start-out : (first p : ℕ) (order : List ℕ) → IsOut p order → start_serial first order p ≡ None
start-out first p order out = ap (option_map (λ i. first + i)) (position-out order p out)

after-taken : (s : Since) (o : Option ℕ) → ((n : ℕ) → s ≡ New n → o ≡ None)
    → after (taken_now s) o ≡ None
after-taken Same o none = refl
after-taken Gone o none = refl
after-taken (Given m) o none = refl
after-taken (New m) o none = none m refl

pub serials_of-taken : (k : PlaceOrder) (p : ℕ) → AreFresh k.since k.order
    → serials_of (with_since k p (taken_now (since_in k.since p))) ≡ slice_set (serials_of k) p None
serials_of-taken k p fresh =
    serials_of-set k p (taken_now (since_in k.since p))
    ∙ ap (slice_set (serials_of k) p)
    (after-taken (since_in k.since p) (start_serial k.first k.order p)
    (λ n e. start-out k.first p k.order (fresh p n e)))

-- ---- the serials of all maps

pub serials_at-kept : (kept : List PlaceOrder) (m : ℕ)
    → serials_at (serials_in kept) m ≡ serials_of (kept_at kept m)
unfolding serials_of
serials_at-kept kept m =
    get_or-map serials_of kept m (record { order = []; room = 0; first = 0; since = [] })

pub serials_in-set : (kept : List PlaceOrder) (m : ℕ) (k : PlaceOrder)
    → serials_in (slice_set kept m k) ≡ slice_set (serials_in kept) m (serials_of k)
serials_in-set kept m k = map-set serials_of kept m k

pub length-serials_in : (kept : List PlaceOrder) → length (serials_in kept) ≡ length kept
length-serials_in kept = length-map kept serials_of

-- ---- a map's values, numbered

pub start-found : (first p n : ℕ) (order : List ℕ) → start_serial first order p ≡ Some n
    → (i : ℕ) × (slice_get order i ≡ Some p) × (first + i ≡ n)
start-found first p n order e = by (position (λ q. q == p) order) refl e
  where
    by : (o : Option ℕ) → position (λ q. q == p) order ≡ o → option_map (λ i. first + i) o ≡ Some n
        → (i : ℕ) × (slice_get order i ≡ Some p) × (first + i ≡ n)
    by None f g = absurd cc
    by (Some i) f g = (i, position-found order i p f, cc)

pub start-at : (first p i : ℕ) (order : List ℕ) → AreDistinct order → slice_get order i ≡ Some p
    → start_serial first order p ≡ Some (first + i)
start-at first p i order d e = ap (option_map (λ j. first + j)) (position-at order i p d e)

pub NumbersAll-kept : (x : MapState) (k : PlaceOrder) → IsMap x → k.order ≡ values x.places
    → length k.since ≡ x.row.entries → AllSame k.since
    → NumbersAll k.first (values x.places) (serials_of k)
NumbersAll-kept x k is order long same = record {
  there = λ i l.
      let at = slice_get-get_or (values x.places) i 0 l in
      let p : ℕ = place_in (values x.places) i in
      let within = values-within x is i 0 l in
      serial_in-of k p (omega arith)
      ∙ ap (λ (s : Since). after s (start_serial k.first k.order p)) (same p)
      ∙ start-at k.first p i k.order
      (subst (λ (ps : List ℕ). AreDistinct ps) (sym order) (values-distinct x.places is.apart))
      (ap (λ (ps : List ℕ). slice_get ps i) order ∙ at);
  only = λ p n e.
      let inside = serial_inside k p n e in
      let s = start-found k.first p n k.order
      (sym (serial_in-of k p inside
      ∙ ap (λ (s : Since). after s (start_serial k.first k.order p)) (same p)) ∙ e) in
      let there = ap (λ (ps : List ℕ). slice_get ps s.0) (sym order) ∙ s.1 in (
        s.0,
        slice_get_within (values x.places) s.0 p there,
        get_or_from_slice_get (values x.places) s.0 p 0 there,
      );
}

same_given : (n : ℕ) (s : Since) → s ≡ Same → after s None ≡ Some n → ⊥
same_given n s e f = let g = ap (λ (t : Since). after t None) e in absurd cc

same_gone : (s : Since) → s ≡ Same → s ≡ Gone → ⊥
same_gone s e f = let g = ap is_same (sym e ∙ f) in absurd cc

same_new : (n : ℕ) (s : Since) → s ≡ Same → s ≡ New n → ⊥
same_new n s e f = let g = ap is_same (sym e ∙ f) in absurd cc

pub IsOrderOf-numbered : (x : MapState) (k : PlaceOrder) → IsMap x → k.order ≡ values x.places
    → length k.since ≡ x.row.entries → k.room ≡ x.row.entries → AllSame k.since → IsOrderOf x k
IsOrderOf-numbered x k is order long room same = record {
  long = long;
  room = room;
  distinct =
      subst (λ (ps : List ℕ). AreDistinct ps) (sym order) (values-distinct x.places is.apart);
  within = λ i p e.
      let there = ap (λ (ps : List ℕ). slice_get ps i) (sym order) ∙ e in
      let at = slice_get_within (values x.places) i p there in
      let within = values-within x is i 0 at in
      let here = get_or_from_slice_get (values x.places) i p 0 there in
      omega arith;
  order = ap (filter (is_same_at k.since)) order;
  fresh = λ p n e i. absurd (same_new n (since_in k.since p) (same p) e);
  gone = λ p e key. absurd (same_gone (since_in k.since p) (same p) e);
  came = λ p n e. absurd (same_given n (since_in k.since p) (same p) e);
}

-- ---- a place of which something became

since_set : (since : List Since) (p q : ℕ) (s : Since) → q ≢ p
    → since_in (slice_set since p s) q ≡ since_in since q
since_set since p q s other = get_or-set_other since p q s Same other

-- the order but for a place is still that of the keys
still_ordered : (since : List Since) (p : ℕ) (s : Since) (order old new : List ℕ)
    → p < length since → filter (is_same_at since) order ≡ filter (is_same_at since) old
    → without p new ≡ without p old → (is_same s ≡ true → IsOut p order × IsOut p new)
    → filter (is_same_at (slice_set since p s)) order ≡ filter (is_same_at (slice_set since p s)) new
still_ordered since p s order old new inside same others out = by (is_same s) refl
  where
    agree : (q : ℕ) → q ≢ p → is_same_at (slice_set since p s) q ≡ is_same_at since q
    agree q other = ap is_same (since_set since p q s other)

    off : (xs : List ℕ) → filter (is_same_at (slice_set since p s)) (without p xs) ≡ filter (is_same_at since) (without p xs)
    off xs =
        filter-agree (is_same_at (slice_set since p s)) (is_same_at since) (without p xs) (λ i q e. agree q (λ f. out_without p xs i (e ∙ ap Some f)))

    both : (xs : List ℕ) → filter (is_same_at since) (without p xs) ≡ without p (filter (is_same_at since) xs)
    both xs = filter-swap (is_same_at since) p xs

    parts : filter (is_same_at (slice_set since p s)) (without p order) ≡ filter (is_same_at (slice_set since p s)) (without p new)
    parts =
        off order ∙ both order ∙ ap (without p) same ∙ sym (both old)
        ∙ ap (filter (is_same_at since)) (sym others) ∙ sym (off new)

    by : (b : Bool) → is_same s ≡ b → filter (is_same_at (slice_set since p s)) order ≡ filter (is_same_at (slice_set since p s)) new
    by true e =
        let o = out e in
        ap (filter (is_same_at (slice_set since p s))) (sym (none_without order p o.0)) ∙ parts
        ∙ ap (filter (is_same_at (slice_set since p s))) (none_without new p o.1)
    by false e =
        let here : is_same_at (slice_set since p s) p ≡ false = ap is_same (get_or-set_same since p s Same inside) ∙ e in
        sym (filter-without (is_same_at (slice_set since p s)) p order here) ∙ parts ∙ filter-without (is_same_at (slice_set since p s)) p new here

-- something became of the value at a place, and the others keep theirs
pub IsOrderOf-touched : (x y : MapState) (k : PlaceOrder) (p : ℕ) (s : Since) → IsOrderOf x k
    → y.row ≡ x.row → p < length k.since → without p (values y.places) ≡ without p (values x.places)
    → (is_same s ≡ true → IsOut p k.order × IsOut p (values y.places))
    → ((n : ℕ) → s ≡ New n → IsOut p k.order)
    → AreGone (slice_set k.since p s) y.places → HaveCome (slice_set k.since p s) y.places
    → IsOrderOf y (with_since k p s)
IsOrderOf-touched x y k p s h row inside others out new gone came = record {
  long = length-set k.since p s ∙ h.long ∙ ap (λ r. r.entries) (sym row);
  room = h.room ∙ ap (λ r. r.entries) (sym row);
  distinct = h.distinct;
  within = λ i q e.
      let same = length-set k.since p s in
      let l = h.within i q e in
      omega arith;
  order = still_ordered k.since p s k.order (values x.places) (values y.places) inside h.order
      others out;
  fresh = λ q n e. either_equal q p (IsOut q k.order)
      (λ same. subst (λ (r : ℕ). IsOut r k.order) (sym same)
      (new n (sym (get_or-set_same k.since p s Same inside)
      ∙ ap (since_in (slice_set k.since p s)) (sym same) ∙ e)))
      (λ other. h.fresh q n (sym (since_set k.since p q s other) ∙ e));
  gone = gone;
  came = came;
}

-- where a place has a serial exactly if it has a key, what became of it is that
pub gone-live : (next : ℕ) (x : MapState) (k : PlaceOrder) → HasSerials next x (serials_of k)
    → AreGone k.since x.places
gone-live next x k h p e key f =
    let g = h.given key p f in
    let inside = serial_inside k p g.0 g.1 in
    let at = serial_in-of k p inside
    ∙ ap (λ (s : Since). after s (start_serial k.first k.order p)) e in
    let none : serial_in (serials_of k) p ≡ None = at in
    let some = g.1 in
    absurd cc

pub come-live : (next : ℕ) (x : MapState) (k : PlaceOrder) → HasSerials next x (serials_of k)
    → HaveCome k.since x.places
come-live next x k h p n e =
    let inside = not_same k.since p n e in
    let at = serial_in-of k p inside ∙ given_one (since_in k.since p) n
    (start_serial k.first k.order p) e in
    let own = h.owned p n at in
    (own.1, own.2)
  where
    given_one : (s : Since) (n : ℕ) (o : Option ℕ) → after s None ≡ Some n → after s o ≡ Some n
    given_one Same n o e = absurd cc
    given_one Gone n o e = absurd cc
    given_one (Given m) n o e = e
    given_one (New m) n o e = e

    not_same : (since : List Since) (p n : ℕ) → after (since_in since p) None ≡ Some n
        → p < length since
    not_same [] p n e = absurd cc
    not_same (t ∷ since) zero n e = omega arith
    not_same (t ∷ since) (suc p) n e = let l = not_same since p n e in omega arith

pub since_inside : (since : List Since) (p : ℕ) → since_in since p ≢ Same → p < length since
since_inside [] p other = absurd (other refl)
since_inside (s ∷ since) zero other = omega arith
since_inside (s ∷ since) (suc p) other = let l = since_inside since p other in omega arith

-- ---- the serial of a place, and the place of a serial

pub serial_seen : (k : PlaceOrder) (p : ℕ) (s : Since) (o : Option ℕ) → p < length k.since
    → s ≡ since_in k.since p → after s (start_serial k.first k.order p) ≡ o
    → o ≡ serial_in (serials_of k) p
serial_seen k p s o l e f =
    sym (serial_in-of k p l
    ∙ ap (λ (t : Since). after t (start_serial k.first k.order p)) (sym e) ∙ f)

pub serial-given : (k : PlaceOrder) (p n : ℕ) → is_given n (since_in k.since p) ≡ true
    → serial_in (serials_of k) p ≡ Some n
serial-given k p n e =
    serial_in-of k p (since_inside k.since p (λ same.
    let f = sym e ∙ ap (is_given n) same in absurd cc))
    ∙ by (since_in k.since p) (start_serial k.first k.order p) e
  where
    by : (s : Since) (o : Option ℕ) → is_given n s ≡ true → after s o ≡ Some n
    by Same o t = absurd cc
    by Gone o t = absurd cc
    by (Given m) o t = ap Some (eqb-true m n t)
    by (New m) o t = ap Some (eqb-true m n t)

no_serial : (n : ℕ) (o : Option ℕ) → o ≢ Some n → has_serial n o ≡ false
no_serial n None other = refl
no_serial n (Some m) other = not_equal m n (λ e. other (ap Some e))

position-from : (n : ℕ) (start : ℕ → Option ℕ) (p : ℕ) (since : List Since)
    → ((q : ℕ) → since_in since q ≡ Same → q < length since → start (p + q) ≢ Some n)
    → position (has_serial n) (serials_from start p since) ≡ position (is_given n) since
position-from n start p [] later = refl
position-from n start p (s ∷ since) later =
    let rest = position-from n start (p + 1) since (λ q e l f.
    let more : p + 1 + q ≡ p + suc q = omega arith in
    later (suc q) e (omega arith) (ap start (sym more) ∙ f)) in
    position-cons (has_serial n) (after s (start p)) (serials_from start (p + 1) since)
    ∙ (λ j. cond (same s (start p) here j) (Some 0) (option_map suc (rest j)))
    ∙ sym (position-cons (is_given n) s since)
  where
    same : (s : Since) (o : Option ℕ) → (s ≡ Same → o ≢ Some n)
        → has_serial n (after s o) ≡ is_given n s
    same Same o h = no_serial n o (h refl)
    same Gone o h = refl
    same (Given m) o h = refl
    same (New m) o h = refl

    here : s ≡ Same → start p ≢ Some n
    here e f =
        let zero_more : p ≡ p + 0 = omega arith in
        later 0 e (omega arith) (ap start (sym zero_more) ∙ f)

-- the place of a serial that is not of the last numbering
pub position-later : (k : PlaceOrder) (n : ℕ) → IsLater n k
    → position (is_given n) k.since ≡ position (has_serial n) (serials_of k)
unfolding serials_of
position-later k n later =
    sym (position-from n (start_serial k.first k.order) 0 k.since
    (λ q e l f. let same : 0 + q ≡ q = omega arith in
    later q e (ap (start_serial k.first k.order) (sym same) ∙ f)))

-- ---- one map's serials among those of all

pub given_all : (kept : List PlaceOrder) (m : ℕ) (k d new : PlaceOrder) (p n : ℕ) → m < length kept
    → k ≡ slice_index_or kept m d → new ≡ with_since k p (given_now n (since_in k.since p))
    → serials_in (slice_set kept m new)
    ≡ slice_set (serials_in kept) m (slice_set (serials_at (serials_in kept) m) p (Some n))
given_all kept m k d new p n l is set =
    let here : kept_at kept m ≡ k = get_or_default kept m _ d l ∙ sym is in
    serials_in-set kept m new
    ∙ ap (slice_set (serials_in kept) m)
    (ap serials_of set ∙ serials_of-given k p n
    ∙ ap (λ (s : Serials). slice_set s p (Some n))
    (ap serials_of (sym here) ∙ sym (serials_at-kept kept m)))

pub taken_all : (kept : List PlaceOrder) (m : ℕ) (k d new : PlaceOrder) (p : ℕ) → m < length kept
    → k ≡ slice_index_or kept m d → AreFresh (kept_at kept m).since (kept_at kept m).order
    → new ≡ with_since k p (taken_now (since_in k.since p))
    → serials_in (slice_set kept m new)
    ≡ slice_set (serials_in kept) m (slice_set (serials_at (serials_in kept) m) p None)
taken_all kept m k d new p l is fresh set =
    let here : kept_at kept m ≡ k = get_or_default kept m _ d l ∙ sym is in
    serials_in-set kept m new
    ∙ ap (slice_set (serials_in kept) m)
    (ap serials_of set
    ∙ serials_of-taken k p (subst (λ (j : PlaceOrder). AreFresh j.since j.order) here fresh)
    ∙ ap (λ (s : Serials). slice_set s p None)
    (ap serials_of (sym here) ∙ sym (serials_at-kept kept m)))

-- how many places a map has
pub places_of : (kept : List PlaceOrder) (m : ℕ) (k d : PlaceOrder) → m < length kept
    → k ≡ slice_index_or kept m d
    → length (serials_at (serials_in kept) m) ≡ length k.since
places_of kept m k d l is =
    ap length (serials_at-kept kept m) ∙ length-serials_of (kept_at kept m)
    ∙ ap (λ (j : PlaceOrder). length j.since) (get_or_default kept m _ d l ∙ sym is)

-- one more map
pub kept-push : (maps : List MapState) (kept : List PlaceOrder) (m : ℕ) (k : PlaceOrder) → length kept ≡ m
    → ((j : ℕ) → j < m → IsOrderOf (map_at maps j) (kept_at kept j)) → IsOrderOf (map_at maps m) k
    → (j : ℕ) → j < m + 1 → IsOrderOf (map_at maps j) (kept_at (kept ++ k ∷ []) j)
kept-push maps kept m k long before now j l =
    either_equal j m (IsOrderOf (map_at maps j) (kept_at (kept ++ k ∷ []) j))
    (λ same.
    subst (λ (i : ℕ). IsOrderOf (map_at maps i) (kept_at (kept ++ k ∷ []) i)) (sym same)
    (subst (λ (q : PlaceOrder). IsOrderOf (map_at maps m) q) (sym (get_or_push kept k _ m long)) now))
    (λ other.
    subst (λ (q : PlaceOrder). IsOrderOf (map_at maps j) q)
    (sym (get_or_append_left kept (k ∷ []) _ j (omega arith))) (before j (omega arith)))
