-- Laws of the orders of all maps' keys: as a key is added or removed, and as values are numbered.
use Rattle.live_maps.proofs.Common.{◌≢◌, ◌==◌, Bool, not, slice_get, slice_set, slice_index_or, ◌≡◌, ℕ, suc, ◌+◌, ◌<◌, List, [], ◌∷◌, map, length, Option, Some, None, true, false, cond, refl, sym, ap, subst, ◌∙◌, arith, filter, nat_list_cmp_total, find, find-where_key, is_sorted-where_key, same_entries, where_key, Equal, eqb, eqb-true, eqb-false, get_or-set_same, get_or-set_other, get_or_default, length-set, set-get_or, slice_get_within, get_or_from_slice_get, key_order, is_key, Places, TakesPlace, is_key-equal, is_key-itself, get-taken, get_at, MapState, IsMap, map_at, Since, Same, Gone, Given, New, AreOrdersOf, IsOrderOf, PlaceOrder, after, given_now, is_same, kept_at, serials_in, serials_of, since_in, start_serial, taken_now, with_since, AreLive, HasSerials, Serials, serial_in, serials_at, AreDistinct}
use Rattle.std.specs.Cmp.{eq_by_cmp_equiv}
use Rattle.std.specs.FinMap.{get, entries, entries_sorted, values, get-entries, get-insert, get-remove, insert as with_place, remove, same_map, slice_cmp-IsAntisymmetric, nat_cmp-IsAntisymmetric}
use Rattle.live_maps.proofs.PlaceOrderLaws.{IsOrderOf-touched, come-live, gone-live, length-serials_in, serial_in-of, serials_at-kept, serials_of-given, serials_of-taken, start-at}
use Rattle.live_maps.proofs.NumberingLaws.{key_at}
use Rattle.live_maps.proofs.PlaceLists.{IsOut, equal_to, none_without, not_equal, out_without, without}

-- ---- all orders

-- one map and its order replaced
AreOrdersOf-replaced : (maps : List MapState) (kept : List PlaceOrder) (m : ℕ) (x : MapState) (k : PlaceOrder)
    → m < length maps → IsOrderOf x k → AreOrdersOf maps kept
    → AreOrdersOf (slice_set maps m x) (slice_set kept m k)
AreOrdersOf-replaced maps kept m x k inside now h = record {
  long = length-set kept m k ∙ h.long ∙ sym (length-set maps m x);
  each = λ j l. elim (eqb j m) as (λ b. eqb j m ≡ b → IsOrderOf (map_at (slice_set maps m x) j)
      (kept_at (slice_set kept m k) j)) [
        | true ↦ λ t.
            let ordered = h.long in
            subst (λ (i : ℕ). IsOrderOf (map_at (slice_set maps m x) i) (kept_at (slice_set kept m k) i))
            (sym (eqb-true j m t))
            (subst (λ (y : MapState). IsOrderOf y (kept_at (slice_set kept m k) m))
            (sym (get_or-set_same maps m x _ inside))
            (subst (λ (q : PlaceOrder). IsOrderOf x q)
            (sym (get_or-set_same kept m k _ (omega arith))) now))
        | false ↦ λ t.
            let d = eqb-false j m t in
            let same = length-set maps m x in
            subst (λ (y : MapState). IsOrderOf y (kept_at (slice_set kept m k) j))
            (sym (get_or-set_other maps m j x _ d))
            (subst (λ (q : PlaceOrder). IsOrderOf (map_at maps j) q)
            (sym (get_or-set_other kept m j k _ d)) (h.each j (omega arith)))
      ] refl;
}

-- a map is numbered
pub AreOrdersOf-numbered : (maps : List MapState) (kept : List PlaceOrder) (m : ℕ) (k : PlaceOrder)
    → m < length maps → IsOrderOf (map_at maps m) k → AreOrdersOf maps kept
    → AreOrdersOf maps (slice_set kept m k)
AreOrdersOf-numbered maps kept m k inside now h =
    subst (λ (l : List MapState). AreOrdersOf l (slice_set kept m k)) (set-get_or maps m _)
    (AreOrdersOf-replaced maps kept m (map_at maps m) k inside now h)

-- a map with another key, and its order
pub AreOrdersOf-changed : (maps new : List MapState) (kept : List PlaceOrder) (m : ℕ) (k : PlaceOrder)
    → new ≡ slice_set maps m (map_at new m) → m < length maps → IsOrderOf (map_at new m) k
    → AreOrdersOf maps kept → AreOrdersOf new (slice_set kept m k)
AreOrdersOf-changed maps new kept m k is inside now h =
    subst (λ (l : List MapState). AreOrdersOf l (slice_set kept m k)) (sym is)
    (AreOrdersOf-replaced maps kept m (map_at new m) k inside now h)

IsOrderOf-same : (x y : MapState) (k : PlaceOrder) → IsOrderOf x k → y.row ≡ x.row → y.places ≡ x.places
    → IsOrderOf y k
IsOrderOf-same x y k h row places = record {
  long = h.long ∙ ap (λ r. r.entries) (sym row);
  room = h.room ∙ ap (λ r. r.entries) (sym row);
  distinct = h.distinct;
  within = h.within;
  order = h.order ∙ ap (λ (P : Places). filter (λ p. is_same (since_in k.since p)) (values P))
      (sym places);
  fresh = h.fresh;
  gone = λ p e key f. h.gone p e key (ap (λ (P : Places). get P key) (sym places) ∙ f);
  came = λ p n e. let r = h.came p n e in
      (r.0, ap (λ (P : Places). get P r.0) places ∙ r.1);
}

-- a map whose keys have the same places
pub AreOrdersOf-set : (maps new : List MapState) (kept : List PlaceOrder) (m : ℕ)
    → new ≡ slice_set maps m (map_at new m) → m < length maps
    → (map_at new m).row ≡ (map_at maps m).row → (map_at new m).places ≡ (map_at maps m).places
    → AreOrdersOf maps kept → AreOrdersOf new kept
AreOrdersOf-set maps new kept m is inside row places h =
    subst (λ (ks : List PlaceOrder). AreOrdersOf new ks) (set-get_or kept m _)
    (AreOrdersOf-changed maps new kept m (kept_at kept m) is inside
    (IsOrderOf-same (map_at maps m) (map_at new m) (kept_at kept m) (h.each m inside) row places) h)

-- what is kept of a map, as it is found in the list of all
pub kept_found : (kept : List PlaceOrder) (m : ℕ) (k d : PlaceOrder) → m < length kept
    → k ≡ slice_index_or kept m d → kept_at kept m ≡ k
kept_found kept m k d inside is = get_or_default kept m _ d inside ∙ sym is

-- ---- the places of all keys but one

-- a key added and removed again
pub remove-added : (P : Places) (key : List ℕ) (p : ℕ) → get P key ≡ None
    → remove (with_place P key p) key ≡ P
remove-added P key p absent =
    same_map nat_list_cmp_total (slice_cmp-IsAntisymmetric nat_cmp-IsAntisymmetric)
    (remove (with_place P key p) key) P
    (λ q. get-remove nat_list_cmp_total (with_place P key p) key q ∙ by q (is_key q key) refl)
  where
    by : (q : List ℕ) (b : Bool) → is_key q key ≡ b
        → cond (is_key q key) None (get (with_place P key p) q) ≡ get P q
    by q true t =
        ap (λ (b : Bool). cond b None (get (with_place P key p) q)) t
        ∙ sym (ap (get P) (is_key-equal q key t) ∙ absent)
    by q false t =
        ap (λ (b : Bool). cond b None (get (with_place P key p) q)) t
        ∙ get-insert nat_list_cmp_total P key p q ∙ ap (λ (b : Bool). cond b (Some p) (get P q)) t

negated : {A : Type 0} (b : Bool) (x y : A) → cond (not b) x y ≡ cond b y x
negated true x y = refl
negated false x y = refl

alike : (q x : List ℕ) → key_order q x ≡ Equal → q ≡ x
alike q x e = slice_cmp-IsAntisymmetric nat_cmp-IsAntisymmetric q x e

pairs-removed : (P : Places) (key : List ℕ)
    → entries (remove P key) ≡ where_key key_order (λ q. not (is_key key q)) (entries P)
pairs-removed P key =
    same_entries key_order nat_list_cmp_total alike (entries (remove P key))
    (where_key key_order (λ q. not (is_key key q)) (entries P)) (entries_sorted (remove P key))
    (is_sorted-where_key key_order (λ q. not (is_key key q)) (entries P) (entries_sorted P))
    (λ q. sym (get-entries (remove P key) q) ∙ get-remove nat_list_cmp_total P key q
    ∙ ap (λ (o : Option ℕ). cond (is_key q key) None o) (get-entries P q)
    ∙ ap (λ (b : Bool). cond b None (find key_order q (entries P)))
    ((eq_by_cmp_equiv nat_list_cmp_total).symm q key)
    ∙ sym (negated (is_key key q) (find key_order q (entries P)) None)
    ∙ sym (find-where_key key_order (λ x. not (is_key key x)) q
    (λ x e. ap (λ (y : List ℕ). not (is_key key y)) (sym (alike q x e))) (entries P)))

-- the places of all keys but one
pub values-removed : (P : Places) (key : List ℕ) (p : ℕ)
    → ((j k : List ℕ) (q : ℕ) → get P j ≡ Some q → get P k ≡ Some q → j ≡ k)
    → get P key ≡ Some p → values (remove P key) ≡ without p (values P)
values-removed P key p apart there =
    ap (λ (xs : List (List ℕ × ℕ)). map (λ e. e.1) xs) (pairs-removed P key)
    ∙ parts (entries P) (λ i e g. get_at P i e g)
  where
    test : (e : List ℕ × ℕ) → get P e.0 ≡ Some e.1 → not (is_key key e.0) ≡ not (e.1 == p)
    test e has = by (is_key key e.0) refl
      where
        by : (b : Bool) → is_key key e.0 ≡ b → not (is_key key e.0) ≡ not (e.1 == p)
        by true t =
            let same : Some e.1 ≡ Some p = sym has ∙ ap (get P) (sym (is_key-equal key e.0 t))
            ∙ there in
            let equal : e.1 ≡ p = cc in
            ap not (t ∙ sym (equal_to e.1 p equal))
        by false t =
            ap not (t ∙ sym (not_equal e.1 p (λ same.
            let equal : key ≡ e.0 = apart key e.0 p there (has ∙ ap Some same) in
            let f = sym t ∙ ap (is_key key) (sym equal) ∙ is_key-itself key in
            absurd cc)))

    both : (a b : Bool) → a ≡ b → (e : List ℕ × ℕ) (xs : List (List ℕ × ℕ)) (ys : List ℕ)
        → map (λ x. x.1) xs ≡ ys → map (λ x. x.1) (cond a (e ∷ xs) xs) ≡ cond b (e.1 ∷ ys) ys
    both true true same e xs ys r = ap (λ (zs : List ℕ). e.1 ∷ zs) r
    both true false same e xs ys r = absurd cc
    both false true same e xs ys r = absurd cc
    both false false same e xs ys r = r

    parts : (es : List (List ℕ × ℕ))
        → ((i : ℕ) (e : List ℕ × ℕ) → slice_get es i ≡ Some e → get P e.0 ≡ Some e.1)
        → map (λ e. e.1) (filter (λ e. not (is_key key e.0)) es)
        ≡ without p (map (λ e. e.1) es)
    parts [] has = refl
    parts (e ∷ es) has =
        let one = test e (has 0 e refl) in
        let rest = parts es (λ i x g. has (suc i) x g) in
        both (not (is_key key e.0)) (not (e.1 == p)) one e (filter (λ x. not (is_key key x.0)) es)
        (without p (map (λ x. x.1) es)) rest

-- ---- a key that came or went

-- a place that no key has is not in the order of the keys
pub out-values : (P : Places) (p : ℕ) → ((key : List ℕ) → get P key ≢ Some p) → IsOut p (values P)
out-values P p none i e =
    let within = slice_get_within (values P) i p e in
    none _ (key_at P i within ∙ ap Some (get_or_from_slice_get (values P) i p 0 e))

given-not_same : (n : ℕ) (s : Since) → is_same (given_now n s) ≡ true → ⊥
given-not_same n Same e = absurd cc
given-not_same n Gone e = absurd cc
given-not_same n (Given m) e = absurd cc
given-not_same n (New m) e = absurd cc

is_given : Since → Bool
is_given (Given n) = true
is_given s = false

given-new : (n m : ℕ) (s : Since) → given_now n s ≡ New m → s ≡ Same
unfolding is_given
given-new n m Same e = refl
given-new n m Gone e = let f = ap is_given e in absurd cc
given-new n m (Given k) e = let f = ap is_given e in absurd cc
given-new n m (New k) e = let f = ap is_given e in absurd cc

is_new : Since → Bool
is_new (New n) = true
is_new s = false

taken-new : (m : ℕ) (s : Since) → taken_now s ≡ New m → ⊥
unfolding is_new
taken-new m Same e = let f = ap is_new e in absurd cc
taken-new m Gone e = let f = ap is_new e in absurd cc
taken-new m (Given k) e = let f = ap is_new e in absurd cc
taken-new m (New k) e = let f = ap is_new e in absurd cc

taken-same : (A : Type 0) (s : Since) → is_same (taken_now s) ≡ true → ((n : ℕ) → s ≡ New n → A) → A
taken-same A Same e new = absurd cc
taken-same A Gone e new = absurd cc
taken-same A (Given m) e new = absurd cc
taken-same A (New m) e new = new m refl

-- a place that has no serial, and of whose value nothing became, is not in the order
out-start : (k : PlaceOrder) (p : ℕ) → AreDistinct k.order → p < length k.since
    → since_in k.since p ≡ Same → serial_in (serials_of k) p ≡ None → IsOut p k.order
out-start k p d inside same none i e =
    let at = start-at k.first p i k.order d e in
    let is = serial_in-of k p inside
    ∙ ap (λ (s : Since). after s (start_serial k.first k.order p)) same in
    let some : serial_in (serials_of k) p ≡ Some (k.first + i) = is ∙ at in
    absurd cc

-- a key came
pub IsOrderOf-given : (next later : ℕ) (x y : MapState) (k : PlaceOrder) (key : List ℕ) (p n : ℕ)
    → HasSerials next x (serials_of k) → IsOrderOf x k → y.row ≡ x.row → IsMap y
    → get x.places key ≡ None → TakesPlace x.places key p y.places
    → HasSerials later y (serials_of (with_since k p (given_now n (since_in k.since p))))
    → IsOrderOf y (with_since k p (given_now n (since_in k.since p)))
IsOrderOf-given next later x y k key p n h kept row is absent taken after_it =
    let there = get-taken x.places y.places key p taken in
    let out = out-values x.places p taken.free in
    let within = is.in_range key p there in
    let rows : y.row.entries ≡ x.row.entries = ap (λ r. r.entries) row in
    let long = kept.long in
    let inside : p < length k.since = omega arith in
    let none : serial_in (serials_of k) p ≡ None =
    by (serial_in (serials_of k) p) refl (λ m e. let own = h.owned p m e in taken.free own.1 own.2) in
    IsOrderOf-touched x y k p (given_now n (since_in k.since p)) kept row inside
    (sym (values-removed y.places key p is.apart there)
    ∙ ap (λ (P : Places). values (remove P key)) taken.added
    ∙ ap values (remove-added x.places key p absent) ∙ sym (none_without (values x.places) p out))
    (λ e. absurd (given-not_same n (since_in k.since p) e))
    (λ m e. out-start k p kept.distinct inside (given-new n m (since_in k.since p) e) none)
    (gone-live later y (with_since k p (given_now n (since_in k.since p))) after_it)
    (come-live later y (with_since k p (given_now n (since_in k.since p))) after_it)
  where
    by : (o : Option ℕ) → serial_in (serials_of k) p ≡ o
        → ((m : ℕ) → serial_in (serials_of k) p ≡ Some m → ⊥) → serial_in (serials_of k) p ≡ None
    by None e never = e
    by (Some m) e never = absurd (never m e)

-- a key went
pub IsOrderOf-taken : (later : ℕ) (x y : MapState) (k : PlaceOrder) (key : List ℕ) (p : ℕ) → IsMap x
    → IsOrderOf x k → y.row ≡ x.row → get x.places key ≡ Some p → y.places ≡ remove x.places key
    → HasSerials later y (serials_of (with_since k p (taken_now (since_in k.since p))))
    → IsOrderOf y (with_since k p (taken_now (since_in k.since p)))
IsOrderOf-taken later x y k key p is kept row there places after_it =
    let within = is.in_range key p there in
    let long = kept.long in
    let inside : p < length k.since = omega arith in
    let now : values y.places ≡ without p (values x.places) =
    ap values places ∙ values-removed x.places key p is.apart there in
    let out : IsOut p (values y.places) =
    subst (λ (ps : List ℕ). IsOut p ps) (sym now) (out_without p (values x.places)) in
    IsOrderOf-touched x y k p (taken_now (since_in k.since p)) kept row inside
    (none_without (values y.places) p out ∙ now)
    (λ e. taken-same (IsOut p k.order × IsOut p (values y.places)) (since_in k.since p) e
    (λ n f. (kept.fresh p n f, out)))
    (λ m e. absurd (taken-new m (since_in k.since p) e))
    (gone-live later y (with_since k p (taken_now (since_in k.since p))) after_it)
    (come-live later y (with_since k p (taken_now (since_in k.since p))) after_it)

-- ---- the same of all maps

serials_there : (next : ℕ) (maps : List MapState) (kept : List PlaceOrder) (m : ℕ) (s : Serials) (k : PlaceOrder)
    → m < length maps → AreLive next maps (slice_set (serials_in kept) m s)
    → length kept ≡ length maps → s ≡ serials_of k → HasSerials next (map_at maps m) (serials_of k)
serials_there next maps kept m s k inside live long is =
    let same = length-serials_in kept in
    subst (λ (t : Serials). HasSerials next (map_at maps m) t)
    (get_or-set_same (serials_in kept) m s [] (omega arith) ∙ is) (live.each m inside)

pub AreOrdersOf-given : (next : ℕ) (maps new : List MapState) (kept : List PlaceOrder) (m : ℕ)
    (key : List ℕ) (p : ℕ) → AreLive next maps (serials_in kept) → AreOrdersOf maps kept
    → m < length maps → new ≡ slice_set maps m (map_at new m)
    → (map_at new m).row ≡ (map_at maps m).row → IsMap (map_at new m)
    → get (map_at maps m).places key ≡ None
    → TakesPlace (map_at maps m).places key p (map_at new m).places
    → AreLive (suc next) new (slice_set (serials_in kept) m
    (slice_set (serials_at (serials_in kept) m) p (Some next)))
    → AreOrdersOf new (slice_set kept m (with_since (kept_at kept m) p
    (given_now next (since_in (kept_at kept m).since p))))
AreOrdersOf-given next maps new kept m key p live h inside others row is absent taken now =
    let k = kept_at kept m in
    let count = ap length others ∙ length-set maps m (map_at new m) in
    let long = h.long in
    let here = serials_at-kept kept m in
    AreOrdersOf-changed maps new kept m (with_since k p (given_now next (since_in k.since p))) others
    inside
    (IsOrderOf-given next (suc next) (map_at maps m) (map_at new m) k key p next
    (subst (λ (t : Serials). HasSerials next (map_at maps m) t) here (live.each m inside))
    (h.each m inside) row is absent taken
    (serials_there (suc next) new kept m
    (slice_set (serials_at (serials_in kept) m) p (Some next))
    (with_since k p (given_now next (since_in k.since p))) (omega arith) now (omega arith)
    (ap (λ (t : Serials). slice_set t p (Some next)) here ∙ sym (serials_of-given k p next))))
    h

pub AreOrdersOf-taken : (next : ℕ) (maps new : List MapState) (kept : List PlaceOrder) (m : ℕ)
    (key : List ℕ) (p : ℕ) → AreLive next maps (serials_in kept) → AreOrdersOf maps kept
    → m < length maps → new ≡ slice_set maps m (map_at new m)
    → (map_at new m).row ≡ (map_at maps m).row
    → get (map_at maps m).places key ≡ Some p
    → (map_at new m).places ≡ remove (map_at maps m).places key
    → AreLive next new (slice_set (serials_in kept) m
    (slice_set (serials_at (serials_in kept) m) p None))
    → AreOrdersOf new (slice_set kept m (with_since (kept_at kept m) p
    (taken_now (since_in (kept_at kept m).since p))))
AreOrdersOf-taken next maps new kept m key p live h inside others row there places now =
    let k = kept_at kept m in
    let count = ap length others ∙ length-set maps m (map_at new m) in
    let long = h.long in
    let here = serials_at-kept kept m in
    AreOrdersOf-changed maps new kept m (with_since k p (taken_now (since_in k.since p))) others inside
    (IsOrderOf-taken next (map_at maps m) (map_at new m) k key p (live.each m inside).is_map
    (h.each m inside) row there places
    (serials_there next new kept m (slice_set (serials_at (serials_in kept) m) p None)
    (with_since k p (taken_now (since_in k.since p))) (omega arith) now (omega arith)
    (ap (λ (t : Serials). slice_set t p None) here
    ∙ sym (serials_of-taken k p (h.each m inside).fresh))))
    h
