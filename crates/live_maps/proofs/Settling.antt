-- What an update and a delete make of the maps and of what is kept of them.
use Rattle.live_maps.proofs.Common.{◌≡◌, ◌∙◌, ◌<◌, ℕ, zero, suc, List, length, Bool, false, Option, Some, None, refl, sym, ap, subst, arith, ◌==◌, if◌then◌else◌, IfSome, IsSomeAnd, slice_get, get, MapDef, update_answer, delete_answer, TakesPlace, MapState, Updated, Deleted, map_at, Live, Serials, AreLive, place_if_new, content_at, serials_at, with_bytes, without, AreOrdersOf, PlaceOrder, serials_in}
use Rattle.live_maps.specs.Giving.{GivesSerial, TakesSerial}
use Rattle.live_maps.proofs.ContentLaws.{live_of}
use Rattle.live_maps.proofs.LiveLaws.{live-updated, live-added, live-removed, live-same, not_zero, updated_there, deleted_there, place_if_new-Some, place_if_new-None, update_answer-live, delete_answer-live}
use Rattle.live_maps.proofs.LookUpLaws.{lookup-present}
use Rattle.live_maps.proofs.OrderLaws.{AreOrdersOf-given, AreOrdersOf-set, AreOrdersOf-taken}
use Rattle.live_maps.proofs.OneChanged.{OneChanged, Settled, changed-inside, changed-row, changed-is, changed-seen, changed-same, still_kept}

-- the key has its size
abbrev pub HasKeySize : List ℕ → MapDef → Type 0
HasKeySize key row = length key ≡ row.key_size

-- the key and the value have their sizes
abbrev pub HaveSizes : List ℕ → List ℕ → MapDef → Type 0
HaveSizes key value row = (length key ≡ row.key_size) × (length value ≡ row.value_size)

place_if_new-same : (before : Option ℕ) → place_if_new before before ≡ None
place_if_new-same None = refl
place_if_new-same (Some p) = refl

no_zero : (n : ℕ) → (suc n == 0) ≡ false
no_zero n = not_zero (suc n) (λ e. absurd (omega arith))

-- ---- an update

module _ (key value : List ℕ) (flags : ℕ) {room next : ℕ} {maps new : List MapState}
    {kept : List PlaceOrder} {now : Live} {m : ℕ}
    (d : OneChanged (HaveSizes key value) room next maps new kept now m) where
  added : (p more : ℕ) (later : List PlaceOrder)
      → Updated key value flags 0 (map_at maps m) (map_at new m)
      → get (map_at maps m).places key ≡ None → get (map_at new m).places key ≡ Some p
      → GivesSerial m (Some p) next more kept later
      → Settled room more new later (with_bytes now m key value)
  added p more later u none there g =
      let w = u.updates.writes refl in
      let place : Some w.place ≡ Some p = sym w.there ∙ there in
      let equal : w.place ≡ p = cc in
      let taken =
      subst (λ (q : ℕ). TakesPlace (map_at maps m).places key q (map_at new m).places) equal
      (w.taken none) in
      let r =
      live-added next maps (serials_in kept) m new (changed-inside d) d.before.2 d.others key value
      flags p (changed-is d) (changed-row d).1 u none there in
      let one : suc next ≡ more = omega (arith, g.2) in
      record {
        lives =
            still_kept room next more maps new kept later m d.before d.others
            (subst (λ (n : ℕ). AreLive n new (serials_in later)) one
            (subst (λ (all : List Serials). AreLive (suc next) new all) (sym g.0) r.0))
            (subst (λ (ks : List PlaceOrder). AreOrdersOf new ks) (sym g.1)
            (AreOrdersOf-given next maps new kept m key p d.before.2 d.before.3 (changed-inside d)
            d.others u.row (changed-is d) none taken r.0));
        seen =
            (λ j. live_of new (g.0 j) (sym one j)) ∙ r.1
            ∙ ap (λ (l : Live). with_bytes l m key value) d.view;
      }

  written : (p : ℕ) → Updated key value flags 0 (map_at maps m) (map_at new m)
      → get (map_at maps m).places key ≡ Some p
      → Settled room next new kept (with_bytes now m key value)
  written p u there =
      let r =
      live-updated next maps (serials_in kept) m new (changed-inside d) d.before.2 d.others key
      value flags p (changed-is d) (changed-row d).1 u there in
      record {
        lives =
            still_kept room next next maps new kept kept m d.before d.others r.0
            (AreOrdersOf-set maps new kept m d.others (changed-inside d) u.row
            ((u.updates.writes refl).kept p there) d.before.3);
        seen = r.1 ∙ ap (λ (l : Live). with_bytes l m key value) d.view;
      }

  failed : (n : ℕ) → Updated key value flags (suc n) (map_at maps m) (map_at new m)
      → new ≡ maps
  failed n u =
      let stays = u.updates.stays (λ e. absurd (omega arith)) in
      live-same next maps (serials_in kept) m new (changed-inside d) d.before.2 d.others u.row
      stays.0 stays.1

  -- no place was given
  as_before : (more : ℕ) (later : List PlaceOrder) (l : Live)
      → GivesSerial m None next more kept later
      → Settled room next new kept l → Settled room more new later l
  as_before more later l g s =
      subst (λ (n : ℕ). Settled room n new later l) (sym g.1)
      (subst (λ (ks : List PlaceOrder). Settled room next new ks l) (sym g.0) s)

  pub updated-settled : (result more : ℕ) (place : Option ℕ) (later : List PlaceOrder)
      → Updated key value flags result (map_at maps m) (map_at new m)
      → place ≡ place_if_new (get (map_at maps m).places key) (get (map_at new m).places key)
      → GivesSerial m place next more kept later
      → Settled room more new later (if result == 0 then with_bytes now m key value else now)
  updated-settled zero more (Some p) later u e g =
      let two = place_if_new-Some _ _ p (sym e) in
      added p more later u two.0 two.1 g
  updated-settled zero more None later u e g =
      let x = map_at maps m in
      let there = place_if_new-None (get x.places key) (get (map_at new m).places key) (sym e)
      (updated_there x (map_at new m) key value flags u) in
      as_before more later (with_bytes now m key value) g (written there.0 u there.1)
  updated-settled (suc n) more (Some p) later u e g =
      let old = get (map_at maps m).places key in
      let none : Some p ≡ None =
      e ∙ ap (λ (l : List MapState). place_if_new old (get (map_at l m).places key)) (failed n u)
      ∙ place_if_new-same old in
      absurd cc
  updated-settled (suc n) more None later u e g =
      subst (λ (b : Bool). Settled room more new later
      (if b then with_bytes now m key value else now)) (sym (no_zero n))
      (as_before more later now g (changed-same d (failed n u)))

  pub updated-answer : (result : ℕ)
      → Updated key value flags result (map_at maps m) (map_at new m)
      → IsSomeAnd (slice_get now.rows m)
      (λ row. result ≡ update_answer row (content_at now m) key flags)
  updated-answer result u =
      changed-seen d (λ l row. result ≡ update_answer row (content_at l m) key flags)
      (u.answer ∙ update_answer-live next maps (serials_in kept) m new (changed-inside d) d.before.2
      d.others key flags)

  -- a place that is given a serial is one of the map's
  pub given-inside : (place : Option ℕ) → (map_at new m).row ≡ (map_at maps m).row
      → place ≡ place_if_new (get (map_at maps m).places key) (get (map_at new m).places key)
      → IfSome place (λ p. p < length (serials_at (serials_in kept) m))
  given-inside None row e = tt
  given-inside (Some p) row e =
      let within = (changed-is d).in_range key p (place_if_new-Some _ _ p (sym e)).1 in
      let long = (d.before.2.each m (changed-inside d)).long in
      let same = ap (λ (r : MapDef). r.entries) row in
      omega arith

-- ---- a delete

module _ (key : List ℕ) {room next : ℕ} {maps new : List MapState} {kept : List PlaceOrder}
    {now : Live} {m : ℕ} (d : OneChanged (HasKeySize key) room next maps new kept now m) where
  removed : (p : ℕ) (later : List PlaceOrder) → Deleted key 0 (map_at maps m) (map_at new m)
      → get (map_at maps m).places key ≡ Some p → TakesSerial m (Some p) kept later
      → Settled room next new later (without now m key)
  removed p later x there t =
      let r =
      live-removed next maps (serials_in kept) m new (changed-inside d) d.before.2 d.others key p
      (changed-is d) x there in
      record {
        lives =
            still_kept room next next maps new kept later m d.before d.others
            (subst (λ (all : List Serials). AreLive next new all) (sym t.0) r.0)
            (subst (λ (ks : List PlaceOrder). AreOrdersOf new ks) (sym t.1)
            (AreOrdersOf-taken next maps new kept m key p d.before.2 d.before.3 (changed-inside d)
            d.others x.row there (x.deletes.removes refl) r.0));
        seen =
            ap (λ (all : List Serials). live_of new all next) t.0 ∙ r.1
            ∙ ap (λ (l : Live). without l m key) d.view;
      }

  -- the place of the key, if it was deleted
  abbrev pub place_taken : ℕ → Option ℕ
  place_taken result = if result == 0 then get (map_at maps m).places key else None

  none_taken : (n : ℕ) → place_taken (suc n) ≡ None
  none_taken n =
      ap (λ (b : Bool). if b then get (map_at maps m).places key else None) (no_zero n)

  pub deleted-settled : (result : ℕ) (place : Option ℕ) (later : List PlaceOrder)
      → Deleted key result (map_at maps m) (map_at new m) → place ≡ place_taken result
      → TakesSerial m place kept later
      → Settled room next new later (if result == 0 then without now m key else now)
  deleted-settled zero (Some p) later x e t = removed p later x (sym e) t
  deleted-settled zero None later x e t =
      absurd (deleted_there (map_at maps m) key x.answer (sym e))
  deleted-settled (suc n) (Some p) later x e t =
      let none : Some p ≡ None = e ∙ none_taken n in
      absurd cc
  deleted-settled (suc n) None later x e t =
      let same : new ≡ maps =
      live-same next maps (serials_in kept) m new (changed-inside d) d.before.2 d.others x.row
      (x.deletes.stays (λ f. absurd (omega arith))) x.deletes.block in
      subst (λ (b : Bool). Settled room next new later (if b then without now m key else now))
      (sym (no_zero n))
      (subst (λ (ks : List PlaceOrder). Settled room next new ks now) (sym t)
      (changed-same d same))

  pub deleted-answer : (result : ℕ) → Deleted key result (map_at maps m) (map_at new m)
      → IsSomeAnd (slice_get now.rows m) (λ row. result ≡ delete_answer row (content_at now m) key)
  deleted-answer result x =
      changed-seen d (λ l row. result ≡ delete_answer row (content_at l m) key)
      (x.answer ∙ delete_answer-live next maps (serials_in kept) m new (changed-inside d) d.before.2
      d.others key)

  -- a place whose serial is taken away is one of the map's
  pub taken-inside : (result : ℕ) (place : Option ℕ) → place ≡ place_taken result
      → IfSome place (λ p. p < length (serials_at (serials_in kept) m))
  taken-inside result None e = tt
  taken-inside zero (Some p) e =
      (lookup-present next maps (serials_in kept) m d.before.2 (changed-inside d) key p (sym e)).0
  taken-inside (suc n) (Some p) e =
      let none : Some p ≡ None = e ∙ none_taken n in
      absurd cc
