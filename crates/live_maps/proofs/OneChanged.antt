-- What is known of maps when one of them may have changed.
use Rattle.live_maps.proofs.Common.{◌≡◌, ◌∙◌, ℕ, ◌<◌, ◌≤◌, List, length, Option, Some, sym, ap, subst, arith, All, IsSomeAnd, slice_get, slice_set, position, MapDef, MapState, IsMap, map_at, Live, Serials, AreLive, content_at, serials_at, has_serial, value_bytes, AreLiveMaps, AreOrdersOf, PlaceOrder, serials_in}
use Rattle.live_maps.proofs.ContentLaws.{live_of, rows_of-known, rows_of-some, length-changed_maps}
use Rattle.live_maps.proofs.LookUpLaws.{serial_place-inside, serial_place-some}

-- there is the map that a call names, and its row is as the call needs it
pub row_known : (P : MapDef → Type 0) (next : ℕ) (maps : List MapState) (all : List Serials)
    (now : Live) → live_of maps all next ≡ now
    → (m : ℕ) → IsSomeAnd (slice_get now.rows m) P → (m < length maps) × P (map_at maps m).row
row_known P next maps all now view m holds =
    rows_of-known P maps m
    (subst (λ (l : Live). IsSomeAnd (slice_get l.rows m) P) (sym view) holds)

-- what holds of the maps and of one map's row holds of them as contracts see them
pub row_seen : (Q : Live → MapDef → Type 0) (next : ℕ) (maps : List MapState) (all : List Serials)
    (now : Live) → live_of maps all next ≡ now → (m : ℕ)
    → m < length maps → Q (live_of maps all next) (map_at maps m).row
    → IsSomeAnd (slice_get now.rows m) (Q now)
row_seen Q next maps all now view m inside h =
    subst (λ (l : Live). IsSomeAnd (slice_get l.rows m) (Q l)) view
    (rows_of-some (Q (live_of maps all next)) maps m inside h)

-- the place of a serial whose value has at least `size` bytes
pub record Found (maps : List MapState) (m p size : ℕ) : Type 0 where
  pub inside : m < length maps
  pub place : p < (map_at maps m).row.entries
  pub fits : size ≤ (map_at maps m).row.value_size

pub found_at : (next : ℕ) (maps : List MapState) (all : List Serials) (now : Live)
    → live_of maps all next ≡ now → (m n p size : ℕ) → AreLive next maps all
    → position (has_serial n) (serials_at all m) ≡ Some p
    → IsSomeAnd (value_bytes (content_at now m) n) (λ value. size ≤ length value)
    → Found maps m p size
found_at next maps all now view m n p size h found fits =
    let Q : List ℕ → Type 0 = λ value. size ≤ length value in
    let r = serial_place-some next maps all m n h p found in
    let long = r.2 in
    let room =
    subst (λ (o : Option (List ℕ)). IsSomeAnd o Q)
    (sym (ap (λ (l : Live). value_bytes (content_at l m) n) view) ∙ r.1) fits in
    let inside = serial_place-inside next maps all m n h p found in
    record { inside = inside; place = r.0; fits = omega arith }

-- where one map has changed, the maps are kept as before, with what is kept of them
pub still_kept : (serials_room next later : ℕ) (maps new : List MapState)
    (kept given : List PlaceOrder)
    (m : ℕ) → AreLiveMaps serials_room next maps kept → new ≡ slice_set maps m (map_at new m)
    → AreLive later new (serials_in given) → AreOrdersOf new given
    → AreLiveMaps serials_room later new given
still_kept serials_room next later maps new kept given m h others live are =
    let few = h.0 in
    let count = length-changed_maps maps new m (map_at new m) others in
    (omega arith, h.1 ∙ sym count, live, are)

-- ---- one map, whose row has the property P, before and after a change

-- what is known of the maps, of what is kept of them, and of what contracts see
pub record OneChanged (P : MapDef → Type 0) (room next : ℕ) (maps new : List MapState)
    (kept : List PlaceOrder) (now : Live) (m : ℕ) : Type 0 where
  pub view : live_of maps (serials_in kept) next ≡ now
  pub before : AreLiveMaps room next maps kept
  pub named : IsSomeAnd (slice_get now.rows m) P
  pub others : new ≡ slice_set maps m (map_at new m)
  pub are : All IsMap new

-- what is kept of the maps, and what contracts see of them
pub record Settled (room next : ℕ) (maps : List MapState) (kept : List PlaceOrder)
    (now : Live) : Type 0 where
  pub lives : AreLiveMaps room next maps kept
  pub seen : live_of maps (serials_in kept) next ≡ now

module _ {P : MapDef → Type 0} {room next : ℕ} {maps new : List MapState} {kept : List PlaceOrder}
    {now : Live} {m : ℕ} (d : OneChanged P room next maps new kept now m) where
  known : (m < length maps) × P (map_at maps m).row
  known = row_known P next maps (serials_in kept) now d.view m d.named

  pub changed-inside : m < length maps
  changed-inside = known.0

  pub changed-row : P (map_at maps m).row
  changed-row = known.1

  pub changed-count : length new ≡ length maps
  changed-count = length-changed_maps maps new m (map_at new m) d.others

  pub changed-is : IsMap (map_at new m)
  changed-is =
      let inside = changed-inside in
      let count = changed-count in
      d.are m _ (omega arith)

  -- the list of what is kept is as long
  pub changed-kept : (n : ℕ) → length kept ≡ n → m < n
  changed-kept n long =
      let inside = changed-inside in
      let same = d.before.3.long in
      omega arith

  pub changed-seen : (Q : Live → MapDef → Type 0)
      → Q (live_of maps (serials_in kept) next) (map_at maps m).row
      → IsSomeAnd (slice_get now.rows m) (Q now)
  changed-seen Q h = row_seen Q next maps (serials_in kept) now d.view m changed-inside h

  -- if it has not changed
  pub changed-same : new ≡ maps → Settled room next new kept now
  changed-same same =
      subst (λ (l : List MapState). Settled room next l kept now) (sym same)
      (record { lives = d.before; seen = d.view })
