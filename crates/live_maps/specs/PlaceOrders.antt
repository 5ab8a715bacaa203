-- The serials of a map's values by what became of them since the last numbering.
use Rattle.std.specs.Prelude.{◌≡◌, ◌≢◌, ◌==◌, ◌+◌, ◌<◌, ◌≤◌, ◌^◌, ℕ, Bool, true, false, List, [], ◌∷◌, Option, Some, None, cond, length, map, nat_lt, not, slice_get, slice_set, slice_index_or}
use Rattle.std.specs.List.{filter, position, range_with_len}
use Rattle.std.specs.Option.{option_map}
use Rattle.std.specs.Ordering.{is_lt}
use Rattle.std.specs.FinMap.{get, values}
use Rattle.isa_model.specs.Machine.MapContents.{key_order}
use Rattle.map_indexes.specs.PlaceKeys.{Places}
use Rattle.maps.specs.Maps.{MapState, map_at}
use Rattle.live_maps.specs.declared.place_serials.Since.{Since}
use Rattle.live_maps.specs.declared.place_serials.Since.TheVariants.{Same, Gone, Given, New}
use Rattle.live_maps.specs.Live.{Serials, AreLive}
use Rattle.live_maps.specs.Numbering.{AreDistinct}

-- the places of the keys at the last numbering, in their order, how many there is room for, the
-- serial of the first, and what became of each place since
pub record PlaceOrder : Type 0 where
  pub order : List ℕ
  pub room : ℕ
  pub first : ℕ
  pub since : List Since

-- ---- what became of a place

abbrev pub since_in : List Since → ℕ → Since
since_in since p = slice_index_or since p Same

abbrev pub is_same : Since → Bool
is_same Same = true
is_same s = false

abbrev pub is_same_at : List Since → ℕ → Bool
is_same_at since p = is_same (since_in since p)

abbrev pub is_given : ℕ → Since → Bool
is_given n (Given k) = k == n
is_given n (New k) = k == n
is_given n s = false

abbrev pub given_now : ℕ → Since → Since
given_now n Same = New n
given_now n s = Given n

abbrev pub taken_now : Since → Since
taken_now (New n) = Same
taken_now s = Gone

-- ---- serials

-- the serial of a place since, where it had this one at the last numbering
abbrev pub after : Since → Option ℕ → Option ℕ
after Same o = o
after Gone o = None
after (Given n) o = Some n
after (New n) o = Some n

-- the serial of a place at the last numbering
abbrev pub start_serial : ℕ → List ℕ → ℕ → Option ℕ
start_serial first order p = option_map (λ i. first + i) (position (λ q. q == p) order)

-- the serials of the places from p on
abbrev pub serials_from : (ℕ → Option ℕ) → ℕ → List Since → Serials
serials_from start p [] = []
serials_from start p (s ∷ since) = after s (start p) ∷ serials_from start (p + 1) since

unfoldable pub serials_of : PlaceOrder → Serials
serials_of k = serials_from (start_serial k.first k.order) 0 k.since

abbrev pub serials_in : List PlaceOrder → List Serials
serials_in kept = map serials_of kept

abbrev pub kept_at : List PlaceOrder → ℕ → PlaceOrder
kept_at kept m =
    slice_index_or kept m (record { order = []; room = 0; first = 0; since = [] })

-- a serial that no place has of the last numbering
abbrev pub IsLater : ℕ → PlaceOrder → Type 0
IsLater n k = (p : ℕ) → since_in k.since p ≡ Same → start_serial k.first k.order p ≢ Some n

-- ---- where something became of a value

-- the places that are looked at: those that were noted, or all where no more could be
abbrev pub looked : List ℕ → ℕ → ℕ → List ℕ
looked noted room places = cond (nat_lt (length noted) room) noted (range_with_len 0 places)

-- nothing has become of any value
abbrev pub AllSame : List Since → Type 0
AllSame since = (p : ℕ) → since_in since p ≡ Same

-- places without one of them
abbrev pub places_without : ℕ → List ℕ → List ℕ
places_without place places = filter (λ p. not (p == place)) places

-- among them are those of which something became
abbrev pub AreNoted : List ℕ → ℕ → List Since → Type 0
AreNoted noted room since = (p : ℕ) → since_in since p ≢ Same
    → (i : ℕ) × (slice_get (looked noted room (length since)) i ≡ Some p)

-- the places of new values are not in an order
abbrev pub AreFresh : List Since → List ℕ → Type 0
AreFresh since order = (p n : ℕ) → since_in since p ≡ New n → (i : ℕ) → slice_get order i ≢ Some p

-- no place that a value has gone from has a key
abbrev pub AreGone : List Since → Places → Type 0
AreGone since P = (p : ℕ) → since_in since p ≡ Gone → (key : List ℕ) → get P key ≢ Some p

-- each place that was given a value has a key
abbrev pub HaveCome : List Since → Places → Type 0
HaveCome since P = (p n : ℕ) → after (since_in since p) None ≡ Some n
    → (key : List ℕ) × (get P key ≡ Some p)

-- ---- orders of keys

-- the key of a place is below that of another
abbrev pub IsBefore : Places → ℕ → ℕ → Type 0
IsBefore P p q = (j k : List ℕ) → get P j ≡ Some p → get P k ≡ Some q → is_lt (key_order j k) ≡ true

abbrev pub NotBefore : Places → ℕ → ℕ → Type 0
NotBefore P p q =
    (j k : List ℕ) → get P j ≡ Some p → get P k ≡ Some q → is_lt (key_order j k) ≡ false

-- places of keys, in the order of the keys
pub record IsRising (P : Places) (order : List ℕ) : Type 0 where
  pub keyed : (i p : ℕ) → slice_get order i ≡ Some p → (key : List ℕ) × (get P key ≡ Some p)
  pub rising : (i j p q : ℕ) → i < j → slice_get order i ≡ Some p → slice_get order j ≡ Some q
      → IsBefore P p q

-- places below a limit
abbrev pub ArePlacesBelow : ℕ → List ℕ → Type 0
ArePlacesBelow n order = (i p : ℕ) → slice_get order i ≡ Some p → p < n

-- something became of the value at a place
abbrev pub with_since : PlaceOrder → ℕ → Since → PlaceOrder
with_since k p s = record k { since = slice_set k.since p s }

-- but for the places of which something became, the order is that of the map's keys
pub record IsOrderOf (x : MapState) (k : PlaceOrder) : Type 0 where
  pub long : length k.since ≡ x.row.entries
  pub room : k.room ≡ x.row.entries
  pub distinct : AreDistinct k.order
  pub within : ArePlacesBelow (length k.since) k.order
  pub order : filter (is_same_at k.since) k.order ≡ filter (is_same_at k.since) (values x.places)
  pub fresh : AreFresh k.since k.order
  pub gone : AreGone k.since x.places
  pub came : HaveCome k.since x.places

pub record AreOrdersOf (maps : List MapState) (kept : List PlaceOrder) : Type 0 where
  pub long : length kept ≡ length maps
  pub each : (m : ℕ) → m < length maps → IsOrderOf (map_at maps m) (kept_at kept m)

-- the values of all maps have serials, and these are kept with no room but for them
abbrev pub AreLiveMaps : ℕ → ℕ → List MapState → List PlaceOrder → Type 0
AreLiveMaps serials_room next maps kept =
    (length maps ≤ 2 ^ 16)
    × (serials_room ≡ length maps)
    × (AreLive next maps (serials_in kept))
    × (AreOrdersOf maps kept)
