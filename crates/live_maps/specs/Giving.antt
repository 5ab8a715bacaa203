-- A place that is given the next serial, and one whose serial is taken away, if there is one.
use Rattle.std.specs.Prelude.{◌≡◌, ◌+◌, ℕ, List, Option, Some, None, slice_set}
use Rattle.live_maps.specs.Live.{serials_at}
use Rattle.live_maps.specs.PlaceOrders.{PlaceOrder, given_now, kept_at, serials_in, since_in, taken_now, with_since}

-- the serials afterwards, what is kept of the maps, and the serial that is next
abbrev pub GivesSerial : ℕ → Option ℕ → ℕ → ℕ → List PlaceOrder → List PlaceOrder → Type 0
GivesSerial m None next more old new = (new ≡ old) × (more ≡ next)
GivesSerial m (Some p) next more old new =
    (serials_in new ≡ slice_set (serials_in old) m
    (slice_set (serials_at (serials_in old) m) p (Some next)))
    × (new ≡ slice_set old m (with_since (kept_at old m) p
    (given_now next (since_in (kept_at old m).since p))))
    × (more ≡ next + 1)

abbrev pub TakesSerial : ℕ → Option ℕ → List PlaceOrder → List PlaceOrder → Type 0
TakesSerial m None old new = new ≡ old
TakesSerial m (Some p) old new =
    (serials_in new ≡ slice_set (serials_in old) m
    (slice_set (serials_at (serials_in old) m) p None))
    × (new ≡ slice_set old m (with_since (kept_at old m) p
    (taken_now (since_in (kept_at old m).since p))))
