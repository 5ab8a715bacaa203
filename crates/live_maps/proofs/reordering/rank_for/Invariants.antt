use Rattle.live_maps.proofs.Common.{◌≡◌, ◌<◌, ◌≤◌, ◌-◌, ℕ, Some, length, slice_get, map_at, IsBefore, NotBefore}
use Rattle.live_maps.proofs.reordering.rank_for.Given as goal

abbrev pub invariant-loop-low : goal.invariant-loop-low
invariant-loop-low l = record {
  order : l.low ≤ l.high;
  inside : l.high ≤ length l.ranks.places;
  below : (i p : ℕ) → i < l.low → slice_get l.ranks.places i ≡ Some p
      → IsBefore (map_at l.maps l.map).places p l.place;
  after : (i p : ℕ) → l.high ≤ i → slice_get l.ranks.places i ≡ Some p
      → NotBefore (map_at l.maps l.map).places p l.place;
}

abbrev pub decreases-loop-low : goal.decreases-loop-low
decreases-loop-low l = l.high - l.low
