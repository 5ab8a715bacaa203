use Rattle.live_maps.proofs.Common.{◌≡◌, length, vec_capacity, filter, values, map_at, AreGone, HaveCome, is_same_at, looked}
use Rattle.live_maps.proofs.ReorderLaws.{IsLeft}
use Rattle.live_maps.proofs.reordering.put_in.Given as goal

abbrev pub invariant-loop-i : goal.invariant-loop-i
invariant-loop-i l = record {
  order : l.ranks.places ≡ filter (is_same_at l.since) (values (map_at l.maps l.map).places);
  gone : AreGone l.since (map_at l.maps l.map).places;
  come : HaveCome l.since (map_at l.maps l.map).places;
  left : IsLeft (looked l.noted.items (vec_capacity l.noted) (length l.initial.since)) l.i l.since;
  room : l.ranks.room ≡ l.fn.ranks.room;
}
