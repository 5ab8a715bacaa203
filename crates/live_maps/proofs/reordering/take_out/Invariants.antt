use Rattle.live_maps.proofs.Common.{◌≡◌, length, vec_capacity, filter, AreFresh, is_same_at, looked, AreDistinct}
use Rattle.live_maps.proofs.ReorderLaws.{AreOut}
use Rattle.live_maps.proofs.reordering.take_out.Given as goal

abbrev pub invariant-loop-i : goal.invariant-loop-i
invariant-loop-i l = record {
  same : filter (is_same_at l.since) l.ranks.places ≡ filter (is_same_at l.since) l.fn.ranks.places;
  distinct : AreDistinct l.ranks.places;
  fresh : AreFresh l.since l.ranks.places;
  out : AreOut (looked l.noted.items (vec_capacity l.noted) (length l.since)) l.i l.since
      l.ranks.places;
  room : l.ranks.room ≡ l.fn.ranks.room;
}
