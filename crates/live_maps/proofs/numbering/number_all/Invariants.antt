use Rattle.live_maps.proofs.Common.{◌≡◌, ◌<◌, ◌≤◌, ◌*◌, ℕ, vec_capacity, values, map_at, serials_at, AreOrdersOf, serials_in, NumbersAll, count_before}
use Rattle.isa_model.specs.Code.Limits.{max_map_entries}
use Rattle.live_maps.proofs.numbering.number_all.Given as goal

abbrev pub invariant-loop-m : goal.invariant-loop-m
invariant-loop-m l = record {
  room : vec_capacity l.all ≡ vec_capacity l.initial.all;
  kept : AreOrdersOf l.maps l.all.items;
  numbers : (k : ℕ) → k < l.m → NumbersAll (count_before l.maps k) (values (map_at l.maps k).places)
      (serials_at (serials_in l.all.items) k);
  next : l.next ≡ count_before l.maps l.m;
  few : l.next ≤ l.m * max_map_entries;
}
