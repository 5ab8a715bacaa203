use Rattle.live_maps.proofs.Common.{◌≡◌, ◌<◌, ℕ, length, vec_len, vec_capacity, map_at, IsOrderOf, kept_at}
use Rattle.live_maps.proofs.serials.serials_for.Given as goal

abbrev pub invariant-loop-m : goal.invariant-loop-m
invariant-loop-m l = record {
  len : vec_len l.all ≡ l.m;
  room : vec_capacity l.all ≡ length l.maps;
  kept : (k : ℕ) → k < l.m → IsOrderOf (map_at l.maps k) (kept_at l.all.items k);
}
