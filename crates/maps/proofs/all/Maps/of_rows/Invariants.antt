use Rattle.maps.proofs.Common.{◌≡◌, length, map, take, All, vec_capacity, places_of, starting_map, state_by, IsListed}
use Rattle.maps.proofs.all.Maps.of_rows.Given as goal

abbrev pub invariant-loop-i : goal.invariant-loop-i
invariant-loop-i l = record {
  made : map (state_by places_of) l.stores.items ≡ map starting_map (take l.i l.rows);
  count : length l.stores.items ≡ l.i;
  room : vec_capacity l.stores ≡ length l.rows;
  listed : All (IsListed (vec_capacity l.list)) l.stores.items;
}
