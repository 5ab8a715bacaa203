use Rattle.map_indexes.proofs.Common.{◌≡◌, ◌≤◌, length, take, vec_capacity, used_places}
use Rattle.map_indexes.proofs.chained.ChainIndex.list_used.Given as goal

abbrev pub invariant-loop-i : goal.invariant-loop-i
invariant-loop-i l = record {
  places : l.list.items ≡ used_places 0 (take l.i l.self.keys.by_place);
  few : length l.list.items ≤ l.i;
  capacity : vec_capacity l.list ≡ vec_capacity l.fn.list;
}
