use Rattle.map_indexes.proofs.Common.{◌≡◌, vec_capacity, range_with_len}
use Rattle.map_indexes.proofs.arrays.ArrayIndex.list_indexes.Given as goal

abbrev pub invariant-loop-i : goal.invariant-loop-i
invariant-loop-i l =
    (l.list.items ≡ range_with_len 0 l.i) × (vec_capacity l.list ≡ vec_capacity l.initial.list)
