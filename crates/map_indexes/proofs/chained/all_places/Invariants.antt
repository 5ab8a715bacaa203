use Rattle.std.proofs.Common.{◌≡◌, ℕ, ◌-◌, ◌<◌, length, slice_index_or, vec_capacity}
use Rattle.map_indexes.proofs.chained.all_places.Given as goal

abbrev pub invariant-loop-i : goal.invariant-loop-i
invariant-loop-i l =
    (length l.places.items ≡ l.i)
    × ((j : ℕ) → j < l.i → slice_index_or l.places.items j 0 ≡ l.count - 1 - j)
    × (vec_capacity l.places ≡ l.count)
