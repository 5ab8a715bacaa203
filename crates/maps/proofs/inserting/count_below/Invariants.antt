use Rattle.std.proofs.Common.{ℕ, ◌<◌, ◌≤◌, ◌-◌, length}
use Rattle.maps.proofs.InsertLaws.{IsBelow, key_at}
use Rattle.maps.proofs.inserting.count_below.Given as goal

abbrev pub invariant-loop-low : goal.invariant-loop-low
invariant-loop-low l = record {
  order : l.low ≤ l.high;
  inside : l.high ≤ length l.list;
  below : (j : ℕ) → j < l.low → IsBelow (key_at l.index.keys.by_place l.key j) l.key;
  after : (j : ℕ) → l.high ≤ j → j < length l.list
      → IsBelow l.key (key_at l.index.keys.by_place l.key j);
}

abbrev pub decreases-loop-low : goal.decreases-loop-low
decreases-loop-low l = l.high - l.low
