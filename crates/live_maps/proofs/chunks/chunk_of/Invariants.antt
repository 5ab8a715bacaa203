use Rattle.std.proofs.Common.{◌-◌, ◌<◌, ◌≤◌, length, slice_index_or}
use Rattle.live_maps.proofs.chunks.chunk_of.Given as goal

abbrev pub invariant-loop-low : goal.invariant-loop-low
invariant-loop-low l = record {
  below : l.low < l.high;
  inside : l.high ≤ length l.starts;
  low : slice_index_or l.starts l.low 0 ≤ l.rank;
  high : l.high < length l.starts → l.rank < slice_index_or l.starts l.high 0;
}

abbrev pub decreases-loop-low : goal.decreases-loop-low
decreases-loop-low l = l.high - l.low
