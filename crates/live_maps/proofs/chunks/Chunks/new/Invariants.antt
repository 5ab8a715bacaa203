use Rattle.live_maps.proofs.Common.{◌≡◌, ◌<◌, [], ℕ, slice_index_or, vec_len, vec_capacity, IsChunk, all_places}
use Rattle.live_maps.proofs.chunks.Chunks.new.Given as goal

abbrev pub invariant-loop-c : goal.invariant-loop-c
invariant-loop-c l = record {
  len : vec_len l.chunks ≡ l.c;
  capacity : vec_capacity l.chunks ≡ l.count;
  each : (k : ℕ) (d : _) → k < l.c → IsChunk l.room (slice_index_or l.chunks.items k d);
  places : all_places l.chunks.items ≡ [];
}
