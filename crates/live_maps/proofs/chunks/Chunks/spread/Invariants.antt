use Rattle.live_maps.proofs.Common.{◌≡◌, ◌*◌, ◌<◌, ◌≤◌, ℕ, take, length, slice_index_or, concat, IsChunk, lists_of}
use Rattle.live_maps.proofs.RanksLaws.{list_in}
use Rattle.live_maps.proofs.chunks.Chunks.spread.Given as goal

abbrev pub invariant-loop-c : goal.invariant-loop-c
invariant-loop-c l = record {
  count : length l.self.chunks.items ≡ length l.fn.self.chunks.items;
  each : (k : ℕ) (d : _) → k < length l.self.chunks.items
      → IsChunk l.fn.self.room (slice_index_or l.self.chunks.items k d);
  room : l.self.room ≡ l.fn.self.room;
  list : l.self.list ≡ l.fn.self.list;
  starts : l.self.starts ≡ l.fn.self.starts;
  filled : concat (take l.c (lists_of l.self.chunks.items)) ≡ take (l.c * 768) l.fn.self.list.items;
  short : (k : ℕ) → k < l.c → length (list_in (lists_of l.self.chunks.items) k) ≤ 768;
}
