use Rattle.live_maps.proofs.Common.{◌≡◌, ◌≤◌, take, vec_capacity, concat, lists_of}
use Rattle.live_maps.proofs.chunks.Chunks.respread.Given as goal

abbrev pub invariant-loop-c : goal.invariant-loop-c
invariant-loop-c l = record {
  chunks : l.self.chunks ≡ l.fn.self.chunks;
  starts : l.self.starts ≡ l.fn.self.starts;
  room : l.self.room ≡ l.fn.self.room;
  capacity : l.fn.self.room ≤ vec_capacity l.self.list;
  list : l.self.list.items ≡ concat (take l.c (lists_of l.fn.self.chunks.items));
}
