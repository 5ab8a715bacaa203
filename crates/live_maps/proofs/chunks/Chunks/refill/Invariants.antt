use Rattle.std.proofs.Common.{◌≡◌, take, vec_capacity, vec_len}
use Rattle.live_maps.proofs.chunks.Chunks.refill.Given as goal

abbrev pub invariant-loop-place : goal.invariant-loop-place
invariant-loop-place l = record {
  chunks : l.self.chunks ≡ l.fn.self.chunks;
  starts : l.self.starts ≡ l.fn.self.starts;
  room : l.self.room ≡ l.fn.self.room;
  capacity : vec_capacity l.self.list ≡ vec_capacity l.fn.self.list;
  list : l.self.list.items ≡ take l.place-index l.places;
  len : vec_len l.self.list ≡ l.place-index;
}
