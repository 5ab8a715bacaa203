use Rattle.live_maps.proofs.ChunkLaws.{Nowhere}
use Rattle.live_maps.proofs.chunks.Chunks.rank_far.Given as goal

abbrev pub invariant-loop-c : goal.invariant-loop-c
invariant-loop-c l = Nowhere l.c l.place l.self.chunks.items
