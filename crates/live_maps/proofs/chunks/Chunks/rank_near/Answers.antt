use Rattle.std.proofs.Common.{arith}
use Rattle.live_maps.proofs.ChunkLaws.{found_in}
use Rattle.live_maps.proofs.chunks.Chunks.rank_near.Goals as goal

pub returns-in_ok-i : goal.returns-in_ok-i
returns-in_ok-i c =
    let less = c.if-c-len.true in
    let count = c.len.ensures in
    let vector = c.args.self.now.chunks.ok.0 in
    found_in c.args.self.now c.in_ok-c.c c.in_ok-i.i c.index-then-c-len.result.now c.args.place
    c.index.result.now c.requires (omega arith) c.index.ensures c.index-then-c-len.ensures
    c.in_ok-i.ensures.found
