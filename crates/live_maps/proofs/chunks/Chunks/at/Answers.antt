use Rattle.std.proofs.Common.{arith}
use Rattle.live_maps.proofs.ChunkLaws.{got_in, in_chunk}
use Rattle.live_maps.proofs.chunks.Chunks.at.Goals as goal

pub index-requires-3 : goal.index-requires-3
index-requires-3 c =
    let i = in_chunk c.args.self.now c.args.rank c.chunk_with-c.result c.index-2.result.now
    c.index.result.now c.requires.chunks c.chunk_with-c.ensures c.index.ensures c.index-2.ensures in
    let inside = i.2 in
    let vector = c.index.result.now.ok.0 in
    omega arith

pub returns : goal.returns
returns c =
    got_in c.args.self.now c.args.rank c.chunk_with-c.result c.index-2.result.now
    c.index-3.result.now c.index.result.now c.requires.chunks c.chunk_with-c.ensures c.index.ensures
    c.index-2.ensures c.index-3.ensures
