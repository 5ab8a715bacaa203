use Rattle.std.proofs.Common.{◌-◌, arith}
use Rattle.live_maps.proofs.ChunkLaws.{last_ends}
use Rattle.live_maps.proofs.chunks.Chunks.len.Goals as goal

pub returns : goal.returns
returns c =
    let k = c.args.self.now in
    let count = c.len-last.ensures in
    let chunks = k.chunks.ok.0 in
    let some = c.requires.count in
    let vector = c.index-2.result.now.ok.0 in
    let long = c.len.ensures in
    let ends = last_ends k (c.len-last.result - 1) c.index.result.now c.index-2.result.now c.requires
    (omega arith) c.index-2.ensures c.index.ensures in
    omega arith
