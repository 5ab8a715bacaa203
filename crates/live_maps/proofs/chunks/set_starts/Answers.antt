use Rattle.live_maps.proofs.Common.{◌≡◌, ◌+◌, ◌-◌, ◌<◌, ◌≤◌, length, ap, ◌∙◌, arith, slice_index_or, length-set, all_places, count_to, lists_of}
use Rattle.live_maps.proofs.ChunkLaws.{begin_next, chunk-few, length-lists, list_read}
use Rattle.live_maps.proofs.RanksLaws.{list_in}
use Rattle.live_maps.proofs.chunks.set_starts.Goals as goal
use Rattle.live_maps.proofs.chunks.set_starts.Goals.{After-len}

-- the chunk before, and the rank at which this one begins
before : (c : After-len) → (c.loop-c.c - 1 < length c.args.chunks.now.items)
    × (length (list_in (lists_of c.args.chunks.now.items) (c.loop-c.c - 1)) ≡ c.len.result)
    × (slice_index_or c.loop-c.starts (c.loop-c.c - 1) 0
    ≡ count_to (lists_of c.args.chunks.now.items) (c.loop-c.c - 1))
    × (count_to (lists_of c.args.chunks.now.items) (c.loop-c.c - 1) + c.len.result
    ≤ length (all_places c.args.chunks.now.items))
before c =
    let chunks = c.args.chunks.now.items in
    let q = c.index.result.now in
    let less = c.loop-c-test.true in
    let from = c.loop-c.auto.c in
    let some = c.requires.from in
    let count = c.len-c-end.ensures in
    let vector = c.args.chunks.now.ok.0 in
    let long = c.len.ensures in
    let list = q.ok.0 in
    let inside : c.loop-c.c - 1 < length chunks = omega arith in
    let few = chunk-few chunks (c.loop-c.c - 1) q inside c.index.ensures in (
      inside,
      ap length (list_read chunks (c.loop-c.c - 1) q inside c.index.ensures) ∙ omega arith,
      c.loop-c.invariant.begin (c.loop-c.c - 1) (omega arith),
      omega arith,
    )

pub overflow_cast-starts : goal.overflow_cast-starts
overflow_cast-starts c =
    let b = before (goal.at.overflow_cast-starts c).After-len in
    let most = b.3 in
    let few = c.requires.few in
    omega arith

pub overflow_add-starts : goal.overflow_add-starts
overflow_add-starts c =
    let b = before (goal.at.overflow_add-starts c).After-len in
    let first = b.2 in
    let most = b.3 in
    let few = c.requires.few in
    omega arith

pub loop-c-preserved : goal.loop-c-preserved
loop-c-preserved c =
    let b = before (goal.at.loop-c-preserved c).After-len in
    let chunks = c.args.chunks.now.items in
    let long = c.loop-c.invariant.long in
    let same = length-lists chunks in
    let less = c.loop-c-test.true in
    let from = c.loop-c.auto.c in
    let some = c.requires.from in
    let count = c.len-c-end.ensures in
    let vector = c.args.chunks.now.ok.0 in
    let list = b.1 in
    record {
      long = length-set c.loop-c.starts c.loop-c.c _ ∙ long;
      begin = begin_next (lists_of chunks) c.loop-c.starts c.loop-c.c _ (omega arith) (omega arith)
          (omega arith) c.loop-c.invariant.begin (omega arith);
    }
