use Rattle.live_maps.proofs.Common.{◌≡◌, ◌+◌, ◌-◌, ℕ, List, length, refl, ap, ◌∙◌, arith, slice_index_or, slice_set, remove, with_items_is, length-remove, IsChunk, all_places}
use Rattle.live_maps.proofs.ChunkLaws.{AreChunks-set, begin-set, chunk_read, in_chunk, taken_out}
use Rattle.live_maps.proofs.chunks.Chunks.remove.Goals as goal
use Rattle.live_maps.proofs.chunks.Chunks.remove.Goals.{After-remove-place}

pub remove-place-requires : goal.remove-place-requires
remove-place-requires c =
    let i = in_chunk c.args.self.now c.args.rank c.chunk_with-c.result c.index.result.now
    c.index_mut.result.now c.requires.chunks c.chunk_with-c.ensures c.index_mut.ensures.value
    c.index.ensures in
    let inside = i.2 in
    let vector = c.index_mut.result.now.ok.0 in
    omega arith

-- the places without the one at the rank
taken : (c : After-remove-place)
    → all_places (slice_set c.args.self.now.chunks.items c.chunk_with-c.result
    c.remove-place.new.self) ≡ remove (all_places c.args.self.now.chunks.items) c.args.rank
taken c =
    let i = in_chunk c.args.self.now c.args.rank c.chunk_with-c.result c.index.result.now
    c.index_mut.result.now c.requires.chunks c.chunk_with-c.ensures c.index_mut.ensures.value
    c.index.ensures in
    let first = i.0 in
    let low = i.1 in
    taken_out c.args.self.now.chunks.items c.chunk_with-c.result
    (c.args.rank - c.index.result.now) c.args.rank c.index_mut.result.now c.remove-place.new.self
    c.chunk_with-c.ensures.inside c.index_mut.ensures.value i.2 c.remove-place.ensures.items
    (omega arith)

-- there is one place less
less : (c : After-remove-place)
    → length (all_places (slice_set c.args.self.now.chunks.items c.chunk_with-c.result
    c.remove-place.new.self)) + 1 ≡ length (all_places c.args.self.now.chunks.items)
less c =
    let rank = c.requires.rank in
    let one = length-remove (all_places c.args.self.now.chunks.items) c.args.rank rank in
    let now = ap length (taken c) in
    omega arith

pub set_starts-requires-clause-few : goal.set_starts-requires-clause-few
set_starts-requires-clause-few c =
    let one = less (goal.at.set_starts-requires-clause-few c).After-remove-place in
    let few = c.requires.chunks.few in
    let small = c.requires.chunks.small in
    omega arith

pub set_starts-requires-clause-before : goal.set_starts-requires-clause-before
set_starts-requires-clause-before c k m =
    ap (λ (xs : List ℕ). slice_index_or xs k 0) c.as_mut_slice.ensures.value
    ∙ begin-set c.args.self.now.chunks.items c.args.self.now.starts.items c.chunk_with-c.result
    c.remove-place.new.self c.requires.chunks.begin c.chunk_with-c.ensures.inside k m

pub returns-clause-chunks : goal.returns-clause-chunks
returns-clause-chunks c =
    let w = (goal.at.returns-clause-chunks c).After-remove-place in
    let k = c.args.self.now in
    let h = c.requires.chunks in
    let one = less w in
    let few = h.few in
    let was = chunk_read k c.chunk_with-c.result c.index_mut.result.now h
    c.chunk_with-c.ensures.inside c.index_mut.ensures.value in
    let most = was.most in
    let room = was.capacity in
    let done = c.remove-place.ensures in
    let len = done.len in
    let capacity = done.capacity in
    let old = c.index_mut.result.now.ok.0 in
    let new = c.remove-place.new.self.ok.0 in
    let starts = k.starts.ok.0 in
    let slice = ap length c.as_mut_slice.ensures.value in
    let long = c.set_starts.ensures.long in
    let chunk : IsChunk k.room c.remove-place.new.self =
    record { most = omega arith; capacity = omega arith } in
    AreChunks-set k _ c.chunk_with-c.result c.remove-place.new.self c.set_starts.new.starts h
    c.chunk_with-c.ensures.inside refl chunk refl h.listed (omega arith)
    (with_items_is k.starts c.set_starts.new.starts (omega arith)) (omega arith)
    c.set_starts.ensures.begin

pub returns-clause-places : goal.returns-clause-places
returns-clause-places c = taken (goal.at.returns-clause-places c).After-remove-place
