use Rattle.live_maps.proofs.Common.{◌≡◌, ◌+◌, ◌-◌, ◌<◌, ◌≤◌, ℕ, List, Bool, length, refl, ap, ◌∙◌, arith, if◌then◌else◌, slice_index_or, slice_set, insert, with_items_is, length-insert, IsChunk, all_places}
use Rattle.live_maps.proofs.ChunkLaws.{AreChunks-set, begin-set, chunk-few, chunk_read, list_read, put_in, spot_in}
use Rattle.live_maps.proofs.chunks.Chunks.insert.Goals as goal
use Rattle.live_maps.proofs.chunks.Chunks.insert.Goals.{After-index_mut, After-insert-put}

-- where in its chunk the place is put, and that there is room
spot : (c : After-index_mut) → (c.index.result.now + (c.args.rank - c.index.result.now)
    ≡ c.args.rank) × (c.args.rank - c.index.result.now ≤ length c.index_mut.result.now.items)
    × (length c.index_mut.result.now.items < 1024)
    × (length c.index_mut.result.now.items < c.open_chunk-c.new.self.room)
    × IsChunk c.open_chunk-c.new.self.room c.index_mut.result.now
spot c =
    let k = c.open_chunk-c.new.self in
    let q = c.index_mut.result.now in
    let h = c.open_chunk-c.ensures.chunks in
    let inside = c.open_chunk-c.ensures.spot.inside in
    let i = spot_in k c.args.rank c.open_chunk-c.result c.index.result.now q h
    c.open_chunk-c.ensures.spot c.index_mut.ensures.value c.index.ensures in
    let low = i.1 in
    let short = c.open_chunk-c.ensures.short in
    let here = ap length (list_read k.chunks.items c.open_chunk-c.result q inside
    c.index_mut.ensures.value) in
    let few = chunk-few k.chunks.items c.open_chunk-c.result q inside c.index_mut.ensures.value in
    let all = ap length c.open_chunk-c.ensures.same.0 in
    let room = c.open_chunk-c.ensures.same.1 in
    let least = c.requires.few in (
      omega arith,
      i.2,
      omega arith,
      omega arith,
      chunk_read k c.open_chunk-c.result q h inside c.index_mut.ensures.value,
    )

pub insert-put-requires : goal.insert-put-requires
insert-put-requires c =
    let s = spot (goal.at.insert-put-requires c).After-index_mut in
    let inside = s.1 in
    let vector = c.index_mut.result.now.ok.0 in
    omega arith

-- the chunk with the place
put : (c : After-insert-put)
    → length c.index_mut.result.now.items < 1024
    → length c.index_mut.result.now.items < c.open_chunk-c.new.self.room
    → IsChunk c.open_chunk-c.new.self.room c.index_mut.result.now
    → c.insert-put.new.self.items ≡ insert c.index_mut.result.now.items
    (c.args.rank - c.index.result.now) c.args.place
put c short few is =
    let q = c.index_mut.result.now in
    let room = is.capacity in
    let vector = q.ok.0 in
    c.insert-put.ensures.items
    ∙ ap (λ (b : Bool). if b then insert q.items (c.args.rank - c.index.result.now) c.args.place
    else q.items) (c.insert-put.ensures.succeeds (omega arith))

-- the places with one more
placed : (c : After-insert-put) → (c.index.result.now + (c.args.rank - c.index.result.now)
    ≡ c.args.rank) → c.args.rank - c.index.result.now ≤ length c.index_mut.result.now.items
    → length c.index_mut.result.now.items < 1024
    → length c.index_mut.result.now.items < c.open_chunk-c.new.self.room
    → IsChunk c.open_chunk-c.new.self.room c.index_mut.result.now
    → all_places (slice_set c.open_chunk-c.new.self.chunks.items c.open_chunk-c.result
    c.insert-put.new.self) ≡ insert (all_places c.args.self.now.chunks.items) c.args.rank c.args.place
placed c at inside short few is =
    let k = c.open_chunk-c.new.self in
    let q = c.index_mut.result.now in
    let spot_at = c.open_chunk-c.ensures.spot in
    let first = (spot_in k c.args.rank c.open_chunk-c.result c.index.result.now q
    c.open_chunk-c.ensures.chunks spot_at c.index_mut.ensures.value c.index.ensures).0 in
    put_in k.chunks.items c.open_chunk-c.result (c.args.rank - c.index.result.now) c.args.place
    c.args.rank q c.insert-put.new.self spot_at.inside c.index_mut.ensures.value inside
    (put c short few is) (omega arith)
    ∙ ap (λ (xs : List ℕ). insert xs c.args.rank c.args.place) c.open_chunk-c.ensures.same.0

pub set_starts-requires-clause-few : goal.set_starts-requires-clause-few
set_starts-requires-clause-few c =
    let w = goal.at.set_starts-requires-clause-few c in
    let s = spot w.After-index_mut in
    let all = ap length (placed w.After-insert-put s.0 s.1 s.2 s.3 s.4) in
    let rank = c.requires.rank in
    let one = length-insert (all_places c.args.self.now.chunks.items) c.args.rank c.args.place rank in
    let few = c.requires.few in
    let small = c.requires.chunks.small in
    omega arith

pub set_starts-requires-clause-before : goal.set_starts-requires-clause-before
set_starts-requires-clause-before c k m =
    ap (λ (xs : List ℕ). slice_index_or xs k 0) c.as_mut_slice.ensures.value
    ∙ begin-set c.open_chunk-c.new.self.chunks.items c.open_chunk-c.new.self.starts.items
    c.open_chunk-c.result c.insert-put.new.self c.open_chunk-c.ensures.chunks.begin
    c.open_chunk-c.ensures.spot.inside k m

pub returns-clause-chunks : goal.returns-clause-chunks
returns-clause-chunks c =
    let w = goal.at.returns-clause-chunks c in
    let s = spot w.After-index_mut in
    let k = c.open_chunk-c.new.self in
    let h = c.open_chunk-c.ensures.chunks in
    let at : ℕ = c.args.rank - c.index.result.now in
    let all = ap length (placed w.After-insert-put s.0 s.1 s.2 s.3 s.4) in
    let rank = c.requires.rank in
    let one = length-insert (all_places c.args.self.now.chunks.items) c.args.rank c.args.place rank in
    let few = c.requires.few in
    let same = c.open_chunk-c.ensures.same.1 in
    let items = ap length (put w.After-insert-put s.2 s.3 s.4) in
    let more = length-insert c.index_mut.result.now.items at c.args.place s.1 in
    let short = s.2 in
    let room = s.4.capacity in
    let capacity = c.insert-put.ensures.capacity in
    let starts = k.starts.ok.0 in
    let slice = ap length c.as_mut_slice.ensures.value in
    let long = c.set_starts.ensures.long in
    let chunk : IsChunk k.room c.insert-put.new.self =
    record { most = omega arith; capacity = omega arith } in
    AreChunks-set k _ c.open_chunk-c.result c.insert-put.new.self c.set_starts.new.starts h
    c.open_chunk-c.ensures.spot.inside refl chunk refl h.listed (omega arith)
    (with_items_is k.starts c.set_starts.new.starts (omega arith)) (omega arith)
    c.set_starts.ensures.begin

pub returns-clause-places : goal.returns-clause-places
returns-clause-places c =
    let w = goal.at.returns-clause-places c in
    let s = spot w.After-index_mut in
    placed w.After-insert-put s.0 s.1 s.2 s.3 s.4
