use Rattle.live_maps.proofs.Common.{◌≡◌, ◌+◌, ◌-◌, ◌<◌, ◌≤◌, ℕ, List, [], Bool, Some, length, refl, sym, ap, subst, ◌∙◌, arith, if◌then◌else◌, slice_index_or, slice_set, vec_len, insert, Global, Vec, get_or_append_left, length-append, length-set, nil_from_length, with_items_is, length-insert, IsChunk, all_places}
use Rattle.live_maps.proofs.ChunkLaws.{AreChunks-by, all_places-push, chunk-few, chunk_read, halved_in, insert_holds, popped, set_holds}
use Rattle.live_maps.proofs.chunks.Chunks.halve.Goals as goal
use Rattle.live_maps.proofs.chunks.Chunks.halve.Goals.{After-index_mut, After-insert-put}

-- the chunk that is halved
full : (c : After-index_mut) → (c.args.c < length c.pop.new.self.items)
    × (c.index_mut.result.now ≡ slice_index_or c.args.self.now.chunks.items c.args.c
    c.index_mut.result.now) × IsChunk c.args.self.now.room c.index_mut.result.now
    × (length c.index_mut.result.now.items ≤ c.args.self.now.room)
full c =
    let k = c.args.self.now in
    let q = c.index_mut.result.now in
    let rest = c.pop.new.self.items in
    let p = popped k rest c.in-Some.spare c.requires.chunks c.in-Some.ensures.items in
    let one = p.2 in
    let other = c.if-c-last.false in
    let count = c.len-last.ensures in
    let vector = k.chunks.ok.0 in
    let within = c.requires.inside in
    let inside : c.args.c < length rest = omega arith in
    let read : q ≡ slice_index_or k.chunks.items c.args.c q =
    c.index_mut.ensures.value ∙ sym (get_or_append_left rest _ q c.args.c inside)
    ∙ sym (ap (λ (qs : List (Vec ℕ Global)). slice_index_or qs c.args.c q) c.in-Some.ensures.items) in
    let few = chunk-few k.chunks.items c.args.c q within read in
    let all = c.requires.chunks.few in
    (inside, read, chunk_read k c.args.c q c.requires.chunks within read, omega arith)

pub halve-requires-clause-room : goal.halve-requires-clause-room
halve-requires-clause-room c =
    let k = c.args.self.now in
    let f = full (goal.at.halve-requires-clause-room c).After-index_mut in
    let p = popped k c.pop.new.self.items c.in-Some.spare c.requires.chunks c.in-Some.ensures.items in
    let room = p.0.capacity in
    let most = f.2.most in
    let few = f.3 in
    omega arith

-- the last chunk had no place
none : (c : After-index_mut) → c.in-Some.spare.items ≡ []
none c =
    let chunks = c.args.self.now.chunks.items in
    let q = c.index.result.now in
    let count = c.len-last.ensures in
    let vector = c.args.self.now.chunks.ok.0 in
    let within = c.requires.inside in
    let value = c.in-Some.ensures.value q (omega arith) in
    let at : vec_len c.args.self.now.chunks - 1 ≡ c.len-last.result - 1 = omega arith in
    let same : Some c.in-Some.spare ≡ Some q =
    value ∙ ap (λ (j : ℕ). Some (slice_index_or chunks j q)) at ∙ ap Some (sym c.index.ensures) in
    let is : c.in-Some.spare ≡ q = cc in
    let empty : vec_len q ≡ 0 = grind (arith, c.is_empty.ensures, c.if-not-is_empty.false) in
    let list = q.ok.0 in
    ap (λ (v : Vec ℕ Global). v.items) is ∙ nil_from_length q.items (omega arith)

-- it is put behind the one that is halved
inserted : (c : After-insert-put) → c.insert-put.new.self.items
    ≡ insert (slice_set c.pop.new.self.items c.args.c c.halve.new.full) (c.args.c + 1)
    c.halve.new.spare
inserted c =
    let k = c.args.self.now in
    let last = c.in-Some.ensures.len in
    let room = c.in-Some.ensures.capacity in
    let most = k.chunks.ok.1 in
    c.insert-put.ensures.items
    ∙ ap (λ (b : Bool). if b then insert (slice_set c.pop.new.self.items c.args.c c.halve.new.full)
    (c.args.c + 1) c.halve.new.spare else slice_set c.pop.new.self.items c.args.c c.halve.new.full)
    (c.insert-put.ensures.succeeds (omega arith))

-- the places are the same
same : (c : After-insert-put) → c.args.c < length c.pop.new.self.items → c.in-Some.spare.items ≡ []
    → all_places c.insert-put.new.self.items ≡ all_places c.args.self.now.chunks.items
same c inside empty =
    let rest = c.pop.new.self.items in
    ap all_places (inserted c)
    ∙ halved_in rest c.args.c c.index_mut.result.now c.halve.new.full c.halve.new.spare
    inside c.index_mut.ensures.value c.halve.ensures.halves
    ∙ sym (ap all_places c.in-Some.ensures.items ∙ all_places-push rest c.in-Some.spare empty)

pub set_starts-requires-clause-few : goal.set_starts-requires-clause-few
set_starts-requires-clause-few c =
    let w = goal.at.set_starts-requires-clause-few c in
    let all = ap length (same w.After-insert-put (full w.After-index_mut).0 (none w.After-index_mut)) in
    let few = c.requires.chunks.few in
    let small = c.requires.chunks.small in
    omega arith

pub returns-in-Some-clause-chunks : goal.returns-in-Some-clause-chunks
returns-in-Some-clause-chunks c =
    let w = (goal.at.returns-in-Some-clause-chunks c).After-insert-put in
    let k = c.args.self.now in
    let h = c.requires.chunks in
    let rest = c.pop.new.self.items in
    let now = c.insert-put.new.self.items in
    let f = full (goal.at.returns-in-Some-clause-chunks c).After-index_mut in
    let p = popped k rest c.in-Some.spare h c.in-Some.ensures.items in
    let inside = f.0 in
    let one = p.2 in
    let all = ap length (same w inside (none (goal.at.returns-in-Some-clause-chunks c).After-index_mut)) in
    let few = h.few in
    let halves = ap length c.halve.ensures.halves in
    let parts = length-append c.halve.new.full.items c.halve.new.spare.items in
    let most = f.2.most in
    let room = f.2.capacity in
    let capacity = c.halve.ensures.capacity in
    let spare_room = p.0.capacity in
    let spare = c.halve.ensures.spare in
    let first : IsChunk k.room c.halve.new.full =
    record { most = omega arith; capacity = omega arith } in
    let second : IsChunk k.room c.halve.new.spare =
    record { most = omega arith; capacity = omega arith } in
    let set = length-set rest c.args.c c.halve.new.full in
    let more = length-insert (slice_set rest c.args.c c.halve.new.full) (c.args.c + 1)
    c.halve.new.spare (omega arith) in
    let count = ap length (inserted w) in
    let starts = k.starts.ok.0 in
    let slice = ap length c.as_mut_slice.ensures.value in
    let long = c.set_starts.ensures.long in
    AreChunks-by k _ now c.set_starts.new.starts h refl (omega arith)
    (λ j d m.
    subst (λ (qs : List (Vec ℕ Global)). IsChunk k.room (slice_index_or qs j d)) (sym (inserted w))
    (insert_holds (λ (x : Vec ℕ Global). IsChunk k.room x)
    (slice_set rest c.args.c c.halve.new.full) (c.args.c + 1) c.halve.new.spare (omega arith) second
    (λ i e n. set_holds (λ (x : Vec ℕ Global). IsChunk k.room x) rest c.args.c c.halve.new.full
    inside first p.1 i e (omega arith)) j d (omega arith)))
    refl h.listed (omega arith) (with_items_is k.starts c.set_starts.new.starts (omega arith))
    (omega arith) c.set_starts.ensures.begin

pub returns-in-Some-clause-same : goal.returns-in-Some-clause-same
returns-in-Some-clause-same c =
    let w = goal.at.returns-in-Some-clause-same c in
    (same w.After-insert-put (full w.After-index_mut).0 (none w.After-index_mut), refl)
