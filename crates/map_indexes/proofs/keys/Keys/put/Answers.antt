use Rattle.map_indexes.proofs.Common.{◌≡◌, ℕ, ◌<◌, List, length, ap, sym, ◌∙◌, arith, true, slice_set, Some, with_block_row, row_end, length-with_block_row, KeysByPlace, keys_by_place}
use Rattle.map_indexes.proofs.KeyLaws.{keys_by_place-put}
use Rattle.map_indexes.proofs.KeyLemmas.{block_places, lent_whole}
use Rattle.map_indexes.proofs.keys.Keys.put.Goals as goal

pub overflow_mul-start : goal.overflow_mul-start
overflow_mul-start c =
    let k = c.self.inside in
    let e = block_places k.size k.block.items k.used.items c.args.self.now c.self.view_is in
    let p = c.requires.place in
    let h = row_end c.args.place (length k.used.items) k.size (omega arith) in
    let i = c.self.invariant.0 in
    let f = k.block.ok.0 in
    let g = k.block.small in
    omega arith

pub put_bytes-requires : goal.put_bytes-requires
put_bytes-requires c =
    let k = c.self.inside in
    let e = block_places k.size k.block.items k.used.items c.args.self.now c.self.view_is in
    let p = c.requires.place in
    let h = row_end c.args.place (length k.used.items) k.size (omega arith) in
    let i = c.self.invariant.0 in
    let s = c.requires.size ∙ sym (ap (λ (t : KeysByPlace). t.size) c.self.view_is) in
    let v = ap length c.as_mut_slice.ensures.value in
    omega arith

pub index_mut-requires : goal.index_mut-requires
index_mut-requires c =
    let k = c.self.inside in
    let e = block_places k.size k.block.items k.used.items c.args.self.now c.self.view_is in
    let f = k.used.ok.0 in
    let h = c.requires.place in
    omega arith

pub returns-clause-keys : goal.returns-clause-keys
returns-clause-keys c =
    let k = c.self.inside in
    let p = c.args.place in
    let key = c.args.key.now in
    let n = length k.used.items in
    let e = block_places k.size k.block.items k.used.items c.args.self.now c.self.view_is in
    let h = c.requires.place in
    let inside : p < n = omega arith in
    let long : length key ≡ k.size =
    c.requires.size ∙ sym (ap (λ (t : KeysByPlace). t.size) c.self.view_is) in
    let back : c.put_bytes.new.block ≡ with_block_row k.size k.block.items p key =
    c.put_bytes.ensures
    ∙ ap (λ (b : List ℕ). with_block_row k.size b p key) c.as_mut_slice.ensures.value in
    let whole : length c.put_bytes.new.block ≡ k.block.len =
    ap length back
    ∙ length-with_block_row k.size k.block.items p key n long c.self.invariant.0 inside
    ∙ sym c.self.invariant.0 ∙ sym k.block.ok.0 in
    ap (λ (b : List ℕ). keys_by_place k.size b 0 (slice_set k.used.items p true))
    (lent_whole c.put_bytes.new.block k.block.items k.block.len whole ∙ back)
    ∙ keys_by_place-put k.size k.block.items p key n long c.self.invariant.0 inside 0 k.used.items p
    (omega arith) inside
    ∙ ap (λ (t : KeysByPlace). slice_set t.by_place p (Some key)) c.self.view_is
