use Rattle.maps.proofs.Common.{◌≡◌, ◌+◌, ◌*◌, ℕ, List, length, drop, sym, ap, ◌∙◌, take_at, splice, splice_in_row, changed_row, length-changed_row, length-with_block_row}
use Rattle.maps.proofs.store.Store.write_value.Goals as goal

pub returns-clause-block : goal.returns-clause-block
returns-clause-block g c =
    let s = c.args.self.now in
    let items = s.values.items in
    let size = s.row.value_size in
    let n = s.row.entries in
    let p = c.args.place in
    let i = c.args.at in
    let v = c.args.bytes.now in
    let written = splice_in_row size n items p s.whole c.requires.place i v c.requires.within in
    let put =
    c.put_bytes.ensures
    ∙ ap (λ (b : List ℕ). splice b (p * size + i) (p * size + i + length v) v)
    c.as_mut_slice.ensures.value ∙ written in
    let row = changed_row size n items p s.whole c.requires.place i v c.requires.within in
    let long =
    length-with_block_row size items p row n
    (length-changed_row size n items p s.whole c.requires.place i v c.requires.within)
    s.whole c.requires.place in
    let same : length c.put_bytes.new.block ≡ s.values.len =
    ap length put ∙ long ∙ sym s.whole ∙ sym s.values.ok.0 in
    let back = c.put_bytes.new.block in
    take_at back (drop (length back) items) s.values.len same ∙ put
