use Rattle.live_maps.proofs.Common.{ap, ◌∙◌, ℕ, List, length, arith, slice_get, length-range_with_len}
use Rattle.live_maps.proofs.ReorderLaws.{looked-all, all_at}
use Rattle.live_maps.proofs.reordering.look_at.Goals as goal

pub returns-else-len-capacity : goal.returns-else-len-capacity
returns-else-len-capacity c =
    let past = c.if-len-capacity.false in
    let count = c.len.ensures in
    let room = c.capacity.ensures in
    let vector = c.args.noted.now.ok.0 in
    let all = looked-all c.args.noted.now.items _ c.args.places (omega arith) in
    let long = ap length all ∙ length-range_with_len 0 c.args.places in
    let inside = c.requires in
    ap (λ (xs : List ℕ). slice_get xs c.args.i) all ∙ all_at c.args.places c.args.i (omega arith)
