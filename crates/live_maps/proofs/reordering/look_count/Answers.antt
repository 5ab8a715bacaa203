use Rattle.live_maps.proofs.Common.{sym, ap, ◌∙◌, length, arith, length-range_with_len}
use Rattle.live_maps.proofs.ReorderLaws.{looked-all}
use Rattle.live_maps.proofs.reordering.look_count.Goals as goal

pub returns-else-len-capacity : goal.returns-else-len-capacity
returns-else-len-capacity c =
    let past = c.if-len-capacity.false in
    let count = c.len.ensures in
    let room = c.capacity.ensures in
    let vector = c.args.noted.now.ok.0 in
    sym (ap length (looked-all c.args.noted.now.items _ c.args.places (omega arith))
    ∙ length-range_with_len 0 c.args.places)
