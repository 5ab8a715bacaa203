use Rattle.std.proofs.Common.{arith}
use Rattle.live_maps.proofs.ReorderLaws.{same_all, same_next}
use Rattle.live_maps.proofs.reordering.list_anew.Goals as goal

pub loop-place-preserved : goal.loop-place-preserved
loop-place-preserved c =
    let less = c.loop-place-test.true in
    same_next c.loop-place.place c.loop-place.since (omega arith) c.loop-place.invariant

pub returns-clause-same : goal.returns-clause-same
returns-clause-same c =
    let past = c.loop-place-test.false in
    same_all c.loop-place.place c.loop-place.since (omega arith) c.loop-place.invariant
