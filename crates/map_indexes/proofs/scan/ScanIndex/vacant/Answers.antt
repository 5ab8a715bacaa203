use Rattle.std.proofs.Common.{arith}
use Rattle.map_indexes.proofs.ScanLaws.{key_count-all}
use Rattle.map_indexes.proofs.scan.ScanIndex.vacant.Goals as goal

pub unreachable-requires : goal.unreachable-requires
unreachable-requires c =
    let s = c.args.self.now in
    let n = c.places-i-end.ensures in
    let end = c.loop-i-test.false in
    let all = key_count-all s.keys.by_place (λ j l. c.loop-i.invariant j (omega arith)) in
    let h = s.scan.counted in
    let few = c.requires in
    omega arith
