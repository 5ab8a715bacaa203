use Rattle.map_indexes.proofs.Common.{ap, sym, ◌∙◌, arith, Some, bytes_decides, key_inside}
use Rattle.map_indexes.proofs.PlaceKeysLaws.{get_here, get_none}
use Rattle.map_indexes.proofs.scan.ScanIndexIndex.find.Goals as goal

pub returns-then-eq : goal.returns-then-eq
returns-then-eq c =
    let s = c.args.self.now in
    let same =
    (bytes_decides c.key.result.now c.args.key.now).0 (sym c.eq.ensures ∙ c.if-eq.true) in
    sym (get_here s.keys.by_place c.loop-i.i c.args.key.now s.scan.distinct
    (c.key.ensures.key ∙ ap Some same))

pub returns : goal.returns
returns c =
    let s = c.args.self.now in
    let n = c.places-i-end.ensures in
    let end = c.loop-i-test.false in
    sym (get_none s.keys.by_place c.args.key.now (λ j e.
    let l = key_inside s.keys.by_place j c.args.key.now e in
    c.loop-i.invariant j (omega arith) e))
