use Rattle.map_indexes.proofs.Common.{ap, sym, ◌∙◌, subst, arith, ◌+◌, PlaceKeys, IsScan, places, got, scan_few}
use Rattle.map_indexes.proofs.PlaceKeysLaws.{places-added}
use Rattle.map_indexes.proofs.ScanLaws.{scan-added}
use Rattle.map_indexes.proofs.scan.ScanIndexIndex.add.Goals as goal

pub vacant-place-requires : goal.vacant-place-requires
vacant-place-requires c =
    let s = c.args.self.now in
    let few = scan_few s.keys.by_place s.len s.scan in
    let mapped = s.scan.mapped in
    let n = c.places.ensures in
    let apart = c.if-self-places.false in
    grind arith

pub overflow_add-self : goal.overflow_add-self
overflow_add-self c =
    let s = c.args.self.now in
    let few = scan_few s.keys.by_place s.len s.scan in
    let mapped = s.scan.mapped in
    let n = c.places.ensures in
    let fits = c.places.type_inv in
    let apart = c.if-self-places.false in
    grind arith

pub invariant_of-self : goal.invariant_of-self
invariant_of-self c =
    let s = c.args.self.now in
    let v = c.vacant-place in
    record {
      scan = subst (λ (keys : PlaceKeys). IsScan keys (s.len + 1)) (sym c.put.ensures.keys)
          (scan-added s.keys.by_place s.len s.scan c.args.key.now v.result v.ensures.in_range
          v.ensures.free c.requires.absent);
    }

pub returns-clause-added : goal.returns-clause-added
returns-clause-added c =
    let s = c.args.self.now in
    let v = c.vacant-place in
    record {
      added = ap (λ (keys : PlaceKeys). places keys) c.put.ensures.keys
          ∙ places-added s.keys.by_place v.result c.args.key.now v.ensures.in_range s.scan.distinct
          c.requires.absent v.ensures.free;
      free = λ k e. let h = got s.keys.by_place k v.result e in let f = v.ensures.free in cc;
    }
