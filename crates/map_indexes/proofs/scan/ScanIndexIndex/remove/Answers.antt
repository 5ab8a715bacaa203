use Rattle.map_indexes.proofs.Common.{ap, sym, ◌∙◌, subst, rules, ◌-◌, PlaceKeys, IsScan, places, got, key_inside}
use Rattle.map_indexes.proofs.PlaceKeysLaws.{places-emptied}
use Rattle.map_indexes.proofs.PlaceKeysLaws.{remove_absent}
use Rattle.map_indexes.proofs.ScanLaws.{scan_some, scan-emptied}
use Rattle.map_indexes.proofs.scan.ScanIndexIndex.remove.Goals as goal

pub returns-in_err-place-clause-hash : goal.returns-in_err-place-clause-hash
returns-in_err-place-clause-hash c =
    λ kind. (search rules, sym (remove_absent _ c.args.key.now (sym c.in_err-place.ensures)))

pub clear-requires : goal.clear-requires
clear-requires c =
    let s = c.args.self.now in
    record {
      place = key_inside s.keys.by_place c.in_ok-place.place c.args.key.now
          (got s.keys.by_place c.args.key.now c.in_ok-place.place (sym c.in_ok-place.ensures));
    }

pub overflow_sub-self : goal.overflow_sub-self
overflow_sub-self c =
    let s = c.args.self.now in
    scan_some s.keys.by_place s.len s.scan c.args.key.now c.in_ok-place.place
    (got s.keys.by_place c.args.key.now c.in_ok-place.place (sym c.in_ok-place.ensures))

pub invariant_of-self : goal.invariant_of-self
invariant_of-self c =
    let s = c.args.self.now in
    let here = got s.keys.by_place c.args.key.now c.in_ok-place.place (sym c.in_ok-place.ensures) in
    record {
      scan = subst (λ (keys : PlaceKeys). IsScan keys (s.len - 1)) (sym c.clear.ensures.keys)
          (scan-emptied s.keys.by_place s.len s.scan c.args.key.now c.in_ok-place.place here);
    }

pub returns-clause-hash : goal.returns-clause-hash
returns-clause-hash c = λ kind.
    let s = c.args.self.now in
    let here =
    got s.keys.by_place c.args.key.now c.in_ok-place.place (sym c.in_ok-place.ensures) in (
      c.in_ok-place.ensures,
      ap (λ (keys : PlaceKeys). places keys) c.clear.ensures.keys
          ∙ places-emptied s.keys.by_place c.in_ok-place.place c.args.key.now
          (key_inside s.keys.by_place c.in_ok-place.place c.args.key.now here) s.scan.distinct here,
    )
