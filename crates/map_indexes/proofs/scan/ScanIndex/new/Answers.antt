use Rattle.map_indexes.proofs.Common.{ap, sym, ◌∙◌, subst, PlaceKeys, IsScan, places}
use Rattle.map_indexes.proofs.ScanLaws.{scan-none, places-none}
use Rattle.map_indexes.proofs.scan.ScanIndex.new.Goals as goal

pub invariant_of-result : goal.invariant_of-result
invariant_of-result c =
    record {
      scan = subst (λ (keys : PlaceKeys). IsScan keys 0) (sym c.in_ok-keys.ensures.empty)
          (scan-none c.args.entries);
    }

pub returns-clause-empty : goal.returns-clause-empty
returns-clause-empty c =
    ap (λ (keys : PlaceKeys). places keys) c.in_ok-keys.ensures.empty ∙ places-none c.args.entries
