use Rattle.map_indexes.proofs.Common.{arith, scan_few}
use Rattle.map_indexes.proofs.scan.ScanIndexIndex.is_full.Goals as goal

pub returns : goal.returns
returns c =
    let s = c.args.self.now in
    let few = scan_few s.keys.by_place s.len s.scan in
    let mapped = s.scan.mapped in
    let n = c.places.ensures in
    grind arith
