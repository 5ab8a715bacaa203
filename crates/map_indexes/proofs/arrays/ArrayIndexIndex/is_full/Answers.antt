use Rattle.map_indexes.proofs.Common.{◌≤◌, arith, len, array_places}
use Rattle.map_indexes.proofs.ArrayLaws.{len-array_places}
use Rattle.map_indexes.proofs.arrays.ArrayIndexIndex.is_full.Goals as goal

pub returns : goal.returns
returns c =
    let s = c.args.self.now in
    let small = s.small in
    let e = len-array_places s.entries (omega arith) in
    let l : s.entries ≤ len (array_places s.entries) = omega arith in
    grind arith
