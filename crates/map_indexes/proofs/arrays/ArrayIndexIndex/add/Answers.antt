use Rattle.std.proofs.Common.{arith}
use Rattle.map_indexes.proofs.ArrayLaws.{len-array_places}
use Rattle.map_indexes.proofs.arrays.ArrayIndexIndex.add.Goals as goal

-- an array is always full
pub returns-clause-found : goal.returns-clause-found
returns-clause-found c = λ few.
    let small = c.args.self.now.small in
    let all = len-array_places c.args.self.now.entries (omega arith) in
    absurd (omega arith)
