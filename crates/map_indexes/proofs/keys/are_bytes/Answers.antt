use Rattle.std.proofs.Common.{arith}
use Rattle.map_indexes.proofs.keys.are_bytes.Goals as goal

pub returns : goal.returns
returns c = λ j. omega (arith, c.type_inv.bytes j)
