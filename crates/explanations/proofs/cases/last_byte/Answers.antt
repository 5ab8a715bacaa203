use Rattle.std.proofs.Common.{arith}
use Rattle.std.proofs.lemmas.Int.{ints}
use Rattle.explanations.proofs.cases.last_byte.Goals as goal

pub returns : goal.returns
returns c = omega (arith, ints)
