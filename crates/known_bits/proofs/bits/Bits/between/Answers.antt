use Rattle.std.proofs.Common.{arith}
use Rattle.known_bits.proofs.Prefix.{between_member, between_sharp}
use Rattle.known_bits.proofs.bits.Bits.between.Goals as goal

pub returns-clause-contains : goal.returns-clause-contains
returns-clause-contains c =
    λ x h1 h2.
    between_member c.args.least c.args.greatest x c.ones-mask.result (omega arith)
    (omega arith) h1 h2 c.ones-mask.ensures

pub returns-clause-sharp : goal.returns-clause-sharp
returns-clause-sharp c =
    λ i unknown same.
    between_sharp c.args.least c.args.greatest c.ones-mask.result i (omega arith)
    (omega arith) c.ones-mask.ensures unknown same
