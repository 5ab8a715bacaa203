use Rattle.std.proofs.Common.{arith}
use Rattle.known_bits.proofs.Splices.{written_there, spliced-bits}
use Rattle.known_bits.proofs.shifts.spliced.Goals as goal

pub returns : goal.returns
returns c =
    let bits = written_there c.args.from c.args.count c.ones.result (omega arith) (omega arith) in
    spliced-bits c.args.from c.args.count c.args.number c.args.other _ (omega arith) (omega arith)
    (omega arith) bits (omega arith)
