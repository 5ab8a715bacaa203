use Rattle.std.proofs.Common.{arith}
use Rattle.known_bits.proofs.MemberLaws.{low-greatest}
use Rattle.known_bits.proofs.bits.Bits.low_greatest.Goals as goal

pub returns-clause-limit : goal.returns-clause-limit
returns-clause-limit c = λ x h.
    let low = low-greatest c.args.self x 32 (omega arith) h in
    omega arith
