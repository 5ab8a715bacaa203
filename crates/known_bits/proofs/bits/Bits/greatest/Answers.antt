use Rattle.std.proofs.Common.{arith}
use Rattle.known_bits.proofs.Members.{is_apart}
use Rattle.known_bits.proofs.Order.{member_most}
use Rattle.known_bits.proofs.Sharp.{most_member}
use Rattle.known_bits.proofs.bits.Bits.greatest.Goals as goal

pub returns-clause-member : goal.returns-clause-member
returns-clause-member c =
    let k = is_apart c.args.self (omega arith) (omega arith) in
    rw c.least.ensures.value (most_member k)

pub returns-clause-limit : goal.returns-clause-limit
returns-clause-limit c = λ x hx.
    let k = is_apart c.args.self (omega arith) (omega arith) in
    rw c.least.ensures.value (member_most k hx)
