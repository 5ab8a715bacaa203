use Rattle.std.proofs.Common.{arith}
use Rattle.known_bits.proofs.Members.{is_apart}
use Rattle.known_bits.proofs.Shift.{complement_apart, not_contains, not_back}
use Rattle.known_bits.proofs.bits.Bits.not.Goals as goal

pub invariant_of-result : goal.invariant_of-result
invariant_of-result c =
    let k = is_apart c.args.self (omega arith) (omega arith) in
    record { apart = (complement_apart k).apart; fits = (complement_apart k).mask_in }

pub returns-clause-contains : goal.returns-clause-contains
returns-clause-contains c =
    let k = is_apart c.args.self (omega arith) (omega arith) in
    not_contains k

pub returns-clause-back : goal.returns-clause-back
returns-clause-back c =
    let k = is_apart c.args.self (omega arith) (omega arith) in
    not_back k
