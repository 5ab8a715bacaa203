use Rattle.std.proofs.Common.{arith}
use Rattle.known_bits.proofs.Members.{is_apart}
use Rattle.known_bits.proofs.Shift.{right_apart, right_contains}
use Rattle.known_bits.proofs.bits.Bits.shift_right.Goals as goal

pub invariant_of-result : goal.invariant_of-result
invariant_of-result c =
    let k = is_apart c.args.self (omega arith) (omega arith) in
    record { apart = (right_apart k c.args.by).apart; fits = (right_apart k c.args.by).mask_in }

pub returns-clause-contains : goal.returns-clause-contains
returns-clause-contains c =
    let k = is_apart c.args.self (omega arith) (omega arith) in
    right_contains k c.args.by
