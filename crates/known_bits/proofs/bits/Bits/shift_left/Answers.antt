use Rattle.std.proofs.Common.{arith}
use Rattle.known_bits.proofs.Members.{is_apart}
use Rattle.known_bits.proofs.Shift.{left_apart, left_contains}
use Rattle.known_bits.proofs.bits.Bits.shift_left.Goals as goal

pub invariant_of-result : goal.invariant_of-result
invariant_of-result c =
    let k = is_apart c.args.self (omega arith) (omega arith) in
    record { apart = (left_apart k c.args.by).apart; fits = (left_apart k c.args.by).mask_in }

pub returns-clause-contains : goal.returns-clause-contains
returns-clause-contains c =
    let k = is_apart c.args.self (omega arith) (omega arith) in
    left_contains k c.args.by
