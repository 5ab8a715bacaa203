use Rattle.std.proofs.Common.{arith}
use Rattle.known_bits.proofs.Members.{is_apart}
use Rattle.known_bits.proofs.Carry.{sum_known, sum_contains}
use Rattle.known_bits.proofs.Precise.{sum_sharp}
use Rattle.known_bits.proofs.bits.Bits.add.Goals as goal

pub invariant_of-result : goal.invariant_of-result
invariant_of-result c =
    let ka = is_apart c.args.self (omega arith) (omega arith) in
    let kb = is_apart c.args.other (omega arith) (omega arith) in
    record { apart = (sum_known ka kb).apart; fits = (sum_known ka kb).mask_in }

pub returns-clause-contains : goal.returns-clause-contains
returns-clause-contains c =
    let ka = is_apart c.args.self (omega arith) (omega arith) in
    let kb = is_apart c.args.other (omega arith) (omega arith) in
    sum_contains ka kb

pub returns-clause-sharp : goal.returns-clause-sharp
returns-clause-sharp c =
    let ka = is_apart c.args.self (omega arith) (omega arith) in
    let kb = is_apart c.args.other (omega arith) (omega arith) in
    sum_sharp ka kb
