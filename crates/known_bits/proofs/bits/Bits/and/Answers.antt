use Rattle.std.proofs.Common.{arith}
use Rattle.known_bits.proofs.Members.{is_apart}
use Rattle.known_bits.proofs.Logic.{and_known, and_contains}
use Rattle.known_bits.proofs.Sharp.{and_sharp}
use Rattle.known_bits.proofs.bits.Bits.and.Goals as goal

pub invariant_of-result : goal.invariant_of-result
invariant_of-result c =
    let ka = is_apart c.args.self (omega arith) (omega arith) in
    let kb = is_apart c.args.other (omega arith) (omega arith) in
    record { apart = (and_known ka kb).apart; fits = (and_known ka kb).mask_in }

pub returns-clause-contains : goal.returns-clause-contains
returns-clause-contains c =
    let ka = is_apart c.args.self (omega arith) (omega arith) in
    let kb = is_apart c.args.other (omega arith) (omega arith) in
    and_contains ka kb

pub returns-clause-sharp : goal.returns-clause-sharp
returns-clause-sharp c =
    let ka = is_apart c.args.self (omega arith) (omega arith) in
    let kb = is_apart c.args.other (omega arith) (omega arith) in
    and_sharp ka kb
