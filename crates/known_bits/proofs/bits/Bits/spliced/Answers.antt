use Rattle.std.proofs.Common.{arith}
use Rattle.known_bits.proofs.Members.{is_apart}
use Rattle.known_bits.proofs.Splices.{spliced_apart, spliced_contains}
use Rattle.known_bits.proofs.bits.Bits.spliced.Goals as goal

pub invariant_of-result : goal.invariant_of-result
invariant_of-result c =
    let a = is_apart c.args.self (omega arith) (omega arith) in
    let b = is_apart c.args.other (omega arith) (omega arith) in
    let k = spliced_apart a b c.args.from c.args.count (omega arith) in
    record {
      apart = rw (c.spliced.ensures, c.spliced-2.ensures) k.apart;
      fits = rw c.spliced-2.ensures k.mask_in;
    }

pub returns-clause-contains : goal.returns-clause-contains
returns-clause-contains c = λ x y hx hy.
    let a = is_apart c.args.self (omega arith) (omega arith) in
    let b = is_apart c.args.other (omega arith) (omega arith) in
    rw (c.spliced.ensures, c.spliced-2.ensures)
    (spliced_contains a b c.args.from c.args.count x y (omega arith) hx hy)
