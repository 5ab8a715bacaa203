use Rattle.known_bits.proofs.Common.{arith, bit_or, and_le_l, or_lt}
use Rattle.known_bits.proofs.Members.{is_apart}
use Rattle.known_bits.proofs.Product.{or_zero_contains}
use Rattle.known_bits.proofs.bits.Bits.or_zero.Goals as goal

pub invariant_of-result : goal.invariant_of-result
invariant_of-result c = record {
  apart = let le = and_le_l 0 (bit_or c.args.self.value c.args.self.mask) in omega arith;
  fits = or_lt 64 c.args.self.value c.args.self.mask (omega arith) (omega arith);
}

pub returns-clause-contains : goal.returns-clause-contains
returns-clause-contains c =
    let ka = is_apart c.args.self (omega arith) (omega arith) in
    or_zero_contains ka
