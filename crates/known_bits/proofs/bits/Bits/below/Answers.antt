use Rattle.known_bits.proofs.Members.{is_apart}
use Rattle.std.proofs.Common.{arith, bit_or}
use Rattle.known_bits.proofs.Sharp.{least_member, most_member}
use Rattle.known_bits.proofs.bits.Bits.below.Goals as goal

pub returns-clause-found : goal.returns-clause-found
returns-clause-found c =
    let ka = is_apart c.args.self (omega arith) (omega arith) in
    let kb = is_apart c.args.other (omega arith) (omega arith) in
    record {
      x = c.args.self.value;
      y = bit_or c.args.other.value c.args.other.mask;
      first = least_member ka;
      second = most_member kb;
      is = omega arith;
    }
