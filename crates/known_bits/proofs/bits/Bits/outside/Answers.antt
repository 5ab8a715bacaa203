use Rattle.std.proofs.Common.{arith}
use Rattle.known_bits.proofs.Overlaps.{outside_member, member_outside}
use Rattle.known_bits.proofs.bits.Bits.outside.Goals as goal

pub returns-clause-contains : goal.returns-clause-contains
returns-clause-contains c = λ x x_in none. outside_member x c.args.bits (omega arith) x_in none

pub returns-clause-only : goal.returns-clause-only
returns-clause-only c = λ x h. member_outside x c.args.bits (omega arith) h
