use Rattle.std.proofs.Common.{◌*◌, ◌%◌, ◌^◌, arith}
use Rattle.known_bits.proofs.Overlaps.{having_member, having_apart, member_having}
use Rattle.known_bits.proofs.bits.Bits.having.Goals as goal

pub invariant_of-result : goal.invariant_of-result
invariant_of-result c =
    record {
      apart = having_apart (1 * 2 ^ c.args.position % 2 ^ 64) (omega arith);
      fits = omega arith;
    }

pub returns-clause-contains : goal.returns-clause-contains
returns-clause-contains c = λ x x_in one. having_member x c.args.position c.requires x_in one

pub returns-clause-only : goal.returns-clause-only
returns-clause-only c = λ x h. member_having x c.args.position c.requires h
