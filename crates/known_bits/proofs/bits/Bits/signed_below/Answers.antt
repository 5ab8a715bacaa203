use Rattle.known_bits.proofs.Common.{arith, w64, cast_unsigned, ints}
use Rattle.known_bits.proofs.bits.Bits.signed_below.Goals as goal

pub returns-then-signed_least-signed_greatest-clause-found : goal.returns-then-signed_least-signed_greatest-clause-found
returns-then-signed_least-signed_greatest-clause-found c = record {
  x = cast_unsigned w64 c.signed_least.result;
  y = cast_unsigned w64 c.signed_greatest.result;
  first = c.signed_least.ensures.member;
  second = c.signed_greatest.ensures.member;
  is = omega (arith, ints);
}
