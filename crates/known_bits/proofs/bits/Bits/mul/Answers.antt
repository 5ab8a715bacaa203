use Rattle.std.proofs.Common.{arith}
use Rattle.known_bits.proofs.Members.{is_apart}
use Rattle.known_bits.proofs.Sharp.{least_member}
use Rattle.known_bits.proofs.bits.Bits.mul.Goals as goal

pub returns-clause-product : goal.returns-clause-product
returns-clause-product c =
    let ka = is_apart c.args.self (omega arith) (omega arith) in
    let kb = is_apart c.args.other (omega arith) (omega arith) in
    let x = least_member ka in
    let y = least_member kb in
    let term = c.sum_of_terms.ensures _ _ x y in
    let limit = c.product_limit.ensures.contains _ _ x y in
    let zero = c.product_zeros.ensures.contains _ _ x y in
    let both = c.with-limited.ensures.common _ term limit in
    record {
      zeros =
          λ j k z fits hj hk h.
          c.product_zeros.ensures.zeros j k z fits hj hk (c.with.ensures.within _ z both zero h).1;
      limit = λ l z small h.
          let limited = (c.with.ensures.within _ z both zero h).0 in
          c.product_limit.ensures.limit l z small
          (c.with-limited.ensures.within _ z term limit limited).1;
    }
