use Rattle.known_bits.proofs.Common.{◌≡◌, ◌-◌, ◌^◌, arith, width_bits, width_fits, width_most}
use Rattle.known_bits.proofs.Overlaps.{low_member, member_low}
use Rattle.known_bits.proofs.bits.Bits.any.Goals as goal

pub returns : goal.returns
returns c =
    let k = width_bits c.args.width in
    let all = rw c.bits.ensures at c.ones.ensures in
    let e : c.ones.result ≡ 2 ^ k - 1 = omega (arith, all) in
    let k_in = width_most c.args.width in
    let fits = width_fits c.args.width in
    rw e (λ x. (member_low k x k_in, λ lt. low_member k x k_in (omega arith) lt))
