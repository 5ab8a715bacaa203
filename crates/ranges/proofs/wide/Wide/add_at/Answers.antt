use Rattle.ranges.proofs.Common.{arith, ◌<◌, ◌^◌, ◌+◌, ints, width_bits, low_wrapped}
use Rattle.ranges.proofs.wide.Wide.add_at.Goals as goal

pub returns-clause-contains : goal.returns-clause-contains
returns-clause-contains c = λ x y hx hy.
    rw (low_wrapped c.args.width (x + y)) at
    (c.truncate.ensures.contains _
    (c.with.ensures.common _ (c.add_unsigned-unsigned.ensures.contains x y hx hy)
    (c.add_signed-signed.ensures.contains x y hx hy)))

pub returns-clause-signed : goal.returns-clause-signed
returns-clause-signed c = λ x y hx hy full fl fg.
    let small : c.with.result.greatest < 2 ^ width_bits c.args.width = rw full (omega arith) in
    let e = c.with.ensures.other _ (c.add_unsigned-unsigned.ensures.contains x y hx hy)
    (c.add_signed-signed.ensures.contains x y hx hy) in
    let l = c.add_signed-signed.ensures.limits fl fg in
    let from = e.2 in
    let to = e.3 in
    rw (c.truncate.ensures.same small) (omega (arith, ints, l.0), omega (arith, ints, l.1))
