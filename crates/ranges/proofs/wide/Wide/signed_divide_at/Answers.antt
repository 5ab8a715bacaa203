use Rattle.ranges.proofs.Common.{◌^◌, ◌<◌, arith, ints, Full64, SignedDiv, width_bits, IsSignedBetween}
use Rattle.ranges.proofs.KeepsWeaker.{keeps_signed_weaker}
use Rattle.ranges.proofs.wide.Wide.signed_divide_at.Goals as goal

pub returns-in-Full64-clause-signed : goal.returns-in-Full64-clause-signed
returns-in-Full64-clause-signed c = λ x y hx hy full.
    let a = c.args.self in
    let b = c.args.other in
    let x_in : x < 2 ^ width_bits c.args.width = rw full hx.below in
    let y_in : y < 2 ^ width_bits c.args.width = rw full hy.below in
    let plain = rw full at (c.plain_quotient-plain.ensures.contains x y x_in y_in hx hy) in
    let e = c.with.ensures.other _ plain (c.full_quotient.ensures.contains x y hx hy) in
    keeps_signed_weaker SignedDiv Full64 a.signed_least a.signed_greatest b.signed_least
    b.signed_greatest b.least b.greatest
    (IsSignedBetween c.full_quotient.result) (IsSignedBetween c.with.result)
    (λ l g h. (omega (arith, ints, h.0, e.2), omega (arith, ints, h.1, e.3)))
    (c.full_quotient.ensures.signed x y hx hy)
