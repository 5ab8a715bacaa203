use Rattle.reg_state.proofs.Common.{◌<◌, ◌^◌, arith, ints, bit_at-differing, Low32, Full64}
use Rattle.ranges.proofs.KeepsWeaker.{keeps_weaker, keeps_signed_weaker}
use Rattle.reg_state.proofs.scalars.ScalarDomain.alu.Goals as goal

pub returns-clause-contains : goal.returns-clause-contains
returns-clause-contains c = λ x y hx hy.
    c.settled.ensures.contains _
    (c.alu.ensures.contains x y hx.0 hy.0, c.alu-2.ensures.contains x y hx.1 hy.1)

pub returns-clause-exact : goal.returns-clause-exact
returns-clause-exact c =
    λ u v ha hb.
    c.settled.ensures.constant _
    (c.alu.ensures.exact u v ha.0 hb.0, c.alu-2.ensures.exact u v ha.1 hb.1)

pub returns-clause-fits : goal.returns-clause-fits
returns-clause-fits c = λ x h. c.alu.ensures.fits x (c.settled.ensures.narrower x h).0

pub returns-clause-limits : goal.returns-clause-limits
returns-clause-limits c = λ fa fb.
    let a = c.args.a.range.wide in
    let b = c.args.b.range.wide in
    keeps_weaker c.args.op c.args.width a.least a.greatest b.least b.greatest _ _
    (λ least greatest kept x h. let r = (c.settled.ensures.narrower x h).1.0 in
    let from = r.from in let to = r.to in (omega arith, omega arith))
    (c.alu-2.ensures.limits fa fb)

pub returns-clause-signed : goal.returns-clause-signed
returns-clause-signed c = λ x y hx hy full.
    let a = c.args.a.range.wide in
    let b = c.args.b.range.wide in
    keeps_signed_weaker c.args.op Full64 a.signed_least a.signed_greatest b.signed_least
    b.signed_greatest b.least b.greatest _ _
    (λ least greatest kept z h.
    let r = (c.settled.ensures.narrower z h).1.0 in
    let from = r.signed_from in
    let to = r.signed_to in
    (omega (arith, ints, kept.0, from), omega (arith, ints, kept.1, to)))
    (c.alu-2.ensures.signed x y hx.1 hy.1 full)

pub returns-clause-low_limits : goal.returns-clause-low_limits
returns-clause-low_limits c = λ x y hx hy reads.
    let a = c.args.a.range.low in
    let b = c.args.b.range.low in
    keeps_weaker c.args.op Low32 a.least a.greatest b.least b.greatest _ _
    (λ least greatest kept z h. let r = (c.settled.ensures.narrower z h).1.1 in
    let from = r.from in let to = r.to in (omega arith, omega arith))
    (c.alu-2.ensures.low_limits x y hx.1 hy.1 reads)

pub returns-clause-low_signed : goal.returns-clause-low_signed
returns-clause-low_signed c = λ x y hx hy reads.
    let a = c.args.a.range.low in
    let b = c.args.b.range.low in
    keeps_signed_weaker c.args.op Low32 a.signed_least a.signed_greatest b.signed_least
    b.signed_greatest b.least b.greatest _ _
    (λ least greatest kept z h.
    let r = (c.settled.ensures.narrower z h).1.1 in
    let from = r.signed_from in
    let to = r.signed_to in
    (omega (arith, ints, kept.0, from), omega (arith, ints, kept.1, to)))
    (c.alu-2.ensures.low_signed x y hx.1 hy.1 reads)

pub returns-clause-raised : goal.returns-clause-raised
returns-clause-raised c = λ x y hx hy op full one far fits z h.
    let k = c.alu-2.ensures.raised x y hx.1 hy.1 op full one far fits in
    let r = (c.settled.ensures.narrower z h).1.0 in
    let from = r.from in
    let to = r.to in
    (omega (arith, k.0, from), omega (arith, k.1, to))

pub returns-clause-raised_signed : goal.returns-clause-raised_signed
returns-clause-raised_signed c = λ x y hx hy op full one far z h.
    let k = c.alu-2.ensures.raised_signed x y hx.1 hy.1 op full one far in
    let r = (c.settled.ensures.narrower z h).1.0 in
    let from = r.signed_from in
    let to = r.signed_to in
    (omega (arith, ints, k.0, from), omega (arith, ints, k.1, to))

pub returns-clause-sharp : goal.returns-clause-sharp
returns-clause-sharp c = λ precise i x y inside hx hy zero one.
    let fits : c.alu.result.mask < 2 ^ 64 = omega arith in
    c.alu.ensures.sharp precise i (bit_at-differing c.alu.result.value c.alu.result.mask x y i fits
    (c.settled.ensures.narrower x hx).0 (c.settled.ensures.narrower y hy).0 inside zero one)

pub returns-clause-product : goal.returns-clause-product
returns-clause-product c = λ is.
    let product = c.alu.ensures.product is in
    record {
      zeros =
          λ j k z fits hj hk h. product.zeros j k z fits hj hk (c.settled.ensures.narrower z h).0;
      limit = λ l z small h. product.limit l z small (c.settled.ensures.narrower z h).0;
    }
