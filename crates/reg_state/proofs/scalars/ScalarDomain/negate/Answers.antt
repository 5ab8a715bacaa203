use Rattle.reg_state.proofs.Common.{◌<◌, ◌^◌, arith, ints, bit_at-differing}
use Rattle.reg_state.proofs.scalars.ScalarDomain.negate.Goals as goal

pub returns-clause-contains : goal.returns-clause-contains
returns-clause-contains c =
    λ x h. c.settled.ensures.contains _
    (c.negate.ensures.contains x h.0, c.negate-2.ensures.contains x h.1)

pub returns-clause-exact : goal.returns-clause-exact
returns-clause-exact c =
    λ u h. c.settled.ensures.constant _
    (c.negate.ensures.exact u h.0, c.negate-2.ensures.exact u h.1)

pub returns-clause-fits : goal.returns-clause-fits
returns-clause-fits c = λ x h. c.negate.ensures.fits x (c.settled.ensures.narrower x h).0

pub returns-clause-signed : goal.returns-clause-signed
returns-clause-signed c = λ x hx full within z h.
    let r = (c.settled.ensures.narrower z h).1.0 in
    let kept = c.negate-2.ensures.signed x hx.1 full within in
    let from = r.signed_from in
    let to = r.signed_to in
    (omega (arith, ints, kept.0, from), omega (arith, ints, kept.1, to))

pub returns-clause-low_signed : goal.returns-clause-low_signed
returns-clause-low_signed c = λ x hx within z h.
    let r = (c.settled.ensures.narrower z h).1.1 in
    let kept = c.negate-2.ensures.low_signed x hx.1 within in
    let from = r.signed_from in
    let to = r.signed_to in
    (omega (arith, ints, kept.0, from), omega (arith, ints, kept.1, to))

pub returns-clause-sharp : goal.returns-clause-sharp
returns-clause-sharp c = λ i x y inside hx hy zero one.
    let fits : c.negate.result.mask < 2 ^ 64 = omega arith in
    c.negate.ensures.sharp i (bit_at-differing c.negate.result.value c.negate.result.mask x y i fits
    (c.settled.ensures.narrower x hx).0 (c.settled.ensures.narrower y hy).0 inside zero one)
