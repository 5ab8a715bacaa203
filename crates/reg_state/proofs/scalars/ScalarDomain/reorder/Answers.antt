use Rattle.reg_state.proofs.Common.{◌<◌, ◌^◌, arith, ap, sym, ◌∙◌, bit_at, bit_at-differing}
use Rattle.reg_state.proofs.scalars.ScalarDomain.reorder.Goals as goal

pub returns-clause-contains : goal.returns-clause-contains
returns-clause-contains c =
    λ x h. c.settled.ensures.contains _
    (c.reorder.ensures.contains x h.0, c.reorder-2.ensures.contains x h.1)

pub returns-clause-exact : goal.returns-clause-exact
returns-clause-exact c =
    λ u h. c.settled.ensures.constant _
    (c.reorder.ensures.exact u h.0, c.reorder-2.ensures.exact u h.1)

pub returns-clause-fits : goal.returns-clause-fits
returns-clause-fits c = λ x h. c.reorder.ensures.fits x (c.settled.ensures.narrower x h).0

pub returns-clause-limits : goal.returns-clause-limits
returns-clause-limits c = λ little fits z h.
    let r = (c.settled.ensures.narrower z h).1.0 in
    let kept = c.reorder-2.ensures.little little fits in
    let from = r.from in
    let to = r.to in
    (omega (arith, kept.0, from), omega (arith, kept.1, to))

pub returns-clause-low_limits : goal.returns-clause-low_limits
returns-clause-low_limits c = λ x hx little fits z h.
    let r = (c.settled.ensures.narrower z h).1.1 in
    let kept = c.reorder-2.ensures.low_little x hx.1 little fits in
    let from = r.from in
    let to = r.to in
    (omega (arith, kept.0, from), omega (arith, kept.1, to))

pub returns-clause-bits : goal.returns-clause-bits
returns-clause-bits c = λ little i x y inside hx hy zero one.
    let fits : c.reorder.result.mask < 2 ^ 64 = omega arith in
    ap (λ m. bit_at m i) (sym (c.reorder.ensures.little little))
    ∙ bit_at-differing c.reorder.result.value c.reorder.result.mask x y i fits
    (c.settled.ensures.narrower x hx).0 (c.settled.ensures.narrower y hy).0 inside zero one

pub returns-clause-sharp : goal.returns-clause-sharp
returns-clause-sharp c = λ i x y inside hx hy zero one.
    let fits : c.reorder.result.mask < 2 ^ 64 = omega arith in
    c.reorder.ensures.sharp i
    (bit_at-differing c.reorder.result.value c.reorder.result.mask x y i fits
    (c.settled.ensures.narrower x hx).0 (c.settled.ensures.narrower y hy).0 inside zero one)
