use Rattle.reg_state.proofs.Common.{◌<◌, ◌%◌, ◌^◌, arith, bit_at-differing, w32, cast_signed}
use Rattle.ranges.proofs.FitsLaws.{fits_within}
use Rattle.ranges.specs.Keeps.{extension_signed}
use Rattle.ranges.proofs.EnclosesLaws.{enclosed_has, enclosed_low}
use Rattle.reg_state.proofs.scalars.ScalarDomain.sign_extend.Goals as goal

pub returns-clause-contains : goal.returns-clause-contains
returns-clause-contains c =
    λ x h. c.settled.ensures.contains _
    (c.sign_extend.ensures.contains x h.0, c.sign_extend-2.ensures.contains x h.1)

pub returns-clause-exact : goal.returns-clause-exact
returns-clause-exact c =
    λ u h. c.settled.ensures.constant _
    (c.sign_extend.ensures.exact u h.0, c.sign_extend-2.ensures.exact u h.1)

pub returns-clause-fits : goal.returns-clause-fits
returns-clause-fits c = λ x h. c.sign_extend.ensures.fits x (c.settled.ensures.narrower x h).0

pub returns-clause-small : goal.returns-clause-small
returns-clause-small c = λ small z h.
    let r = (c.settled.ensures.narrower z h).1.0 in
    let kept = c.sign_extend-2.ensures.small small in
    let from = r.from in
    let to = r.to in
    (omega (arith, kept.0, from), omega (arith, kept.1, to))

pub returns-clause-kept : goal.returns-clause-kept
returns-clause-kept c = λ x hx full within z h.
    let r = (c.settled.ensures.narrower z h).1 in
    enclosed_has c.args.a.range c.sign_extend-2.result z
    (c.sign_extend-2.ensures.kept x hx.1 full within) r

pub returns-clause-low_signed : goal.returns-clause-low_signed
returns-clause-low_signed c = λ x hx z h.
    let r = (c.settled.ensures.narrower z h).1.1 in
    let l = c.sign_extend-2.result.low in
    let fits = c.sign_extend-2.ensures.low_signed x hx.1 in
    fits_within (extension_signed c.args.extension) l.signed_least l.signed_greatest
    (cast_signed w32 (z % 2 ^ 32)) fits.0 fits.1 r.signed_from r.signed_to

pub returns-clause-low_kept : goal.returns-clause-low_kept
returns-clause-low_kept c = λ x hx within z h.
    enclosed_low c.args.a.range.low c.sign_extend-2.result.low _
    (c.sign_extend-2.ensures.low_kept x hx.1 within) (c.settled.ensures.narrower z h).1.1

pub returns-clause-sharp : goal.returns-clause-sharp
returns-clause-sharp c = λ i x y inside hx hy zero one.
    let fits : c.sign_extend.result.mask < 2 ^ 64 = omega arith in
    c.sign_extend.ensures.sharp i
    (bit_at-differing c.sign_extend.result.value c.sign_extend.result.mask x y i fits
    (c.settled.ensures.narrower x hx).0 (c.settled.ensures.narrower y hy).0 inside zero one)
