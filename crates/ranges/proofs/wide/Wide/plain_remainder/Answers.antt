use Rattle.ranges.proofs.Common.{◌+◌, ◌^◌, ◌<◌, arith, sym, subst, SignedMod, width_bits}
use Rattle.ranges.specs.Wides.{Has}
use Rattle.ranges.proofs.QuotientLaws.{plain_remainder, result_below}
use Rattle.ranges.proofs.wide.Wide.plain_remainder.Goals as goal

pub returns-then-have_no_sign-clause-contains : goal.returns-then-have_no_sign-clause-contains
returns-then-have_no_sign-clause-contains c = λ x y x_in y_in hx hy.
    let w = c.args.width in
    let plain = c.have_no_sign.ensures.0 c.if-have_no_sign.true in
    let first : x + x < 2 ^ width_bits w = let to = hx.to in omega (arith, plain.0) in
    let second : y + y < 2 ^ width_bits w = let to = hy.to in omega (arith, plain.1) in
    subst (Has c.remainder.result) (sym (plain_remainder w x y first second))
    (c.remainder.ensures.contains x y hx hy)

pub returns-else-have_no_sign-clause-contains : goal.returns-else-have_no_sign-clause-contains
returns-else-have_no_sign-clause-contains c = λ x y x_in y_in hx hy.
    (c.any.ensures.members _).1 (result_below SignedMod c.args.width x y x_in y_in)
