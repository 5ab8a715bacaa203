use Rattle.ranges.proofs.Common.{arith, ◌<◌, ◌^◌, ints, alu, alu_below, low_below, width_bits}
use Rattle.ranges.proofs.wide.Wide.alu.Goals as goal

pub returns-in-Add-clause-contains : goal.returns-in-Add-clause-contains
unfolding alu
returns-in-Add-clause-contains c =
    λ x y hx hy.
    rw c.in-Add.is
    (c.add_at.ensures.contains _ _ (c.truncate-x.ensures.contains x hx)
    (c.truncate-y.ensures.contains y hy))

pub returns-in-Sub-clause-contains : goal.returns-in-Sub-clause-contains
unfolding alu
returns-in-Sub-clause-contains c =
    λ x y hx hy.
    rw c.in-Sub.is
    (c.sub_at.ensures.contains _ _ (let b = low_below c.args.width y in omega arith)
    (c.truncate-x.ensures.contains x hx) (c.truncate-y.ensures.contains y hy))

pub returns-in-Mul-clause-contains : goal.returns-in-Mul-clause-contains
unfolding alu
returns-in-Mul-clause-contains c =
    λ x y hx hy.
    rw c.in-Mul.is
    (c.mul_at.ensures.contains _ _ (c.truncate-x.ensures.contains x hx)
    (c.truncate-y.ensures.contains y hy))

pub returns-in-Or-clause-contains : goal.returns-in-Or-clause-contains
returns-in-Or-clause-contains c =
    λ x y hx hy. (c.any.ensures.members _).1 (alu_below c.args.op c.args.width x y)

pub returns-in-Sub-clause-signed : goal.returns-in-Sub-clause-signed
returns-in-Sub-clause-signed c = λ x y hx hy full.
    let fa : c.args.a.greatest < 2 ^ width_bits c.args.width = rw full (omega arith) in
    let fb : c.args.b.greatest < 2 ^ width_bits c.args.width = rw full (omega arith) in
    rw c.in-Sub.is (rw (c.truncate-x.ensures.same fa, c.truncate-y.ensures.same fb)
    at (c.sub_at.ensures.signed _ _ (c.truncate-x.ensures.contains x hx)
    (c.truncate-y.ensures.contains y hy) full))

pub returns-in-Mov-clause-signed : goal.returns-in-Mov-clause-signed
returns-in-Mov-clause-signed c = λ x y hx hy full.
    let fb : c.args.b.greatest < 2 ^ width_bits c.args.width = rw full (omega arith) in
    rw (c.in-Mov.is, c.truncate-y.ensures.same fb) (omega (arith, ints), omega (arith, ints))

pub returns-in-SignedDiv-clause-contains : goal.returns-in-SignedDiv-clause-contains
unfolding alu
returns-in-SignedDiv-clause-contains c = λ x y hx hy.
    let w = c.args.width in
    rw c.in-SignedDiv.is
    (c.signed_divide_at.ensures.contains _ _ (low_below w x) (low_below w y)
    (c.truncate-x.ensures.contains x hx) (c.truncate-y.ensures.contains y hy))

pub returns-in-SignedDiv-clause-signed : goal.returns-in-SignedDiv-clause-signed
returns-in-SignedDiv-clause-signed c = λ x y hx hy full.
    let fa : c.args.a.greatest < 2 ^ width_bits c.args.width = rw full (omega arith) in
    let fb : c.args.b.greatest < 2 ^ width_bits c.args.width = rw full (omega arith) in
    rw c.in-SignedDiv.is (rw (c.truncate-x.ensures.same fa, c.truncate-y.ensures.same fb)
    at (c.signed_divide_at.ensures.signed _ _ (c.truncate-x.ensures.contains x hx)
    (c.truncate-y.ensures.contains y hy) full))

pub returns-in-SignedMod-clause-contains : goal.returns-in-SignedMod-clause-contains
unfolding alu
returns-in-SignedMod-clause-contains c = λ x y hx hy.
    let w = c.args.width in
    rw c.in-SignedMod.is
    (c.signed_remainder_at.ensures.contains _ _ (low_below w x) (low_below w y)
    (c.truncate-x.ensures.contains x hx) (c.truncate-y.ensures.contains y hy))

pub returns-in-SignedMod-clause-signed : goal.returns-in-SignedMod-clause-signed
returns-in-SignedMod-clause-signed c = λ x y hx hy full.
    let fa : c.args.a.greatest < 2 ^ width_bits c.args.width = rw full (omega arith) in
    let fb : c.args.b.greatest < 2 ^ width_bits c.args.width = rw full (omega arith) in
    rw c.in-SignedMod.is (rw (c.truncate-x.ensures.same fa, c.truncate-y.ensures.same fb)
    at (c.signed_remainder_at.ensures.signed _ _ (c.truncate-x.ensures.contains x hx)
    (c.truncate-y.ensures.contains y hy) full))
