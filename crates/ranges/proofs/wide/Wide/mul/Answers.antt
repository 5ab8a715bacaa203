use Rattle.ranges.proofs.Common.{arith, ◌*◌, ◌%◌, ◌^◌, ◌<◌, mul-le, mod-eq_of_lt}
use Rattle.ranges.proofs.wide.Wide.mul.Goals as goal

pub returns-in-Some-clause-contains : goal.returns-in-Some-clause-contains
returns-in-Some-clause-contains c = λ x y hx hy.
    let low = mul-le c.args.self.least c.args.other.least x y hx.from hy.from in
    let high = mul-le x y c.args.self.greatest c.args.other.greatest hx.to hy.to in
    let e = c.in-Some.ensures in
    rw (mod-eq_of_lt {n = x * y} {m = 2 ^ 64} (omega arith))
    ((c.between.ensures.members _).1 (omega arith, omega arith))

pub returns-in-None-clause-contains : goal.returns-in-None-clause-contains
returns-in-None-clause-contains c =
    λ x y hx hy. (c.any.ensures.members _).1 (let b : (x * y) % 2 ^ 64 < 2 ^ 64 = omega arith in b)
