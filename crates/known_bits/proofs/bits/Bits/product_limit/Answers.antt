use Rattle.known_bits.proofs.Common.{arith, ◌*◌, ◌^◌, ◌<◌, mul-le, mod-eq_of_lt}
use Rattle.known_bits.proofs.ProductZeros.{member-below}
use Rattle.known_bits.proofs.bits.Bits.product_limit.Goals as goal

pub returns-in-Some-clause-contains : goal.returns-in-Some-clause-contains
returns-in-Some-clause-contains c = λ x y hx hy.
    let high = mul-le x y c.greatest.result c.greatest-2.result (c.greatest.ensures.limit x hx)
    (c.greatest-2.ensures.limit y hy) in
    let e = c.in-Some.ensures in
    rw (mod-eq_of_lt {n = x * y} {m = 2 ^ 64} (omega arith))
    (c.between.ensures.contains _ (omega arith) (omega arith))

pub returns-in-Some-clause-limit : goal.returns-in-Some-clause-limit
returns-in-Some-clause-limit c = λ l z small h.
    let e = c.in-Some.ensures in
    let zero = c.between.ensures.contains 0 (omega arith) (omega arith) in
    let below : c.in-Some.greatest < 2 ^ l =
    let product : c.greatest.result * c.greatest-2.result < 2 ^ l =
    rw (c.greatest.ensures.value, c.greatest-2.ensures.value) small in
    omega arith in
    member-below c.between.result.value c.between.result.mask c.in-Some.greatest z l
    (omega arith) zero c.between.ensures.sharp below h
