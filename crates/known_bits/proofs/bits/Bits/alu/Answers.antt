use Rattle.known_bits.proofs.Common.{arith, rules, ap, ◌∙◌, bit_and, bit_or, bit_xor, and_mod, or_mod, xor_mod, Add, Sub, Lsh, Rsh, alu, result_of, alu_below}
use Rattle.known_bits.proofs.LowParts.{AreLow, lifted_sharp, moved_sharp, low_constant, lifted_product, bitwise_sharp, constant_product}
use Rattle.known_bits.proofs.bits.Bits.alu.Goals as goal

pub returns-in-Or-clause-contains : goal.returns-in-Or-clause-contains
unfolding alu
returns-in-Or-clause-contains c = λ x y hx hy.
    rw (c.in-Or.is, ← or_mod x y _) (c.truncate.ensures.contains _ (c.or.ensures.contains x y hx hy))

pub returns-in-Or-clause-sharp : goal.returns-in-Or-clause-sharp
unfolding alu
returns-in-Or-clause-sharp c = λ l.
    rw c.in-Or.is (bitwise_sharp c.args.a c.args.b _ bit_or or_mod _ _ c.or.ensures.sharp c.truncate.ensures.mask)

pub returns-in-And-clause-contains : goal.returns-in-And-clause-contains
unfolding alu
returns-in-And-clause-contains c = λ x y hx hy.
    rw (c.in-And.is, ← and_mod x y _) (c.truncate-in-And.ensures.contains _ (c.and.ensures.contains x y hx hy))

pub returns-in-And-clause-sharp : goal.returns-in-And-clause-sharp
unfolding alu
returns-in-And-clause-sharp c = λ l.
    rw c.in-And.is (bitwise_sharp c.args.a c.args.b _ bit_and and_mod _ _ c.and.ensures.sharp c.truncate-in-And.ensures.mask)

pub returns-in-Xor-clause-contains : goal.returns-in-Xor-clause-contains
unfolding alu
returns-in-Xor-clause-contains c = λ x y hx hy.
    rw (c.in-Xor.is, ← xor_mod x y _) (c.truncate-in-Xor.ensures.contains _ (c.xor.ensures.contains x y hx hy))

pub returns-in-Xor-clause-sharp : goal.returns-in-Xor-clause-sharp
unfolding alu
returns-in-Xor-clause-sharp c = λ l.
    rw c.in-Xor.is (bitwise_sharp c.args.a c.args.b _ bit_xor xor_mod _ _ c.xor.ensures.sharp c.truncate-in-Xor.ensures.mask)

pub returns-in-Div-clause-contains : goal.returns-in-Div-clause-contains
returns-in-Div-clause-contains c = λ x y hx hy.
    (c.any.ensures _).1 (alu_below c.args.op c.args.width x y)

pub returns-in-Add-clause-sharp : goal.returns-in-Add-clause-sharp
unfolding alu
returns-in-Add-clause-sharp c = λ precise.
    let are : AreLow c.args.width c.args.a c.args.b c.truncate-x.result c.truncate-y.result =
    search rules in
    rw c.in-Add.is (lifted_sharp are (result_of Add c.args.width) _ c.add_at.ensures.sharp)

pub returns-in-Sub-clause-sharp : goal.returns-in-Sub-clause-sharp
unfolding alu
returns-in-Sub-clause-sharp c = λ precise.
    let are : AreLow c.args.width c.args.a c.args.b c.truncate-x.result c.truncate-y.result =
    search rules in
    rw c.in-Sub.is
    (lifted_sharp are (result_of Sub c.args.width) _
    (c.sub_at.ensures.sharp (λ y hy. (let b = c.truncate-y.ensures.fits y hy in omega arith))))

pub returns-in-Lsh-clause-sharp : goal.returns-in-Lsh-clause-sharp
unfolding alu
returns-in-Lsh-clause-sharp c = λ precise.
    let are : AreLow c.args.width c.args.a c.args.b c.truncate-x.result c.truncate-y.result =
    search rules in
    let known = c.shift_left_at.ensures.sharp (low_constant are (rw c.in-Lsh.is at precise)) in
    rw c.in-Lsh.is (lifted_sharp are (result_of Lsh c.args.width) _ known)

pub returns-in-Rsh-clause-sharp : goal.returns-in-Rsh-clause-sharp
unfolding alu
returns-in-Rsh-clause-sharp c = λ precise.
    let are : AreLow c.args.width c.args.a c.args.b c.truncate-x.result c.truncate-y.result =
    search rules in
    let known = c.shift_right_at.ensures.sharp (low_constant are (rw c.in-Rsh.is at precise)) in
    rw c.in-Rsh.is
    (lifted_sharp are (result_of Rsh c.args.width) _ (known c.truncate-x.ensures.fits))

pub returns-in-Mov-clause-sharp : goal.returns-in-Mov-clause-sharp
unfolding alu
returns-in-Mov-clause-sharp c = λ precise.
    let are : AreLow c.args.width c.args.a c.args.b c.truncate-x.result c.truncate-y.result =
    search rules in
    rw c.in-Mov.is (moved_sharp are)

pub returns-in-Mul-clause-product : goal.returns-in-Mul-clause-product
returns-in-Mul-clause-product c = λ is.
    let are : AreLow c.args.width c.args.a c.args.b c.truncate-x.result c.truncate-y.result =
    search rules in
    lifted_product are c.mul_at.ensures.product

pub returns-then-b-eq0-clause-fits : goal.returns-then-b-eq0-clause-fits
returns-then-b-eq0-clause-fits c = λ x h.
    let same = c.constant.ensures.only x h in
    let is = c.compute.ensures in
    let below = alu_below c.args.op c.args.width c.args.a.value c.args.b.value in
    omega arith

pub returns-then-b-eq0-clause-product : goal.returns-then-b-eq0-clause-product
returns-then-b-eq0-clause-product c = λ is.
    let product = c.compute.ensures
    ∙ ap (λ op. alu op c.args.width c.args.a.value c.args.b.value) is in
    constant_product c.args.a c.args.b c.constant.result c.args.width c.if-a-eq0.true c.if-b-eq0.true
    (λ z h. c.constant.ensures.only z h ∙ product)
