use Rattle.std.proofs.Common.{◌≡◌, arith}
use Rattle.known_bits.proofs.Parts.{product_more}
use Rattle.known_bits.proofs.Product.{product_none, product_all}
use Rattle.known_bits.proofs.bits.Bits.sum_of_terms.Goals as goal

pub loop-i-init : goal.loop-i-init
loop-i-init c = λ x y hx hy. rw (product_none x y) c.constant-sum.ensures.contains

pub loop-i-preserved : goal.loop-i-preserved
loop-i-preserved c = λ x y hx hy.
    rw (product_more x y c.loop-i.i) at
    (c.add-sum.ensures.contains _ _ (c.loop-i.invariant x y hx hy) (c.term.ensures x y hx hy))

pub returns : goal.returns
returns c = λ x y hx hy.
    let e : c.loop-i.i ≡ 64 = omega arith in
    rw (product_all x y hx.below) at (rw e at (c.loop-i.invariant x y hx hy))
