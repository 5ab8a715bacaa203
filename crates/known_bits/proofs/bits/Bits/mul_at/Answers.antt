use Rattle.known_bits.proofs.Common.{arith, ◌*◌, ◌+◌, width_bits, low_wrapped}
use Rattle.known_bits.proofs.Members.{is_apart}
use Rattle.known_bits.proofs.Sharp.{most_member}
use Rattle.known_bits.proofs.ProductZeros.{low-multiple, low-limit}
use Rattle.known_bits.proofs.bits.Bits.mul_at.Goals as goal

pub returns-clause-contains : goal.returns-clause-contains
returns-clause-contains c =
    λ x y hx hy.
    rw (low_wrapped c.args.width (x * y)) at
    (c.truncate.ensures.contains _ (c.mul.ensures.contains x y hx hy))

pub returns-clause-product : goal.returns-clause-product
returns-clause-product c =
    let k = is_apart c.mul.result (omega arith) (omega arith) in
    let w = width_bits c.args.width in
    let product = c.mul.ensures.product in
    record {
      zeros = λ i j z fits hi hj h.
          low-multiple k w (i + j) (product.zeros i j _ fits hi hj (most_member k))
          (rw (c.truncate.ensures.value, c.truncate.ensures.mask) at h);
      limit = λ l z small h.
          low-limit k w l (product.limit l _ small (most_member k))
          (rw (c.truncate.ensures.value, c.truncate.ensures.mask) at h);
    }
