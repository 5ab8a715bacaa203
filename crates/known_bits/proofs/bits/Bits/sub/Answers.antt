use Rattle.std.proofs.Common.{◌≡◌, ◌+◌, ◌-◌, ◌%◌, ◌^◌, arith}
use Rattle.known_bits.proofs.Sharp.{set_below}
use Rattle.known_bits.proofs.Precise.{occurs_not}
use Rattle.known_bits.proofs.bits.Bits.sub.Goals as goal

pub returns-clause-contains : goal.returns-clause-contains
returns-clause-contains c = λ x y hx hy.
    let h = c.not.ensures.contains _
    (c.add-sum.ensures.contains _ y (c.not-flipped.ensures.contains x hx) hy) in
    let bx = hx.below in
    let by = hy.below in
    let e : 2 ^ 64 - 1 - (2 ^ 64 - 1 - x + y) % 2 ^ 64 ≡ (x + (2 ^ 64 - y)) % 2 ^ 64 =
    omega arith in
    rw e at h

pub returns-clause-sharp : goal.returns-clause-sharp
returns-clause-sharp c = λ i h.
    let unknown = rw c.not.ensures.mask at h in
    let i_in = set_below c.add-sum.result.mask i (omega arith) unknown in
    let both = c.add-sum.ensures.sharp i unknown in (
      occurs_not c.not-flipped.ensures.back i 1 i_in both.1,
      occurs_not c.not-flipped.ensures.back i 0 i_in both.0,
    )
