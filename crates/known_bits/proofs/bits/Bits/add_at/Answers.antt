use Rattle.known_bits.proofs.Common.{◌+◌, ◌%◌, ◌^◌, low_wrapped, Add, width_bits, result_of}
use Rattle.known_bits.proofs.Sharp.{low_set, occurs_low}
use Rattle.known_bits.proofs.bits.Bits.add_at.Goals as goal

pub returns-clause-contains : goal.returns-clause-contains
returns-clause-contains c =
    λ x y hx hy.
    rw (low_wrapped c.args.width (x + y)) at
    (c.truncate.ensures.contains _ (c.add.ensures.contains x y hx hy))

pub returns-clause-sharp : goal.returns-clause-sharp
returns-clause-sharp c = λ i h.
    let w = c.args.width in
    let s = low_set c.add.result.mask (width_bits w) i (rw c.truncate.ensures.mask at h) in
    let o = c.add.ensures.sharp i s.1 in (
      occurs_low (λ x y. (x + y) % 2 ^ 64) (result_of Add w) (width_bits w) i 0 s.0
          (λ x y hx hy. low_wrapped w (x + y)) o.0,
      occurs_low (λ x y. (x + y) % 2 ^ 64) (result_of Add w) (width_bits w) i 1 s.0
          (λ x y hx hy. low_wrapped w (x + y)) o.1,
    )
