use Rattle.known_bits.proofs.Common.{low_difference, ◌+◌, ◌-◌, ◌%◌, ◌^◌, Sub, width_bits, result_of}
use Rattle.known_bits.proofs.Sharp.{low_set, occurs_low}
use Rattle.known_bits.proofs.bits.Bits.sub_at.Goals as goal

pub returns-clause-contains : goal.returns-clause-contains
returns-clause-contains c =
    λ x y y_in hx hy.
    rw (low_difference c.args.width x y y_in) at
    (c.truncate.ensures.contains _ (c.sub.ensures.contains x y hx hy))

pub returns-clause-sharp : goal.returns-clause-sharp
returns-clause-sharp c = λ fits i h.
    let w = c.args.width in
    let s = low_set c.sub.result.mask (width_bits w) i (rw c.truncate.ensures.mask at h) in
    let o = c.sub.ensures.sharp i s.1 in (
      occurs_low (λ x y. (x + (2 ^ 64 - y)) % 2 ^ 64) (result_of Sub w) (width_bits w) i 0 s.0
          (λ x y hx hy. low_difference w x y (fits y hy)) o.0,
      occurs_low (λ x y. (x + (2 ^ 64 - y)) % 2 ^ 64) (result_of Sub w) (width_bits w) i 1 s.0
          (λ x y hx hy. low_difference w x y (fits y hy)) o.1,
    )
