use Rattle.ranges.proofs.Common.{◌*◌, ◌%◌, ◌^◌, ◌<◌, arith, ints}
use Rattle.ranges.proofs.Raised.{raised_signed}
use Rattle.ranges.proofs.low.Low.raised_signed.Goals as goal

pub returns-clause-contains : goal.returns-clause-contains
returns-clause-contains c = λ e h.
    let small : (e * 2 ^ 32) % 2 ^ 64 < 2 ^ 64 = omega arith in
    let is = raised_signed e h.below in
    let from = h.signed_from in
    let to = h.signed_to in
    (c.signed_between.ensures.members _).1 (small, omega (arith, ints), omega (arith, ints))
