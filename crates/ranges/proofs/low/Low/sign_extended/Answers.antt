use Rattle.ranges.proofs.Common.{◌≡◌, ◌<◌, ◌^◌, arith, w64, w32, cast_signed, cast_unsigned, ints}
use Rattle.ranges.proofs.LowLaws.{low_signed_equation}
use Rattle.ranges.proofs.low.Low.sign_extended.Goals as goal

pub returns-clause-contains : goal.returns-clause-contains
returns-clause-contains c = λ e h.
    let q = low_signed_equation e h.below in
    let small : cast_unsigned w64 (cast_signed w32 e) < 2 ^ 64 = omega (arith, ints) in
    let same : cast_signed w64 (cast_unsigned w64 (cast_signed w32 e)) ≡ cast_signed w32 e =
    omega (arith, ints) in
    (c.signed_between.ensures.members _).1 (small, omega (arith, ints), omega (arith, ints))
