use Rattle.ranges.proofs.Common.{arith, arithmetic_shift_below, Low32}
use Rattle.ranges.proofs.Limits.{shift_low_small}
use Rattle.ranges.proofs.wide.Wide.shift_signed_low.Goals as goal

pub returns-then-self-lt2147483648-clause-contains : goal.returns-then-self-lt2147483648-clause-contains
returns-then-self-lt2147483648-clause-contains c =
    λ x x_in hx.
    rw (shift_low_small x c.args.by (omega arith) c.requires) (c.shift_right.ensures.contains x hx)

pub returns-else-self-lt2147483648-clause-contains : goal.returns-else-self-lt2147483648-clause-contains
returns-else-self-lt2147483648-clause-contains c =
    λ x x_in hx. (c.any.ensures.members _).1 (arithmetic_shift_below Low32 x c.args.by x_in)
