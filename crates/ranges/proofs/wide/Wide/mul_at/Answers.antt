use Rattle.ranges.proofs.Common.{◌*◌, arith, low_wrapped, width_fits}
use Rattle.ranges.proofs.wide.Wide.mul_at.Goals as goal

pub returns-clause-contains : goal.returns-clause-contains
returns-clause-contains c =
    λ x y hx hy.
    rw (low_wrapped c.args.width (x * y)) at
    (c.truncate.ensures.contains _ (c.mul.ensures.contains x y hx hy))

pub returns-clause-limits : goal.returns-clause-limits
returns-clause-limits c = λ fits.
    let f = width_fits c.args.width in
    let m = c.mul.ensures.limits (omega arith) in
    rw (c.truncate.ensures.same (omega arith)) m
