use Rattle.std.proofs.Common.{arith, ◌/◌, cond, nat_eq}
use Rattle.ranges.proofs.Limits.{zero_or_div, div_not_by_zero}
use Rattle.ranges.proofs.wide.Wide.divide.Goals as goal

pub returns-then-other-eq0-clause-contains : goal.returns-then-other-eq0-clause-contains
returns-then-other-eq0-clause-contains c = λ x y hx hy.
    let le = zero_or_div x y in
    (c.between.ensures.members (cond (nat_eq y 0) 0 (x / y))).1 (omega arith, omega arith)

pub returns-else-other-eq0-clause-contains : goal.returns-else-other-eq0-clause-contains
returns-else-other-eq0-clause-contains c = λ x y hx hy.
    let d = div_not_by_zero x y c.args.self.least c.args.self.greatest c.args.other.least
    c.args.other.greatest (omega arith) hx.from hx.to hy.from hy.to in
    (c.between-else-other-eq0.ensures.members (cond (nat_eq y 0) 0 (x / y))).1 (d.0, d.1)
