use Rattle.std.proofs.Common.{arith, ◌%◌, cond, nat_eq}
use Rattle.ranges.proofs.Limits.{self_or_mod, mod_not_by_zero}
use Rattle.ranges.proofs.wide.Wide.remainder.Goals as goal

pub returns-then-other-eq0-clause-contains : goal.returns-then-other-eq0-clause-contains
returns-then-other-eq0-clause-contains c = λ x y hx hy.
    let le = self_or_mod x y in
    (c.between.ensures.members (cond (nat_eq y 0) x (x % y))).1 (omega arith, omega arith)

pub returns-else-other-eq0-clause-contains : goal.returns-else-other-eq0-clause-contains
returns-else-other-eq0-clause-contains c = λ x y hx hy.
    let d = mod_not_by_zero x y (omega arith) in
    (c.between-else-other-eq0.ensures.members (cond (nat_eq y 0) x (x % y))).1
    (omega arith, omega arith)
