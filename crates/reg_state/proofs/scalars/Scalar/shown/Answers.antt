use Rattle.std.proofs.Common.{arith}
use Rattle.reg_state.proofs.scalars.Scalar.shown.Goals as goal

pub returns-clause-contains : goal.returns-clause-contains
returns-clause-contains c = λ x h least greatest.
    let known = c.in-Some.ensures.common x h (c.between.ensures.contains x least greatest) in
    let from = c.least.ensures.limit x known in
    let to = c.greatest.ensures.limit x known in
    let max = c.max-smallest.ensures in
    let min = c.min-largest.ensures in
    (known, omega arith, omega arith)

pub returns-clause-bits : goal.returns-clause-bits
returns-clause-bits c = λ x h. c.in-Some.ensures.left x h

pub returns-clause-limits : goal.returns-clause-limits
returns-clause-limits c =
    let max = c.max-smallest.ensures in
    let min = c.min-largest.ensures in
    (omega arith, omega arith, omega arith)
