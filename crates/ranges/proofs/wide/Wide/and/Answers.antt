use Rattle.ranges.proofs.Common.{arith, ◌≤◌, bit_and, and_le_l, and_le_r}
use Rattle.ranges.proofs.wide.Wide.and.Goals as goal

pub returns-clause-contains : goal.returns-clause-contains
returns-clause-contains c = λ x y hx hy.
    let a = and_le_l x y in
    let b = and_le_r x y in
    (c.between.ensures.members _).1 (
      let p : 0 ≤ bit_and x y = omega arith in
          p,
      let q : bit_and x y ≤ c.min.result = omega arith in q,
    )
