use Rattle.ranges.proofs.Common.{◌≡◌, ◌/◌, ◌^◌, ap, sym, ◌∙◌, arith, div-le_self, shift}
use Rattle.ranges.proofs.wide.Wide.shift_right_at.Goals as goal

pub returns-then-other-clause-contains : goal.returns-then-other-clause-contains
returns-then-other-clause-contains c = λ x y hx hy.
    let k = 2 ^ shift c.args.width y in
    let l = div-le_self x k in
    (c.between.ensures.members (x / k)).1 (omega arith, omega arith)

pub returns-clause-contains : goal.returns-clause-contains
returns-clause-contains c = λ x y hx hy.
    let w = c.args.width in
    let one : y ≡ c.args.other.least = omega arith in
    let e : shift w y ≡ c.distance.result = ap (shift w) one ∙ sym c.distance.ensures.value in
    rw e (c.shift_right.ensures.contains x hx)
