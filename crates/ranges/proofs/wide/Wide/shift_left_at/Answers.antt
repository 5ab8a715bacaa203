use Rattle.ranges.proofs.Common.{◌≡◌, ◌*◌, ◌^◌, ap, sym, ◌∙◌, arith, shift, low_wrapped, low_below}
use Rattle.ranges.proofs.wide.Wide.shift_left_at.Goals as goal

pub returns-then-other-clause-contains : goal.returns-then-other-clause-contains
returns-then-other-clause-contains c =
    λ x y hx hy. (c.any.ensures.members _).1 (low_below c.args.width _)

pub returns-clause-contains : goal.returns-clause-contains
returns-clause-contains c = λ x y hx hy.
    let w = c.args.width in
    let k = c.distance.result in
    let one : y ≡ c.args.other.least = omega arith in
    let e : shift w y ≡ k = ap (shift w) one ∙ sym c.distance.ensures.value in
    rw e (rw (low_wrapped w (x * 2 ^ k)) at
    (c.truncate.ensures.contains _ (c.shift_left.ensures.contains x hx)))
