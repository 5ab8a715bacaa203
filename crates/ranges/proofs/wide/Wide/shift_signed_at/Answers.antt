use Rattle.ranges.proofs.Common.{◌≡◌, ◌%◌, ◌^◌, ◌<◌, ap, sym, ◌∙◌, arith, mod-eq_of_lt, shift, arithmetic_shift_below}
use Rattle.ranges.proofs.wide.Wide.shift_signed_at.Goals as goal

pub returns-then-other-clause-contains : goal.returns-then-other-clause-contains
returns-then-other-clause-contains c =
    λ x y x_in hx hy. (c.any.ensures.members _).1 (arithmetic_shift_below c.args.width x y x_in)

pub returns-in-Low32-clause-contains : goal.returns-in-Low32-clause-contains
returns-in-Low32-clause-contains c = λ x y x_in hx hy.
    let w = c.args.width in
    let k = c.distance-by.result in
    let one : y ≡ c.args.other.least = omega arith in
    let e : shift w y ≡ k = ap (shift w) one ∙ sym c.distance-by.ensures.value in
    let k_in : k < 32 = rw c.in-Low32.is at c.distance-by.ensures.below in
    let same : k % 32 ≡ k = mod-eq_of_lt k_in in
    let small : x < 2 ^ 32 = rw c.in-Low32.is at x_in in
    rw (e, c.in-Low32.is) (rw same at (c.shift_signed_low.ensures.contains x small hx))

pub returns-in-Full64-clause-contains : goal.returns-in-Full64-clause-contains
returns-in-Full64-clause-contains c = λ x y x_in hx hy.
    let w = c.args.width in
    let one : y ≡ c.args.other.least = omega arith in
    let e : shift w y ≡ c.distance-by.result = ap (shift w) one ∙ sym c.distance-by.ensures.value in
    rw (e, c.in-Full64.is) (c.shift_signed.ensures.contains x hx)
