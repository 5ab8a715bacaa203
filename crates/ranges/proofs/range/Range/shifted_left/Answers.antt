use Rattle.ranges.proofs.Common.{◌≡◌, subst, sym, ◌∙◌, arith, ints, Full64, shift}
use Rattle.ranges.specs.Wides as W
use Rattle.ranges.proofs.Raised.{shifted_raised}
use Rattle.ranges.proofs.range.Range.shifted_left.Goals as goal

pub returns-then-by-ge32-clause-contains : goal.returns-then-by-ge32-clause-contains
returns-then-by-ge32-clause-contains c = λ x y hx hy.
    let from = hy.0.from in
    let to = hy.0.to in
    let one : y ≡ c.args.b.wide.least = omega arith in
    let k : c.distance-by.result ≡ shift Full64 y =
    rw one (rw c.in-Full64.is at c.distance-by.ensures.value) in
    let is = shifted_raised x y c.distance-by.result hx.0.below hy.0.below k (omega arith) in
    let raised = subst (W.Has c.raised.result) (sym is) (c.raised.ensures.contains _ hx.1) in
    rw c.in-Full64.is
    (c.with.ensures.common _
    (rw c.in-Full64.is at (c.alu-wide.ensures.contains x y hx.0 hy.0)) raised)

pub returns-then-by-ge32-clause-raised : goal.returns-then-by-ge32-clause-raised
returns-then-by-ge32-clause-raised c = λ x y hx hy full one far fits.
    let from = hy.0.from in
    let to = hy.0.to in
    let same : y ≡ c.args.b.wide.least = omega arith in
    let k : c.distance-by.result ≡ shift Full64 y =
    rw same (rw full at c.distance-by.ensures.value) in
    let is = shifted_raised x y c.distance-by.result hx.0.below hy.0.below k (omega arith) in
    let raised = subst (W.Has c.raised.result) (sym is) (c.raised.ensures.contains _ hx.1) in
    let other = c.with.ensures.other _
    (rw full at (c.alu-wide.ensures.contains x y hx.0 hy.0)) raised in
    let by = sym c.distance-by.ensures.value in
    let limits = c.raised.ensures.limits (rw by at fits) in
    rw by (omega (arith, limits.0, other.0), omega (arith, limits.1, other.1))

pub returns-then-by-ge32-clause-raised_signed : goal.returns-then-by-ge32-clause-raised_signed
returns-then-by-ge32-clause-raised_signed c = λ x y hx hy full one is32.
    let from = hy.0.from in
    let to = hy.0.to in
    let same : y ≡ c.args.b.wide.least = omega arith in
    let k : c.distance-by.result ≡ shift Full64 y =
    rw same (rw full at c.distance-by.ensures.value) in
    let is = shifted_raised x y c.distance-by.result hx.0.below hy.0.below k (omega arith) in
    let raised = subst (W.Has c.raised.result) (sym is) (c.raised.ensures.contains _ hx.1) in
    let other = c.with.ensures.other _
    (rw full at (c.alu-wide.ensures.contains x y hx.0 hy.0)) raised in
    let limits = c.raised.ensures.signed _ hx.1 (c.distance-by.ensures.value ∙ is32) in
    (omega (arith, ints, limits.0, other.2), omega (arith, ints, limits.1, other.3))
