use Rattle.ranges.proofs.Common.{refl, subst, Sub}
use Rattle.ranges.specs.Lows.{Has}
use Rattle.ranges.proofs.LowResults.{low_of_extended, signed_kept, widened}
use Rattle.ranges.proofs.low.Low.signed_difference.Goals as goal

pub returns-clause-contains : goal.returns-clause-contains
returns-clause-contains c = λ e f he hf.
    let hx = c.sign_extended-x.ensures.contains e he in
    let hy = c.sign_extended-y.ensures.contains f hf in
    subst (Has c.low_limits.result)
    (low_of_extended Sub e f c.sign_extended-y.result he.below hf.below hx.below hy tt)
    (c.low_limits.ensures.contains _ (c.alu.ensures.contains _ _ hx hy))

pub returns-clause-signed : goal.returns-clause-signed
returns-clause-signed c = λ e f he hf fl fg.
    let hx = c.sign_extended-x.ensures.contains e he in
    let hy = c.sign_extended-y.ensures.contains f hf in
    let a = c.sign_extended-x.ensures.limits in
    let b = c.sign_extended-y.ensures.limits in
    let difference = rw (a.0, a.1, b.0, b.1) at (c.alu.ensures.signed _ _ hx hy refl) in
    signed_kept c.alu.result c.low_limits.result _ _ fl fg
    (difference (widened _ fl) (widened _ fg))
    (λ is. c.low_limits.ensures.signed _ (c.alu.ensures.contains _ _ hx hy) is)
