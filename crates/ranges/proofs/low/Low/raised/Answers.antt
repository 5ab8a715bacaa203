use Rattle.std.proofs.Common.{◌*◌, ◌%◌, ◌^◌, sym, subst, arith, ◌≤ℤ◌}
use Rattle.ranges.specs.Wides.{Has}
use Rattle.ranges.proofs.low.Low.raised.Goals as goal

pub returns-then-by-eq32-clause-contains : goal.returns-then-by-eq32-clause-contains
returns-then-by-eq32-clause-contains c = λ e h.
    c.with.ensures.common ((e * 2 ^ c.args.by) % 2 ^ 64)
    (c.shift_left-plain.ensures.contains e (c.zero_extended.ensures.contains e h))
    (subst (λ k. Has c.raised_signed.result ((e * 2 ^ k) % 2 ^ 64)) (sym c.if-by-eq32.true)
    (c.raised_signed.ensures.contains e h))

pub returns-then-by-eq32-clause-limits : goal.returns-then-by-eq32-clause-limits
returns-then-by-eq32-clause-limits c = λ fits.
    let z = c.zero_extended.ensures.limits in
    let l = c.shift_left-plain.ensures.limits (rw z.1 fits) in
    let least = rw z.0 at l.0 in
    let greatest = rw z.1 at l.1 in
    let enclosed = c.with.ensures.enclosed in
    (omega arith, omega arith)

pub returns-then-by-eq32-clause-signed : goal.returns-then-by-eq32-clause-signed
returns-then-by-eq32-clause-signed c = λ e h is.
    let plain = c.shift_left-plain.ensures.contains e (c.zero_extended.ensures.contains e h) in
    let raised = c.raised_signed.ensures.contains e h in
    let limits = c.raised_signed.ensures.limits in
    let other = c.with.ensures.other ((e * 2 ^ 32) % 2 ^ 64)
    (subst (λ k. Has c.shift_left-plain.result ((e * 2 ^ k) % 2 ^ 64)) is plain) raised in (
      subst (λ z. z ≤ℤ c.with.result.signed_least) limits.0 other.2,
      subst (λ z. c.with.result.signed_greatest ≤ℤ z) limits.1 other.3,
    )

pub returns-else-by-eq32-clause-contains : goal.returns-else-by-eq32-clause-contains
returns-else-by-eq32-clause-contains c =
    λ e h. c.shift_left-plain.ensures.contains e (c.zero_extended.ensures.contains e h)

pub returns-else-by-eq32-clause-limits : goal.returns-else-by-eq32-clause-limits
returns-else-by-eq32-clause-limits c = λ fits.
    let z = c.zero_extended.ensures.limits in
    let l = c.shift_left-plain.ensures.limits (rw z.1 fits) in
    let least = rw z.0 at l.0 in
    let greatest = rw z.1 at l.1 in
    (omega arith, omega arith)

pub returns-else-by-eq32-clause-signed : goal.returns-else-by-eq32-clause-signed
returns-else-by-eq32-clause-signed c = λ e h is. absurd (c.if-by-eq32.false is)
