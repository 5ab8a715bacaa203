use Rattle.std.proofs.Common.{arith}
use Rattle.reg_state.proofs.scalars.Scalar.limited.Goals as goal

pub returns-clause-contains : goal.returns-clause-contains
returns-clause-contains c = λ x h least greatest.
    let inside = c.shown-least.ensures.contains x h least greatest in
    c.single.ensures.contains x
    (inside.0, (c.between-range.ensures.members x).1 (inside.1, inside.2))

pub returns-clause-narrower : goal.returns-clause-narrower
returns-clause-narrower c = λ x h.
    let inside = c.single.ensures.narrower x h in
    let limits = c.shown-least.ensures.limits in
    let least = limits.0 in
    let greatest = limits.2 in
    let within = (c.between-range.ensures.members x).0 inside.1 in
    let from = within.0 in
    let to = within.1 in
    (c.shown-least.ensures.bits x inside.0, omega arith, omega arith)
