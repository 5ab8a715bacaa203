use Rattle.std.proofs.Common.{rules}
use Rattle.transfer.proofs.step.Goals as goal

pub returns-in-Ok-None-clause-steps : goal.returns-in-Ok-None-clause-steps
returns-in-Ok-None-clause-steps c = λ i here.
    let steps = rw (c.copy-first.ensures, c.in-Ok-None.field-0-is) at c.in-Ok-None.ensures.steps in
    (c.step_in_place.new.state, c.step_in_place.new.other, steps i here)

pub returns-in-Ok-One-clause-steps : goal.returns-in-Ok-One-clause-steps
returns-in-Ok-One-clause-steps c = λ i here.
    let steps = rw (c.copy-first.ensures, c.in-Ok-One.field-0-is) at c.in-Ok-One.ensures.steps in
    (c.step_in_place.new.other, steps i here)

pub returns-in-Ok-Two-clause-leads : goal.returns-in-Ok-Two-clause-leads
returns-in-Ok-Two-clause-leads c = search rules

pub returns-in-Ok-Two-clause-steps : goal.returns-in-Ok-Two-clause-steps
returns-in-Ok-Two-clause-steps c = search rules
