use Rattle.rechecking.specs.declared.errors.TableError.TheVariants.{Step, Successor}
use Rattle.explanations.proofs.EntryLaws.{reasons_of}
use Rattle.explanations.proofs.entries.entry_reason.Goals as goal

pub returns-in-Step : goal.returns-in-Step
returns-in-Step c =
    let found = c.in-Ok.ensures in
    rw c.in-Step.is (reasons_of c.args.image.now c.args.bytes.now c.in-Ok.table found.0
    (Step c.in-Step.index c.in-Step.refusal) c.step_reason.result found.1 found.2
    c.step_reason.ensures)

pub returns-in-Successor : goal.returns-in-Successor
returns-in-Successor c =
    let found = c.in-Ok.ensures in
    rw c.in-Successor.is
    (reasons_of c.args.image.now c.args.bytes.now c.in-Ok.table found.0
    (Successor c.in-Successor.index) c.successor_reason.result found.1 found.2
    c.successor_reason.ensures)
