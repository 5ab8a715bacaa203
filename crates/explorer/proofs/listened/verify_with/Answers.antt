use Rattle.image.proofs.Programs.{IsProgram-IsImage}
use Rattle.walks.proofs.AcceptingLaws.{BoundsAll-number}
use Rattle.explorer.proofs.Stopping.{halted_accepts}
use Rattle.explorer.proofs.listened.verify_with.Goals as goal

pub returns-in-Ok-clause-bounds : goal.returns-in-Ok-clause-bounds
returns-in-Ok-clause-bounds g c =
    let program = IsProgram-IsImage c.args.image c.recall.ensures in
    rw c.from_within.ensures
    (BoundsAll-number c.args.image c.in-Ok.bound program
    (rw c.in-Ok.is at c.search_with-result.ensures.number))

pub returns-in-Err-clause-accepts : goal.returns-in-Err-clause-accepts
returns-in-Err-clause-accepts g c =
    let program = IsProgram-IsImage c.args.image c.recall.ensures in
    halted_accepts c.args.image c.in-Err.halt program
    (rw c.in-Err.is at c.search_with-result.ensures.refused)

pub returns-in-Ok-clause-refused : goal.returns-in-Ok-clause-refused
returns-in-Ok-clause-refused g c = tt

pub returns-in-Ok-clause-accepts : goal.returns-in-Ok-clause-accepts
returns-in-Ok-clause-accepts g c = tt
