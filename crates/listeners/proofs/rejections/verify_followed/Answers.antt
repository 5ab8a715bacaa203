use Rattle.listeners.proofs.Common.{IsProgram-IsImage, BoundsAll-number}
use Rattle.listeners.proofs.Stops.{rejected_accepts}
use Rattle.listeners.proofs.rejections.verify_followed.Goals as goal

pub returns-in-Ok-clause-bounds : goal.returns-in-Ok-clause-bounds
returns-in-Ok-clause-bounds g c =
    let program = IsProgram-IsImage c.args.image c.recall.ensures in
    rw c.from_within.ensures
    (BoundsAll-number c.args.image c.in-Ok.bound program
    (rw c.in-Ok.is at c.search_with-result.ensures.number))

pub returns-in-Err-clause-refused : goal.returns-in-Err-clause-refused
returns-in-Err-clause-refused g c =
    c.why_unverified.ensures c.args.image (rw c.in-Err.is at c.search_with-result.ensures.refused)

pub returns-in-Err-clause-accepts : goal.returns-in-Err-clause-accepts
returns-in-Err-clause-accepts g c =
    rejected_accepts c.why_unverified.result c.args.image
    (IsProgram-IsImage c.args.image c.recall.ensures)
    (c.why_unverified.ensures c.args.image (rw c.in-Err.is at c.search_with-result.ensures.refused))

pub returns-in-Ok-clause-refused : goal.returns-in-Ok-clause-refused
returns-in-Ok-clause-refused g c = tt

pub returns-in-Ok-clause-accepts : goal.returns-in-Ok-clause-accepts
returns-in-Ok-clause-accepts g c = tt
