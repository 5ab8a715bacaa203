use Rattle.proof_table.proofs.Common.{start, HasNumber}
use Rattle.bounds.specs.Bounds.{IsVerified}
use Rattle.image.proofs.Programs.{IsProgram-IsImage}
use Rattle.walks.proofs.AcceptingLaws.{AcceptsAll-refused, BoundsAll-number}
use Rattle.walks.specs.Accepting.{BoundsAll}
use Rattle.proof_table.proofs.ListingLaws.{OfStart-number}
use Rattle.proof_table.proofs.listing.explore.Goals as goal

pub returns-in-Ok-clause-verified : goal.returns-in-Ok-clause-verified
returns-in-Ok-clause-verified c =
    let ensures = c.search_with-result.ensures in
    OfStart-number c.number_start.new.insns.items c.in-Ok.number
    (λ n. IsVerified (record { program = c.args.image.now; bound = n }))
    c.number_start.ensures
    (record {
      image = c.recall.ensures;
      ends = rw c.in-Ok.is at ensures.ends;
      some = rw c.in-Ok.is at ensures.some;
      most = rw c.in-Ok.is at ensures.most;
    })

pub returns-in-Ok-clause-number : goal.returns-in-Ok-clause-number
returns-in-Ok-clause-number c =
    OfStart-number c.number_start.new.insns.items c.in-Ok.number (HasNumber c.args.image.now start)
    c.number_start.ensures (rw c.in-Ok.is at c.search_with-result.ensures.number)

pub returns-in-Ok-clause-bounds : goal.returns-in-Ok-clause-bounds
returns-in-Ok-clause-bounds c =
    let program = IsProgram-IsImage c.args.image.now c.recall.ensures in
    OfStart-number c.number_start.new.insns.items c.in-Ok.number (BoundsAll c.args.image.now)
    c.number_start.ensures
    (BoundsAll-number c.args.image.now c.in-Ok.number program
    (rw c.in-Ok.is at c.search_with-result.ensures.number))

pub returns-in-Err-clause-accepts : goal.returns-in-Err-clause-accepts
returns-in-Err-clause-accepts c =
    let program = IsProgram-IsImage c.args.image.now c.recall.ensures in
    AcceptsAll-refused c.args.image.now c.refusal_of.result.0 c.refusal_of.result.1 program
    (c.refusal_of.ensures c.args.image.now
    (rw c.in-Err.is at c.search_with-result.ensures.refused)
    (rw c.in-Err.is at c.search_with-result.ensures.stopped))
