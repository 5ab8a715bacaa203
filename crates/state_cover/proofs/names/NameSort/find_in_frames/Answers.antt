use Rattle.state_cover.proofs.Common.{◌∙◌, sym, arith, is_named}
use Rattle.state_cover.proofs.Places.{find-places}
use Rattle.state_cover.proofs.names.NameSort.find_in_frames.Goals as goal

pub returns-in-Some : goal.returns-in-Some
returns-in-Some c =
    let split = find-places
    (λ place. is_named c.args.self c.args.identity place.0) c.args.left.now c.args.right.now
    c.loop-index.index c.index-left-index.result c.index-right-index.result (omega arith)
    (omega arith) c.index-left-index.is c.index-right-index.is in
    sym (rw (← c.in-Some.ensures) at split) ∙ c.loop-index.invariant

pub loop-index-preserved : goal.loop-index-preserved
loop-index-preserved c =
    let split = find-places
    (λ place. is_named c.args.self c.args.identity place.0) c.args.left.now c.args.right.now
    c.loop-index.index c.index-left-index.result c.index-right-index.result (omega arith)
    (omega arith) c.index-left-index.is c.index-right-index.is in
    sym (rw (← c.in_default.ensures) at split) ∙ c.loop-index.invariant
