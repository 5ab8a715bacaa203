use Rattle.control_flow.proofs.Common.{◌≡◌, ◌<◌, false, length, get_or, ◌∙◌, arith, both_ways}
use Rattle.control_flow.proofs.MarkLemmas.{read_at}
use Rattle.control_flow.proofs.FunctionsLaws.{functions_more_new, functions_more_old}
use Rattle.control_flow.proofs.functions.functions_of.Goals as goal
use Rattle.control_flow.proofs.functions.functions_of.Goals.{then-index, else-index}

pub loop-slot-preserved : goal.loop-slot-preserved
loop-slot-preserved c =
    let p = c.args.image.now in
    let marks = c.in_ok-marks.marks.items in
    let m = c.in_ok-marks.ensures in
    let slot = c.loop-slot.slot in
    let inside : slot < length marks = omega (arith, c.len-slot-end.ensures) in
    let read : get_or marks slot false ≡ c.index.result.now =
    read_at marks slot c.index.result.now false inside c.index.ensures in
    let each = m.each slot (omega (arith, m.same)) in
    let before = c.loop-slot.functions.items in
    elim c.if-index.branch [
      | then-index w ↦
          rw (c.in_ok-push.ensures.items, w.function-is)
          (functions_more_new p slot before c.loop-slot.function
          (each.0 (read ∙ w.if-index.true)) c.loop-slot.invariant)
      | else-index w ↦
          rw (c.in_ok-push.ensures.items, w.function-is)
          (functions_more_old p slot before c.loop-slot.function
          (λ b. both_ways (get_or marks slot false) (read ∙ w.if-index.false) (each.1 b))
          c.loop-slot.invariant)
    ]
