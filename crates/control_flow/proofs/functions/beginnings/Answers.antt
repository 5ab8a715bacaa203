use Rattle.control_flow.proofs.Common.{◌≡◌, length, arith, sym, call_to}
use Rattle.control_flow.proofs.FunctionsLaws.{MarksFunctions-below}
use Rattle.control_flow.proofs.TargetTests.{call-inside}
use Rattle.control_flow.proofs.MarkLemmas.{marks_more_none, marks_more_some}
use Rattle.control_flow.proofs.functions.beginnings.Goals as goal
use Rattle.control_flow.proofs.functions.beginnings.Goals.{in-Some, in_default}

pub index_mut-requires-in-Some : goal.index_mut-requires-in-Some
index_mut-requires-in-Some c =
    let inside =
    call-inside c.args.image.now c.requires c.loop-slot.slot c.in-Some.to
    (sym c.in-Some.ensures) in
    omega (arith, c.loop-slot.invariant.same)

pub loop-slot-preserved : goal.loop-slot-preserved
loop-slot-preserved c =
    let p = c.args.image.now in
    elim c.match-call_target.branch [
      | in-Some w ↦
          rw w.marks-is
          (marks_more_some (λ k. k ≡ 0) (call_to p)
          (length p.insns) c.loop-slot.slot w.in-Some.to c.loop-slot.marks.items
          w.in-Some.ensures
          (call-inside p c.requires c.loop-slot.slot w.in-Some.to (sym w.in-Some.ensures))
          c.loop-slot.invariant)
      | in_default w ↦
          rw w.marks-is
          (marks_more_none (λ k. k ≡ 0) (call_to p)
          (length p.insns) c.loop-slot.slot c.loop-slot.marks.items w.in_default.ensures
          c.loop-slot.invariant)
    ]

pub returns : goal.returns
returns c =
    MarksFunctions-below c.args.image.now c.loop-slot.marks.items c.loop-slot.slot
    (omega arith) c.loop-slot.invariant
