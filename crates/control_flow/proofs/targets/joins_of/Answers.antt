use Rattle.control_flow.proofs.Common.{length, arith, sym, jump_to}
use Rattle.control_flow.proofs.TargetTests.{jump-inside}
use Rattle.control_flow.proofs.MarkLemmas.{marks_more_none, marks_more_some, MarksJoins-below}
use Rattle.control_flow.proofs.targets.joins_of.Goals as goal
use Rattle.control_flow.proofs.targets.joins_of.Goals.{in-Some, in_default}

pub index_mut-requires : goal.index_mut-requires
index_mut-requires c =
    let inside =
    jump-inside c.args.image.now c.requires c.loop-slot.slot c.in-Some.to
    (sym c.in-Some.ensures) in
    omega (arith, c.loop-slot.invariant.same)

pub loop-slot-preserved : goal.loop-slot-preserved
loop-slot-preserved c =
    let p = c.args.image.now in
    elim c.match-jump_target.branch [
      | in-Some w ↦
          rw w.marks-is
          (marks_more_some (λ k. ⊥) (jump_to p)
          (length p.insns) c.loop-slot.slot w.in-Some.to c.loop-slot.marks.items
          w.in-Some.ensures
          (jump-inside p c.requires c.loop-slot.slot w.in-Some.to (sym w.in-Some.ensures))
          c.loop-slot.invariant)
      | in_default w ↦
          rw w.marks-is
          (marks_more_none (λ k. ⊥) (jump_to p)
          (length p.insns) c.loop-slot.slot c.loop-slot.marks.items w.in_default.ensures
          c.loop-slot.invariant)
    ]

pub returns : goal.returns
returns c =
    MarksJoins-below c.args.image.now c.loop-slot.marks.items c.loop-slot.slot
    (omega arith) c.loop-slot.invariant
