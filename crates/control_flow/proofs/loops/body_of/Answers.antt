use Rattle.control_flow.proofs.Common.{◌≡◌, Some, ComesFrom}
use Rattle.control_flow.proofs.LoopBodies.{IsInside-extended, IsInside-rest, IsInside-top}
use Rattle.control_flow.proofs.loops.body_of.Goals as goal
use Rattle.control_flow.proofs.loops.body_of.Goals.{then-leads_back_to+in_ok-find-2, else-leads_back_to}

pub loop-from-preserved : goal.loop-from-preserved
loop-from-preserved c = elim c.if-leads_back_to.branch [
  | then-leads_back_to+in_ok-find-2 w ↦
      rw w.work-is
      (IsInside-extended (λ k. Some c.loop-from.from ≡ Some k) c.args.nodes.now _ _ _ _
      w.in_ok-find-2.ensures c.loop-from.invariant)
  | else-leads_back_to w ↦ rw w.work-is c.loop-from.invariant
]

pub go_back-requires-clause-inside : goal.go_back-requires-clause-inside
go_back-requires-clause-inside c =
    IsInside-top c.args.nodes.now c.in-Some.slot c.loop-slot.work.found.items
    c.loop-slot.work.frontier.items c.pop.new.self.items c.in-Some.ensures.items
    c.loop-slot.invariant

pub loop-slot-preserved : goal.loop-slot-preserved
loop-slot-preserved c =
    let nodes = c.args.nodes.now in
    let slot = c.in-Some.slot in
    let rest = IsInside-rest nodes slot c.loop-slot.work.found.items
    c.loop-slot.work.frontier.items c.pop.new.self.items c.in-Some.ensures.items
    c.loop-slot.invariant in
    IsInside-extended (ComesFrom nodes slot) nodes _ _ _ _ c.in_ok-go_back.ensures rest
