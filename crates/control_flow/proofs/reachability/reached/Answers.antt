use Rattle.control_flow.proofs.Common.{◌≡◌, length, arith, HasEdge, Reached}
use Rattle.control_flow.proofs.SlotSearch.{IsSearch-inside, IsReaching-start, IsReaching-next, IsReaching-end}
use Rattle.control_flow.proofs.reachability.reached.Goals as goal

pub go_on-requires-clause-inside : goal.go_on-requires-clause-inside
go_on-requires-clause-inside c =
    let p = c.args.image.now in
    IsSearch-inside (Reached p) (HasEdge p)
    (length p.insns) c.in-Some.slot c.loop-slot.search.found.items
    c.loop-slot.search.frontier.items c.pop.new.self.items c.in-Some.ensures.items
    c.loop-slot.invariant.search

pub loop-slot-init : goal.loop-slot-init
loop-slot-init c =
    IsReaching-start c.args.image.now c.slots.result c.in_ok-search.search.found.items
    c.in_ok-search.search.frontier.items c.find.new.self.found.items
    c.find.new.self.frontier.items
    c.slots.ensures.count c.in_ok-search.ensures.found c.in_ok-search.ensures.frontier
    c.in_ok-find.ensures

pub loop-slot-preserved : goal.loop-slot-preserved
loop-slot-preserved c =
    IsReaching-next c.args.image.now c.in-Some.slot c.loop-slot.search.found.items
    c.loop-slot.search.frontier.items c.pop.new.self.items _ _ c.in-Some.ensures.items
    c.loop-slot.invariant c.in_ok-go_on.ensures

pub returns : goal.returns
returns c =
    let none : length c.loop-slot.search.frontier.items ≡ 0 =
    omega (arith, c.in_default.ensures.cases.0, c.loop-slot.search.frontier.ok) in
    IsReaching-end c.args.image.now c.loop-slot.search.found.items c.loop-slot.search.frontier.items
    none c.loop-slot.invariant
