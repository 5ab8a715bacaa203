use Rattle.control_flow.proofs.Common.{◌≡◌, ◌<◌, false, List, length, set, replicate, refl, sym, subst, arith, inl, inr, HomeMask, AddsAt, ComesFrom, Extends}
use Rattle.control_flow.proofs.SlotSearch.{Extends-none}
use Rattle.control_flow.proofs.Working.{IsWorking, working_start, working_inside, working_next, working_end, written_back}
use Rattle.control_flow.proofs.wanted.wanted_homes.Goals as goal
use Rattle.control_flow.proofs.wanted.wanted_homes.Goals.{In-Some}

pub loop-slot-init : goal.loop-slot-init
loop-slot-init c =
    let nodes = c.args.nodes.now in
    let items : c.in_ok-masks.masks.items ≡ replicate (length nodes) c.none.result =
    c.in_ok-masks.ensures.items_if_clones_equal (λ y e. e) in
    rw (items, c.none.ensures)
    (working_start nodes (length nodes) (length nodes) c.in_ok-work.work.found.items
    c.in_ok-work.work.frontier.items refl refl c.in_ok-work.ensures)

-- the slot that is taken is inside the code
inside_of : (c : In-Some) → c.in-Some.slot < length c.args.nodes.now
inside_of c =
    working_inside c.args.nodes.now c.loop-slot.masks.items
    c.loop-slot.work.found.items c.loop-slot.work.frontier.items c.pop.new.self.items
    c.in-Some.slot
    c.in-Some.ensures.items c.loop-slot.invariant

pub index_mut-requires : goal.index_mut-requires
index_mut-requires c =
    let inside = inside_of (goal.at.index_mut-requires c).In-Some in
    omega (arith, inside, c.loop-slot.invariant.same_found, c.loop-slot.work.found.ok)

pub add_wanted-requires-clause-inside : goal.add_wanted-requires-clause-inside
add_wanted-requires-clause-inside c =
    inside_of (goal.at.add_wanted-requires-clause-inside c).In-Some

pub go_back-requires-clause-inside : goal.go_back-requires-clause-inside
go_back-requires-clause-inside c = inside_of (goal.at.go_back-requires-clause-inside c).In-Some

-- the mask of the slot did not grow
pub loop-slot-preserved : goal.loop-slot-preserved
loop-slot-preserved c =
    let nodes = c.args.nodes.now in
    let slot = c.in-Some.slot in
    let old = c.loop-slot.masks.items in
    let new = c.add_wanted.new.masks in
    let found = c.loop-slot.work.found.items in
    let rest = c.pop.new.self.items in
    let adds : AddsAt nodes slot old new c.add_wanted.result =
    rw c.as_mut_slice.ensures.value at c.add_wanted.ensures in
    let nothing = Extends-none (λ k. ⊥) (set found slot false) rest (λ k h. absurd h) in
    let more = working_next nodes
    (λ k. ⊥) slot old new c.add_wanted.result found c.loop-slot.work.frontier.items rest
    (set found slot false) rest
    c.in-Some.ensures.items adds nothing
    (inl c.if-add_wanted.false) c.loop-slot.invariant in
    subst (λ (masks : List HomeMask). IsWorking nodes masks (set found slot false) rest)
    (sym (written_back c.loop-slot.masks.len new old
    (omega (arith, c.loop-slot.masks.ok)) adds.same)) more

-- it grew
pub loop-slot-preserved-in-Continue-branch-4 : goal.loop-slot-preserved-in-Continue-branch-4
loop-slot-preserved-in-Continue-branch-4 c =
    let nodes = c.args.nodes.now in
    let slot = c.in-Some.slot in
    let old = c.loop-slot.masks.items in
    let new = c.add_wanted.new.masks in
    let found = c.loop-slot.work.found.items in
    let rest = c.pop.new.self.items in
    let adds : AddsAt nodes slot old new c.add_wanted.result =
    rw c.as_mut_slice.ensures.value at c.add_wanted.ensures in
    let finds : Extends (ComesFrom nodes slot)
    (set found slot false) rest c.go_back.new.work.found.items
    c.go_back.new.work.frontier.items = c.in_ok-go_back.ensures in
    let more = working_next nodes
    (ComesFrom nodes slot) slot old new c.add_wanted.result found c.loop-slot.work.frontier.items
    rest c.go_back.new.work.found.items c.go_back.new.work.frontier.items
    c.in-Some.ensures.items adds finds
    (inr (λ k h. h)) c.loop-slot.invariant in
    subst (λ (masks : List HomeMask).
    IsWorking nodes masks c.go_back.new.work.found.items c.go_back.new.work.frontier.items)
    (sym (written_back c.loop-slot.masks.len new old
    (omega (arith, c.loop-slot.masks.ok)) adds.same)) more

pub returns : goal.returns
returns c =
    let none : length c.loop-slot.work.frontier.items ≡ 0 =
    omega (arith, c.in_default.ensures.cases.0, c.loop-slot.work.frontier.ok) in
    working_end c.args.nodes.now c.loop-slot.masks.items
    c.loop-slot.work.found.items c.loop-slot.work.frontier.items none
    c.loop-slot.invariant
