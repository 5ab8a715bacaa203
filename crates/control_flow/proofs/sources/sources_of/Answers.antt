use Rattle.control_flow.proofs.Common.{◌≡◌, ◌<◌, Some, None, length, arith, sym, ◌∙◌, slice_get-get_or, jump_from}
use Rattle.control_flow.proofs.MarkLemmas.{read_at}
use Rattle.control_flow.proofs.Graphs.{node-jump_from}
use Rattle.control_flow.proofs.Chains.{sources_more_none, sources_more_some, AreSources-below}
use Rattle.control_flow.proofs.sources.sources_of.Goals as goal
use Rattle.control_flow.proofs.sources.sources_of.Goals.{In-Some, in-Some, in_default}

-- where the jump leads
jump_of : (c : In-Some) → jump_from c.args.nodes.now c.loop-slot.slot ≡ Some c.in-Some.to
jump_of c =
    let nodes = c.args.nodes.now in
    let slot = c.loop-slot.slot in
    node-jump_from nodes slot _ (slice_get-get_or nodes slot _ c.loop-slot-test.true) ∙ c.in-Some.is

pub index-earlier-requires : goal.index-earlier-requires
index-earlier-requires c =
    let inside =
    c.requires c.loop-slot.slot c.in-Some.to
    (jump_of (goal.at.index-earlier-requires c).In-Some) in
    omega (arith, inside, c.loop-slot.invariant.as_many)

pub index_mut-requires : goal.index_mut-requires
index_mut-requires c =
    let inside =
    c.requires c.loop-slot.slot c.in-Some.to (jump_of (goal.at.index_mut-requires c).In-Some) in
    omega (arith, inside, c.loop-slot.invariant.as_many)

pub loop-slot-preserved : goal.loop-slot-preserved
loop-slot-preserved c =
    let nodes = c.args.nodes.now in
    let slot = c.loop-slot.slot in
    let last = c.loop-slot.last.items in
    let before = c.loop-slot.before.items in
    let here = node-jump_from nodes slot _ (slice_get-get_or nodes slot _ c.loop-slot-test.true) in
    elim c.match-nodes-slot.branch [
      | in-Some w ↦
          let jumps : jump_from nodes slot ≡ Some w.in-Some.to = here ∙ w.in-Some.is in
          let inside = c.requires slot w.in-Some.to jumps in
          let within : w.in-Some.to < length last =
          omega (arith, inside, c.loop-slot.invariant.as_many) in
          rw (c.in_ok-push.ensures.items, w.last-is, w.earlier-is)
          (sources_more_some nodes slot w.in-Some.to last before w.index-earlier.result.now
          (sym jumps) inside
          (sym (read_at last w.in-Some.to w.index-earlier.result.now None within
          w.index-earlier.ensures)) c.loop-slot.invariant)
      | in_default w ↦
          rw (c.in_ok-push.ensures.items, w.last-is, w.earlier-is)
          (sources_more_none nodes slot last before
          (sym (here ∙ w.in_default.is)) c.loop-slot.invariant)
    ]

pub returns : goal.returns
returns c =
    AreSources-below c.args.nodes.now c.loop-slot.slot c.loop-slot.last.items
    c.loop-slot.before.items (omega arith) c.loop-slot.invariant
