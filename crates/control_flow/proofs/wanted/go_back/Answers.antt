use Rattle.control_flow.proofs.Common.{◌≡◌, ◌<◌, ℕ, Option, None, length, get_or, sym, subst, arith, same_Some}
use Rattle.control_flow.specs.Sources.{IsLastBelow, HasJump}
use Rattle.control_flow.proofs.MarkLemmas.{read_at}
use Rattle.control_flow.proofs.Graphs.{jump_from-inside}
use Rattle.control_flow.proofs.Chains.{IsLastBelow-left, left_of-smaller, HasFollowedJumps-start, HasFollowedJumps-jumps, HasFollowedJumps-next, HasFollowedJumps-end}
use Rattle.control_flow.proofs.wanted.go_back.Goals as goal
use Rattle.control_flow.proofs.wanted.go_back.Goals.{In-Some}

pub find-requires : goal.find-requires
find-requires c =
    λ k e. omega (arith, ((c.falling.ensures k).0 e).0, c.requires.inside, c.requires.same)

pub find-requires-2 : goal.find-requires-2
find-requires-2 c =
    λ k e. omega (
      arith,
      ((c.falling-2.ensures k).0 e).0,
      c.in_ok-find.ensures.same,
      c.requires.inside,
      c.requires.same,
    )

pub loop-from-init : goal.loop-from-init
loop-from-init c =
    let nodes = c.args.nodes.now in
    let latest = c.args.sources.now.last.items in
    let within : c.args.slot < length latest =
    omega (arith, c.requires.sources.as_many, c.requires.inside) in
    HasFollowedJumps-start nodes c.args.slot c.falling.result c.falling-2.result
    c.index-from.result.now _ _ _ _ _ _
    c.requires.near c.falling.ensures c.falling-2.ensures c.in_ok-find.ensures
    c.in_ok-find-2.ensures
    (subst (IsLastBelow (HasJump nodes c.args.slot) (length nodes))
    (read_at latest c.args.slot c.index-from.result.now None within c.index-from.ensures)
    (c.requires.sources.last c.args.slot c.requires.inside))

-- the next source is inside the code, and jumps to the slot
jumps_of : (c : In-Some) → HasJump c.args.nodes.now c.args.slot c.in-Some.source
jumps_of c =
    HasFollowedJumps-jumps c.args.nodes.now c.args.slot c.in-Some.source c.loop-from.from _ _ _ _
    c.in-Some.is c.loop-from.invariant

inside_of : (c : In-Some) → c.in-Some.source < length c.args.nodes.now
inside_of c = jump_from-inside c.args.nodes.now c.in-Some.source c.args.slot (jumps_of c)

pub find-requires-in-Some : goal.find-requires-in-Some
find-requires-in-Some c = λ k e.
    let inside = inside_of (goal.at.find-requires-in-Some c).In-Some in
    let same : c.in-Some.source ≡ k = same_Some c.in-Some.source k e in
    omega (arith, inside, same, c.loop-from.invariant.found.same, c.requires.same)

pub index-from-requires-in-Some : goal.index-from-requires-in-Some
index-from-requires-in-Some c =
    let inside = inside_of (goal.at.index-from-requires-in-Some c).In-Some in
    omega (arith, inside, c.requires.sources.as_many_earlier)

-- what was read there is the last source below it
last_of : (c : In-Some) (before : Option ℕ)
    → before ≡ get_or c.args.sources.now.before.items c.in-Some.source before
    → IsLastBelow (HasJump c.args.nodes.now c.args.slot) c.in-Some.source before
last_of c before read =
    let earlier = c.args.sources.now.before.items in
    let source = c.in-Some.source in
    let within : source < length earlier =
    omega (arith, inside_of c, c.requires.sources.as_many_earlier) in
    subst (IsLastBelow (HasJump c.args.nodes.now c.args.slot) source)
    (read_at earlier source before None within read)
    (c.requires.sources.before source c.args.slot (jumps_of c))

pub loop-from-preserved : goal.loop-from-preserved
loop-from-preserved c =
    HasFollowedJumps-next c.args.nodes.now c.args.slot c.in-Some.source c.loop-from.from
    c.index-from-in-Some.result.now _ _ _ _ _ _
    c.in-Some.is
    (last_of
    (goal.at.loop-from-preserved c).In-Some c.index-from-in-Some.result.now
    c.index-from-in-Some.ensures) c.loop-from.invariant c.in_ok-find-3.ensures

pub loop-from-smaller : goal.loop-from-smaller
loop-from-smaller c =
    left_of-smaller c.index-from-in-Some.result.now c.loop-from.from c.in-Some.source c.in-Some.is
    (IsLastBelow-left
    (HasJump c.args.nodes.now c.args.slot) c.in-Some.source c.index-from-in-Some.result.now
    (last_of (goal.at.loop-from-smaller c).In-Some c.index-from-in-Some.result.now
    c.index-from-in-Some.ensures))

pub returns : goal.returns
returns c =
    HasFollowedJumps-end c.args.nodes.now c.args.slot c.loop-from.from _ _ _ _
    (sym c.in_default.is) c.loop-from.invariant
