use Rattle.state_cover.proofs.Common.{◌≡◌, ◌<◌, length, false, refl, arith, IsTrue, packet_name, null_name}
use Rattle.state_cover.proofs.Inclusion.{AllCover-from, AllCover-push, Covers-from}
use Rattle.state_cover.proofs.FoundFrames.{callers-same, caller_found, innermost_found, own_found}
use Rattle.state_cover.proofs.covers.Goals as goal

pub returns-then-a-b-clause-encloses : goal.returns-then-a-b-clause-encloses
returns-then-a-b-clause-encloses c = λ packet null h. absurd (omega (arith, h.slot))

pub returns-then-left-right-clause-encloses : goal.returns-then-left-right-clause-encloses
returns-then-left-right-clause-encloses c = λ packet null h.
    let depth : length c.as_slice-left.result.now ≡ length c.as_slice-right.result.now =
    rw (c.as_slice-left.ensures.value, c.as_slice-right.ensures.value)
    (callers-same c.args.a.now c.args.b.now packet null h) in
    absurd (omega arith)

pub returns-then-not-frame_covers-clause-encloses : goal.returns-then-not-frame_covers-clause-encloses
returns-then-not-frame_covers-clause-encloses c = λ packet null h.
    let left = c.as_slice-left.result.now in
    let right = c.as_slice-right.result.now in
    let in_left : c.loop-index.index < length left = omega arith in
    let in_right : c.loop-index.index < length right = omega arith in
    let found = caller_found c.args.a.now c.args.b.now left right packet null c.loop-index.index
    c.index-left-index.result c.index-right-index.result
    c.as_slice-left.ensures.value c.as_slice-right.ensures.value h in_left in_right
    c.index-left-index.is c.index-right-index.is in
    let yes = c.frame_covers.ensures.no found.returns found.registers found.slots in
    absurd (cc (yes, c.if-not-frame_covers.true))

pub returns-then-not-frame_covers-clause-equal : goal.returns-then-not-frame_covers-clause-equal
returns-then-not-frame_covers-clause-equal c =
    own_found c.args.a.now c.args.b.now (IsTrue false)
    (returns-then-not-frame_covers-clause-encloses c)

pub returns-clause-encloses : goal.returns-clause-encloses
returns-clause-encloses c = λ packet null h.
    let found = innermost_found c.args.a.now c.args.b.now packet null h in
    c.frame_covers-2.ensures.no found.returns found.registers found.slots

pub returns-clause-equal : goal.returns-clause-equal
returns-clause-equal c =
    own_found c.args.a.now c.args.b.now (IsTrue c.frame_covers-2.result) (returns-clause-encloses c)

pub returns-clause-yes : goal.returns-clause-yes
returns-clause-yes c = λ yes p.
    let a = c.args.a.now in
    let b = c.args.b.now in
    let left = c.as_slice-left.result.now in
    let right = c.as_slice-right.result.now in
    let slot : a.slot ≡ b.slot = omega arith in
    let depth : length left ≡ length right = omega arith in
    let callers =
    AllCover-from (packet_name a b) (null_name a b) left right depth
    (λ j d e l. c.loop-index.invariant j d e (omega arith)) in
    Covers-from p a b (packet_name a b) (null_name a b) refl slot
    (AllCover-push (packet_name a b)
    (null_name a b) a.callers.items b.callers.items a.innermost b.innermost
    (rw (c.as_slice-left.ensures.value, c.as_slice-right.ensures.value) at callers)
    (c.frame_covers-2.ensures.yes yes))
