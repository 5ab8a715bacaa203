use Rattle.transfer.proofs.Common.{rules, ◌≡◌, ◌∙◌, sym, subst, Ok, Some, JumpIf, fetch, Steps, beside}
use Rattle.image.proofs.Programs.{IsProgram-IsImage}
use Rattle.transfer.proofs.BesideLaws.{Steps-one, Steps-beside}
use Rattle.transfer.proofs.ExactLaws.{Steps-leads}
use Rattle.transfer.proofs.FollowLaws.{Steps-follows}
use Rattle.transfer.proofs.step_beside.Goals as goal

pub returns-then-not-reads_unset-clause-leads : goal.returns-then-not-reads_unset-clause-leads
returns-then-not-reads_unset-clause-leads c =
    let i = JumpIf c.in-JumpIf.cond c.in-JumpIf.by in
    let p = c.args.image.now in
    let b = c.jump_beside.new.state in
    let other = beside c.in_ok-left.left.1 b c.jump_beside.new.other in
    let steps : Steps p c.args.state.now i (Ok c.in_ok-left.left.0) b other = search rules in
    Steps-leads p c.args.state.now i c.in_ok-left.left.0 b other
    (IsProgram-IsImage p c.slots-slots.ensures.fits) (search rules)
    steps

pub returns-then-not-reads_unset-clause-follows : goal.returns-then-not-reads_unset-clause-follows
returns-then-not-reads_unset-clause-follows c =
    let i = JumpIf c.in-JumpIf.cond c.in-JumpIf.by in
    let p = c.args.image.now in
    let b = c.jump_beside.new.state in
    let other = beside c.in_ok-left.left.1 b c.jump_beside.new.other in
    let steps : Steps p c.args.state.now i (Ok c.in_ok-left.left.0) b other = search rules in
    Steps-follows p c.args.state.now i c.in_ok-left.left.0 b other (search rules)
    steps

pub returns-clause-leads : goal.returns-clause-leads
returns-clause-leads c =
    let p = c.args.image.now in
    let a = c.args.state.now in
    let i = c.in-Some.insn.now in
    let is : fetch p a.slot ≡ Some i = sym c.in-Some.ensures in
    let b = c.step_in_place.new.state in
    let other = c.step_in_place.new.other in
    Steps-leads p a i c.in_ok-ways.ways b (beside c.keeps_callers-keeps.result b other)
    (IsProgram-IsImage p c.slots-slots.ensures.fits) is
    (subst (λ keeps. Steps p a i (Ok c.in_ok-ways.ways) b (beside keeps b other))
    (sym c.keeps_callers-keeps.ensures)
    (Steps-beside p a i c.in_ok-ways.ways b other (c.in_ok-ways.ensures.steps i is)))

pub returns-clause-callers : goal.returns-clause-callers
returns-clause-callers c = λ keeps.
    let i = c.in-Some.insn.now in
    let is : fetch c.args.image.now c.args.state.now.slot ≡ Some i = sym c.in-Some.ensures in
    (Steps-one c.args.image.now c.args.state.now i c.in_ok-ways.ways c.step_in_place.new.state
    c.step_in_place.new.other c.step_in_place.new.other
    (sym c.keeps_callers-keeps.ensures ∙ keeps) (c.in_ok-ways.ensures.steps i is)).0
