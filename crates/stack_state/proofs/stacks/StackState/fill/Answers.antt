use Rattle.stack_state.proofs.Common.{◌∙◌, List, get_or, ap, arith, subst, get_or_default, StackSlot, Written, StackSlots, IsFill}
use Rattle.stack_state.proofs.FillLaws.{fills}
use Rattle.stack_state.proofs.stacks.StackState.fill.Goals as goal

pub returns-clause-meant : goal.returns-clause-meant
returns-clause-meant c =
    let slots = c.args.self.now.slots in
    let viewed = ap (λ (s : StackSlots). s.slots) c.self.view_is in
    let same = get_or_default c.self.inside.slots c.args.slot c.index-self-slot.result (Written 0)
    (omega (arith, c.self.invariant.wide))
    ∙ ap (λ (ys : List StackSlot). get_or ys c.args.slot (Written 0)) viewed in
    fills slots c.args.slot c.filled.result c.requires
    (subst (λ (s : StackSlot). IsFill s c.filled.result) same c.filled.ensures)
