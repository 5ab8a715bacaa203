use Rattle.std.proofs.Common.{◌∙◌, ap, sym, length, length-set, rules}
use Rattle.stack_state.proofs.StackLaws.{spills}
use Rattle.stack_state.proofs.stacks.StackState.spill.Goals as goal

pub returns-clause-meant : goal.returns-clause-meant
returns-clause-meant c =
    let wide = sym (length-set c.args.self.now.slots c.args.slot c.spilled.result)
    ∙ ap length (sym c.set.ensures.set) ∙ c.set.ensures.wide in
    spills c.args.self.now.slots _ c.args.slot c.args.kind wide c.requires (search rules)
    (search rules)
