use Rattle.explorer.proofs.Common.{rules, Coarse, Exact, NumbersForgotten-as, Forgets-further}
use Rattle.explorer.proofs.retracing.forget_again.Goals as goal

pub forget_all-requires : goal.forget_all-requires
forget_all-requires c = c.may_forget_all.ensures.0 (search rules)

pub returns : goal.returns
returns c = λ _.
    Forgets-further c.args.flow.now c.args.state.now c.forget_once.new.state
    c.forget_all.new.state c.forget_once.ensures
    (NumbersForgotten-as Coarse Exact c.args.flow.now c.forget_once.new.state
    c.forget_all.new.state tt c.forget_all.ensures.forgets)
