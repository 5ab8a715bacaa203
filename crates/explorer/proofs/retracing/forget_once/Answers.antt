use Rattle.explorer.proofs.Common.{Coarse, Exact, Forgets-as, precision_in}
use Rattle.explorer.proofs.retracing.forget_once.Goals as goal

pub returns-then-is_coarse : goal.returns-then-is_coarse
returns-then-is_coarse c =
    Forgets-as Coarse (precision_in c.args.kept.now) c.args.flow.now c.args.state.now
    c.forget_by.new.state tt c.forget_by.ensures.forgets

pub returns-else-is_coarse : goal.returns-else-is_coarse
returns-else-is_coarse c =
    Forgets-as Coarse Exact c.args.flow.now c.args.state.now c.forget.new.state tt
    c.forget.ensures.forgets
