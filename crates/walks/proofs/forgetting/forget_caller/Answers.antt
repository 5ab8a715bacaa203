use Rattle.walks.proofs.ForgettingLoops.{callers_none}
use Rattle.walks.proofs.forgetting.forget_caller.Goals as goal

pub returns-then-not-has_called-clause-forgets : goal.returns-then-not-has_called-clause-forgets
returns-then-not-has_called-clause-forgets c = callers_none c.args.flow.now c.args.state.now
