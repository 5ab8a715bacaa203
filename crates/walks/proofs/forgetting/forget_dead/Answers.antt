use Rattle.std.proofs.Common.{refl}
use Rattle.walks.proofs.ForgettingLoops.{DeadForgotten-both}
use Rattle.walks.proofs.forgetting.forget_dead.Goals as goal

pub returns-clause-forgets : goal.returns-clause-forgets
returns-clause-forgets c =
    DeadForgotten-both c.args.flow.now c.args.state.now c.forget_caller.new.state _
    c.forget_places.new.registers c.forget_places.new.stack.slots
    c.forget_caller.ensures.forgets refl c.forget_places.ensures.registers c.forget_places.ensures.slots
