use Rattle.walks.proofs.ForgettingLoops.{AreSlotsKept-left}
use Rattle.walks.proofs.forgetting.forget_places.Goals as goal

pub returns-clause-slots : goal.returns-clause-slots
returns-clause-slots c =
    AreSlotsKept-left c.args.flow.now c.args.slot c.args.stack.now.slots
    c.forget_slots.new.stack.slots
    (c.is_join.ensures.join.0 c.if-not-is_join.false) c.forget_slots.ensures
