use Rattle.kept_states.proofs.ChangeLaws.{IsChanged-none, IsChanged-one}
use Rattle.kept_states.proofs.changes.ChangedFrame.change.Goals as goal

pub returns-then-has_part-clause-changes : goal.returns-then-has_part-clause-changes
returns-then-has_part-clause-changes c = IsChanged-none c.args.self.now

pub returns-clause-changes : goal.returns-clause-changes
returns-clause-changes c =
    IsChanged-one c.args.self.now _ c.in_ok-change.change c.args.part.now c.part_there-was.result
    c.in_ok-push.ensures.items c.write.ensures c.part_there-was.ensures
    c.in_ok-change.ensures.was c.in_ok-change.ensures.left
