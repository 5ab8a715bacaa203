use Rattle.kept_states.proofs.Common.{◌∙◌, ◌++◌, ◌∷◌, [], reverse, length, sym, ap, States}
use Rattle.kept_states.proofs.PendingLaws.{length-pending_states, pending_more}
use Rattle.kept_states.proofs.pending.PendingStates.push.Goals as goal

pub returns-in_default-take_in-clause-err : goal.returns-in_default-take_in-clause-err
returns-in_default-take_in-clause-err c =
    length-pending_states c.take_in.new.self c.self.inside.states.items
    ∙ sym (length-pending_states c.self.inside.changing c.self.inside.states.items)
    ∙ ap (λ (v : States). length v.items) c.self.view_is

pub returns-in_default-push-clause-err : goal.returns-in_default-push-clause-err
returns-in_default-push-clause-err c =
    length-pending_states c.take_in.new.self c.push-2.new.self.items
    ∙ ap length c.in_default-push.ensures.items
    ∙ sym (length-pending_states c.self.inside.changing c.self.inside.states.items)
    ∙ ap (λ (v : States). length v.items) c.self.view_is

pub returns-clause-items : goal.returns-clause-items
returns-clause-items c =
    let states = c.self.inside.states.items in
    pending_more c.self.inside.changing c.take_in.new.self states c.push-2.new.self.items
    c.in-Ok-take_in.state c.args.state c.in-Ok-push.ensures.items
    (c.in-Ok-take_in.ensures (reverse states))
    ∙ ap (λ (v : States). v.items ++ c.args.state ∷ []) c.self.view_is
