use Rattle.kept_states.proofs.Common.{◌∙◌, take, drop, sym, ap, all_written, changes_of, seen}
use Rattle.kept_states.specs.Around.{state_around}
use Rattle.kept_states.proofs.PendingLaws.{changed_from}
use Rattle.kept_states.proofs.changing.Changing.taken.Goals as goal

pub returns : goal.returns
returns c = λ states.
    let s = c.args.state in
    let old = c.args.self.now in
    let changes = changes_of old.changed in
    changed_from old.any s states changes (changes_of c.undo.new.self) old.changed.frame
    c.undo.new.self.frame c.in_ok-kept.kept
    (sym (c.in_ok-kept.ensures
    ∙ ap (state_around s.around)
    (c.see.ensures ∙ ap (λ n. seen s.places n old.any old.changed.frame) c.from.ensures)))
    (sym (c.undo.ensures.changes ∙ ap (λ n. drop n changes) c.from-2.ensures))
    (sym (c.undo.ensures.frame
    ∙ ap (λ n. all_written old.changed.frame (take n changes)) c.from-2.ensures))
