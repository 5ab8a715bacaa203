use Rattle.kept_states.proofs.Common.{◌∙◌, take, drop, sym, ap, all_written, changes_of, seen}
use Rattle.kept_states.specs.declared.changing.ChangedState.{ChangedState}
use Rattle.kept_states.specs.Around.{state_around}
use Rattle.kept_states.proofs.PendingLaws.{changed_from}
use Rattle.kept_states.proofs.changing.Changing.keep.Goals as goal

pub returns-in-Ok : goal.returns-in-Ok
returns-in-Ok c = λ states.
    let old = c.args.self.now in
    let made = c.change_all-count.ensures c.if-not-is_done.false in
    let new = c.change_all-count.new.self in
    let places = c.change_all-count.new.places in
    let short = c.in-Some.ensures in
    let s : ChangedState =
    record {
      around = c.in-Ok.around;
      return_slot = c.in-Some.return_slot;
      count = c.in-Some.made;
      places = places;
    } in
    changed_from old.any s states (changes_of new) (changes_of old.changed) new.frame
    old.changed.frame c.args.state
    (ap (state_around c.in-Ok.around)
    (ap (λ n. seen places n old.any new.frame) short.first ∙ sym c.see.ensures)
    ∙ c.in-Ok.ensures.around)
    (ap (λ n. drop n (changes_of new)) short.second ∙ made.changes)
    (ap (λ n. all_written new.frame (take n (changes_of new))) short.second ∙ made.frame)
