use Rattle.host.specs.Counts.{totals_of}
use Rattle.filtering.proofs.DeliveringLaws.{says-counts}
use Rattle.filtering.proofs.finishing.say_counts.Goals as goal

pub returns : goal.returns
returns g c =
    says-counts _ (totals_of c.args.counts.now) c.args.tally.now c.args.form _ _ _ _
    c.counts_text.ensures c.outcome_at.ensures.outcome
    c.say_made.ensures
