use Rattle.filtering.proofs.Common.{subst, sym, TaskOutcome, filter_request_of, FiltersOn}
use Rattle.filtering.proofs.files.run_and_tell.Goals as goal

pub returns : goal.returns
returns g c = (
  subst (λ (o : TaskOutcome). FiltersOn c.args.ready (filter_request_of c.args.task)
      (g.W.Write.contents c.args.lines.now) (g.W.Write.contents c.filter_on-outcome.new.lines) o)
      (sym c.ending_with.ensures.outcome) c.filter_on-outcome.ensures,
  (c.filter_on-outcome.new.unsaid, c.ending_with.ensures.why),
)
