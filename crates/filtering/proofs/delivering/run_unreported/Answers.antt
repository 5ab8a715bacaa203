use Rattle.filtering.proofs.Common.{ℕ, List, [], Option, None, ap, Outputs}
use Rattle.filtering.proofs.delivering.run_unreported.Goals as goal

pub returns-clause-filters : goal.returns-clause-filters
returns-clause-filters g c =
    record {
      ended = c.run_ready-ended.result;
      handed = _;
      untouched = λ e. ap (λ (s : Option (List ℕ)).
          let o : Outputs = record { report = None; sent = s } in o)
          (c.run_ready-ended.ensures.sent_untouched e);
      runs = c.run_ready-ended.ensures.runs;
      report = record { whole = λ e. tt; part = ([], tt) };
      ends = c.delivered.ensures.delivers;
    }
