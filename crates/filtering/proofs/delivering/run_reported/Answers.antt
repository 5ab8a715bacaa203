use Rattle.filtering.proofs.Common.{ℕ, List, Option, ap₂, subst, ErrorKind, Outputs, waiting}
use Rattle.filtering.specs.Delivering.{Delivers, names_of}
use Rattle.filtering.proofs.DeliveringLaws.{gets-report}
use Rattle.filtering.proofs.delivering.run_reported.Goals as goal

pub returns-clause-filters : goal.returns-clause-filters
returns-clause-filters g c =
    record {
      ended = c.run_ready-ended.result;
      handed = _;
      untouched = λ e. ap₂ (λ (r s : Option (List ℕ)).
          let o : Outputs = record { report = r; sent = s } in o)
          (c.run_ready-ended.ensures.report_untouched e)
          (c.run_ready-ended.ensures.sent_untouched e);
      runs = c.run_ready-ended.ensures.runs;
      report = gets-report c.flush.result _ _ _ (waiting c.flush.new.self) c.flush.ensures.bytes
          c.flush.ensures.ok c.flush.ensures.remembered;
      ends = subst (λ (why : Option ErrorKind). Delivers (names_of c.args.names) why
          (g.O.SentOutput.cause c.delivered.new.sent) c.run_ready-ended.result
          (g.O.Write.contents c.run_ready-ended.new.sent)
          (g.O.SentOutput.got c.delivered.new.sent) c.delivered.result)
          c.failure.ensures c.delivered.ensures.delivers;
    }
