use Rattle.std.proofs.Common.{refl, sym, ap, ◌∙◌}
use Rattle.host.specs.Promise.{stream_in}
use Rattle.calls.specs.declared.streaming.Streamed.{Streamed}
use Rattle.calls.proofs.StreamLaws.{fault_other, read_well}
use Rattle.calls.proofs.streaming.run_stream.Goals as goal

pub returns-clause-ran : goal.returns-clause-ran
returns-clause-ran c = λ _.
    let written = c.in-Ok.written in
    record {
      report = written.report.items;
      sent = written.sent.items;
      promised = c.in-Ok.ensures.promised;
      tally = written.tally;
      tells = c.in-Ok.ensures.tally;
      report_is = c.fill_streamed.ensures.report;
      sent_is = c.fill_streamed.ensures.sent;
      out_is = c.fill_streamed.ensures.out;
    }

pub returns-clause-read : goal.returns-clause-read
returns-clause-read c = λ _ five.
    let written = c.in-Ok.written in
    let stream = c.args.stream.now in
    fault_other written.tally.fault
    (read_well stream (stream_in stream) written.tally refl c.in-Ok.ensures.tally)
    (sym (ap (λ (s : Streamed). s.fault) c.fill_streamed.ensures.out) ∙ five)
