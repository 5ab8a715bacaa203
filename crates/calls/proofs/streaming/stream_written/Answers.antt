use Rattle.isa_model.specs.Reporting.Reports.{starting_contents}
use Rattle.calls.proofs.StreamLaws.{writes_stream}
use Rattle.calls.proofs.streaming.stream_written.Goals as goal

pub returns-in-Ok : goal.returns-in-Ok
returns-in-Ok c =
    writes_stream c.args.verified (starting_contents c.args.verified.program.maps)
    c.args.stream.now c.new-report.result.items
    c.new-sent.result.items c.run.new.report.items c.run.new.out.items c.in-Ok.tally
    c.new-report.ensures.items c.new-sent.ensures.items
    (c.in-Ok.ensures.reports (λ err. absurd (cc err)))
