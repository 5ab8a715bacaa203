use Rattle.host.proofs.PromiseLaws.{Promised-run}
use Rattle.calls.proofs.streaming.run_image.Goals as goal

pub returns-in-Some-clause-promised : goal.returns-in-Some-clause-promised
returns-in-Some-clause-promised c =
    let written = c.in-Some.written in
    Promised-run c.in-Ok.verified c.args.image.now c.args.stream.now written.report.items
    written.sent.items written.tally c.in-Ok.ensures.spelled c.in-Ok.ensures.verified
    c.in-Some.ensures.runs
