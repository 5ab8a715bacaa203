use Rattle.std.proofs.Common.{refl}
use Rattle.calls.proofs.SessionStreamLaws.{streams, with_contents}
use Rattle.calls.proofs.session_streams.stream_on.Goals as goal

pub returns-in-Ok-clause-written : goal.returns-in-Ok-clause-written
returns-in-Ok-clause-written c =
    streams c.args.machine.now c.run_on.new.machine c.run_on.ensures.program
    c.run_on.ensures.bound c.args.stream.now c.new-report.result.items c.new-sent.result.items
    c.run_on.new.report.items c.run_on.new.out.items c.in-Ok.tally c.new-report.ensures.items
    c.new-sent.ensures.items c.in-Ok.ensures.reports

pub returns-in-Err-clause-stopped : goal.returns-in-Err-clause-stopped
returns-in-Err-clause-stopped c = record {
  old = _;
  new = _;
  error = c.in-Err.field-0;
  left = c.run_on.new.machine.contents;
  reports = c.in-Err.ensures.reports;
  machine =
      with_contents c.args.machine.now c.run_on.new.machine c.run_on.ensures.program
      c.run_on.ensures.bound c.run_on.new.machine.contents refl;
}
