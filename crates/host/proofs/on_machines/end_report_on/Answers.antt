use Rattle.host.proofs.Closing.{maps_failed, last_failed, last_written}
use Rattle.host.proofs.on_machines.end_report_on.Goals as goal

pub returns-in-Err-clause-writes : goal.returns-in-Err-clause-writes
returns-in-Err-clause-writes g c =
    maps_failed c.args.machine.now.program.maps c.args.machine.now.contents _ _ _
    c.in-Err.ensures.err

pub returns-in-Err-put_finish-clause-writes : goal.returns-in-Err-put_finish-clause-writes
returns-in-Err-put_finish-clause-writes g c =
    last_failed c.args.machine.now.program.maps c.args.machine.now.contents _ _ _ _
    c.in-Ok.ensures.ok c.in-Err-put_finish.ensures.err

pub returns-in-Ok-put_finish-clause-writes : goal.returns-in-Ok-put_finish-clause-writes
returns-in-Ok-put_finish-clause-writes g c =
    last_written c.args.machine.now.program.maps c.args.machine.now.contents _ _ _ _
    c.in-Ok.ensures.ok c.in-Ok-put_finish.ensures.ok
