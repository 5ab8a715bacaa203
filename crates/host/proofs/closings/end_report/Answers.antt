use Rattle.maps.specs.Maps.{rows_of, contents_of}
use Rattle.host.proofs.Closing.{maps_failed, last_failed, last_written}
use Rattle.host.proofs.closings.end_report.Goals as goal

pub returns-in-Err-clause-writes : goal.returns-in-Err-clause-writes
returns-in-Err-clause-writes g c =
    maps_failed (rows_of c.args.maps) (contents_of c.args.maps) _ _ _ c.in-Err.ensures.err

pub returns-in-Err-put_finish-clause-writes : goal.returns-in-Err-put_finish-clause-writes
returns-in-Err-put_finish-clause-writes g c =
    last_failed (rows_of c.args.maps) (contents_of c.args.maps) _ _ _ _ c.in-Ok.ensures.ok
    c.in-Err-put_finish.ensures.err

pub returns-in-Ok-put_finish-clause-writes : goal.returns-in-Ok-put_finish-clause-writes
returns-in-Ok-put_finish-clause-writes g c =
    last_written (rows_of c.args.maps) (contents_of c.args.maps) _ _ _ _ c.in-Ok.ensures.ok
    c.in-Ok-put_finish.ensures.ok
