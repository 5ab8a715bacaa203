use Rattle.words.specs.FilterRequests.{filter_request_of}
use Rattle.filtering.proofs.FilesLaws.{checked_run, checked_unloaded}
use Rattle.filtering.proofs.files.filter_checked.Goals as goal

pub returns-in-Ok : goal.returns-in-Ok
returns-in-Ok g c =
    checked_run (filter_request_of c.args.task) c.in-Ok.image c.args.limit _ _ _ _
    c.in-Ok.ensures.ok c.in-Ok.ensures.fits c.run_and_tell.ensures

pub returns-in-Err : goal.returns-in-Err
returns-in-Err g c =
    checked_unloaded (filter_request_of c.args.task) _ _ _ _ _ c.in-Err.ensures.none
    c.plain.ensures.outcome c.plain.ensures.why
