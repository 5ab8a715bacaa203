use Rattle.filtering.proofs.Common.{inl, filter_request_of}
use Rattle.filtering.proofs.FilesLaws.{shown_run}
use Rattle.filtering.proofs.files.filter_shown.Goals as goal

pub returns-in-Ok : goal.returns-in-Ok
returns-in-Ok g c =
    shown_run (filter_request_of c.args.task) c.args.table.now c.in-Ok.verified _ _ _ _
    c.in-Ok.ensures.ok c.in-Ok.ensures.shown c.run_and_tell.ensures

pub returns-in-Err : goal.returns-in-Err
returns-in-Err g c = inl c.in-Err.ensures.none
