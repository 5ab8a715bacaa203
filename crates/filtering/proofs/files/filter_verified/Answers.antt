use Rattle.words.specs.FilterRequests.{filter_request_of}
use Rattle.commands.proofs.Loading.{bound_of_verified}
use Rattle.filtering.proofs.FilesLaws.{verified_refused, verified_run, verified_unloaded}
use Rattle.filtering.proofs.files.filter_verified.Goals as goal

pub returns-in-Err : goal.returns-in-Err
returns-in-Err g c =
    verified_unloaded (filter_request_of c.args.task) _ _ _ _ c.in-Err.ensures.none
    c.plain.ensures.outcome c.plain.ensures.why

pub returns-in-Err-judge : goal.returns-in-Err-judge
returns-in-Err-judge g c =
    verified_refused (filter_request_of c.args.task) c.in-Ok.image _ _ _ _ c.in-Ok.ensures.ok
    c.in-Ok.ensures.fits c.in-Err-judge.ensures.refused c.in-Err-judge.ensures.known

pub returns-in-Ok-judge : goal.returns-in-Ok-judge
returns-in-Ok-judge g c =
    verified_run (filter_request_of c.args.task) c.in-Ok.image c.in-Ok-judge.verified _ _ _ _ _
    c.in-Ok.ensures.ok c.in-Ok-judge.ensures.ok c.in-Ok.ensures.fits
    c.in-Ok-judge.ensures.program
    (bound_of_verified c.in-Ok.image c.in-Ok-judge.verified c.in-Ok-judge.ensures.program
    c.in-Ok-judge.ensures.verified c.in-Ok-judge.ensures.number c.in-Ok-judge.ensures.bounds)
    c.run_and_tell.ensures
