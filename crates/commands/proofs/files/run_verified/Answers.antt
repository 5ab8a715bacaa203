use Rattle.words.specs.Requests.{files_of}
use Rattle.commands.proofs.Loading.{bound_of_verified, image_refused, image_run, run_unloaded}
use Rattle.commands.proofs.files.run_verified.Goals as goal

pub returns-in-Err : goal.returns-in-Err
returns-in-Err g c =
    run_unloaded
    (files_of c.args.paths) _ _ _ _ c.in-Err.ensures.none c.plain.ensures.outcome
    c.plain.ensures.why

pub returns-in-Err-judge : goal.returns-in-Err-judge
returns-in-Err-judge g c =
    image_refused (files_of c.args.paths) _ _ _ _ _ c.in-Ok.ensures.ok c.in-Ok.ensures.fits
    c.in-Err-judge.ensures.refused c.in-Err-judge.ensures.known

pub returns-in-Ok-judge : goal.returns-in-Ok-judge
returns-in-Ok-judge g c =
    image_run (files_of c.args.paths) _ _ _ _ _ _ c.in-Ok.ensures.ok c.in-Ok-judge.ensures.ok
    (bound_of_verified _ _ c.in-Ok-judge.ensures.program c.in-Ok-judge.ensures.verified
    c.in-Ok-judge.ensures.number c.in-Ok-judge.ensures.bounds) c.run_on.ensures
