use Rattle.words.specs.Requests.{files_of}
use Rattle.commands.proofs.FilesLaws.{opens_on, runs_on}
use Rattle.commands.proofs.files.run_on.Goals as goal

pub returns-in-Ok : goal.returns-in-Ok
returns-in-Ok g c = runs_on (files_of c.args.paths) _ _ _ _ _ _ _ _ _ c.run_stream.ensures

pub returns-in-Err : goal.returns-in-Err
returns-in-Err g c =
    opens_on (files_of c.args.paths) _ _ _ _ c.in-Err.ensures c.plain.ensures.outcome
    c.plain.ensures.why
