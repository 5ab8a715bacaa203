use Rattle.commands.proofs.Common.{inl, files_of}
use Rattle.commands.proofs.Loading.{shown_run}
use Rattle.commands.proofs.tables.run_shown.Goals as goal

pub returns-in-Ok : goal.returns-in-Ok
returns-in-Ok g c =
    shown_run (files_of c.args.paths) c.args.table.now _ _ _ _ _ c.in-Ok.ensures.ok
    c.in-Ok.ensures.shown c.run_on.ensures

pub returns-in-Err : goal.returns-in-Err
returns-in-Err g c = inl c.in-Err.ensures.none
