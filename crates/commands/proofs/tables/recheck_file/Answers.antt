use Rattle.commands.proofs.Common.{inl, table_files_of}
use Rattle.commands.proofs.Loading.{bound_said}
use Rattle.commands.proofs.tables.recheck_file.Goals as goal

pub returns-in-Ok : goal.returns-in-Ok
returns-in-Ok g c =
    bound_said (table_files_of c.args.paths) _ _ _ _ _ _ c.in-Ok.ensures.ok c.in-Ok.ensures.shown
    c.accepted.ensures c.plain.ensures.outcome c.plain.ensures.why

pub returns-in-Err : goal.returns-in-Err
returns-in-Err g c = inl c.in-Err.ensures.none
