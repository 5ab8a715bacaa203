use Rattle.xdpvm.proofs.Common.{◌∙◌, refl, table_files_of}
use Rattle.commands.proofs.Loading.{bound_of_verified}
use Rattle.xdpvm.proofs.ProvingLaws.{prove_refused, prove_unloaded, prove_unmade, table_stored}
use Rattle.xdpvm.proofs.proving.prove_file.Goals as goal

pub returns-in-Err : goal.returns-in-Err
returns-in-Err g c =
    prove_unloaded
    (table_files_of c.args.paths) _ _ _ _ _ _ c.in-Err.ensures.none refl c.plain.ensures.outcome
    c.plain.ensures.why

pub returns-in-Err-judge : goal.returns-in-Err-judge
returns-in-Err-judge g c =
    prove_refused (table_files_of c.args.paths) _ _ _ _ _ _ _ c.in-Ok.ensures.ok
    c.in-Ok.ensures.fits c.in-Err-judge.ensures.refused c.in-Err-judge.ensures.known refl

pub returns-in-Ok-create_table : goal.returns-in-Ok-create_table
returns-in-Ok-create_table g c =
    table_stored (table_files_of c.args.paths) _ _ _ _ _ _ _ _ _ _ _ _ c.in-Ok.ensures.ok
    c.in-Ok-judge.ensures.ok
    (bound_of_verified _ _ c.in-Ok-judge.ensures.program c.in-Ok-judge.ensures.verified
    c.in-Ok-judge.ensures.number c.in-Ok-judge.ensures.bounds)
    (c.as_str.ensures.value ∙ c.in-Ok-bound_line.ensures) c.store_table-outcome.ensures
    c.plain-in-Ok-create_table.ensures.outcome c.plain-in-Ok-create_table.ensures.why

pub returns : goal.returns
returns g c =
    prove_unmade (table_files_of c.args.paths) _ _ _ _ _ _ _ _ c.in-Ok.ensures.ok
    c.in-Ok-judge.ensures.ok
    (bound_of_verified _ _ c.in-Ok-judge.ensures.program c.in-Ok-judge.ensures.verified
    c.in-Ok-judge.ensures.number c.in-Ok-judge.ensures.bounds)
    c.in-Err-create_table.ensures refl c.plain-in-Err-create_table.ensures.outcome
    c.plain-in-Err-create_table.ensures.why
