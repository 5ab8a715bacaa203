use Rattle.words.specs.Requests.{table_files_of}
use Rattle.commands.proofs.Loading.{refused_if, shown_if, shows_unloaded}
use Rattle.commands.proofs.tables.load_shown.Goals as goal

pub returns-in-Err-clause-none : goal.returns-in-Err-clause-none
returns-in-Err-clause-none g c =
    shows_unloaded
    (table_files_of c.args.paths) _ _ _ _ c.in-Err.ensures.none c.plain.ensures.outcome
    c.plain.ensures.why

pub returns-in-Ok-read_table-clause-shown : goal.returns-in-Ok-read_table-clause-shown
returns-in-Ok-read_table-clause-shown g c =
    shown_if c.in-Ok.image c.as_slice.result.now c.shown.result c.shown.ensures.program
    c.shown.ensures.verified c.shown.ensures.shows

pub returns-in-Ok-read_table-clause-none : goal.returns-in-Ok-read_table-clause-none
returns-in-Ok-read_table-clause-none g c =
    refused_if (table_files_of c.args.paths) _ _ _ c.in-Ok.image c.as_slice.result.now
    c.shown.result c.in-Ok.ensures.ok c.in-Ok.ensures.fits c.shown.ensures.refused
    c.shown.ensures.known
