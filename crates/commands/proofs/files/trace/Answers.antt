use Rattle.words.specs.Requests.{files_of}
use Rattle.commands.proofs.Loading.{image_traced, trace_unloaded, trace_unopened}
use Rattle.commands.proofs.files.trace.Goals as goal

pub returns-in-Err : goal.returns-in-Err
returns-in-Err g c =
    trace_unloaded
    (files_of c.args.paths) _ _ _ _ _ c.in-Err.ensures.none c.plain.ensures.outcome
    c.plain.ensures.why

pub returns-in-Ok-open_streams : goal.returns-in-Ok-open_streams
returns-in-Ok-open_streams g c =
    image_traced (files_of c.args.paths) _ _ _ _ _ _ _ _ _ _ _ c.in-Ok.ensures.ok
    c.in-Ok.ensures.fits c.trace_stream.ensures

pub returns-in-Err-open_streams : goal.returns-in-Err-open_streams
returns-in-Err-open_streams g c =
    trace_unopened (files_of c.args.paths) _ _ _ _ _ _ c.in-Ok.ensures.ok c.in-Ok.ensures.fits
    c.in-Err-open_streams.ensures c.plain-in-Err-open_streams.ensures.outcome
    c.plain-in-Err-open_streams.ensures.why
