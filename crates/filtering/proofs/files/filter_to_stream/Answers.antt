use Rattle.std.proofs.Common.{refl}
use Rattle.filtering.proofs.FilesLaws.{ends-failed, ends-finished}
use Rattle.filtering.proofs.files.filter_to_stream.Goals as goal

pub returns-in-Ok : goal.returns-in-Ok
returns-in-Ok g c =
    record {
      ended = c.run_wanted.result;
      runs = c.run_wanted.ensures.runs;
      ends = ends-finished _ _ _ _ _ _ _ c.in-Ok.is c.finish.ensures;
    }

pub returns : goal.returns
returns g c =
    record {
      ended = c.run_wanted.result;
      runs = c.run_wanted.ensures.runs;
      ends = ends-failed _ _ _ _ c.in-Err.is refl;
    }
