use Rattle.exact_io.proofs.TransferLaws.{second_fails}
use Rattle.frames.proofs.writer.write_apart.Goals as goal

pub returns-in-Ok-clause-err : goal.returns-in-Ok-clause-err
returns-in-Ok-clause-err g c =
    second_fails _ _ _ _ _ c.args.rest.now c.in-Ok.ensures.ok c.write_whole-in-Ok.ensures.err
