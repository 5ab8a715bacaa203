use Rattle.std.proofs.Common.{arith}
use Rattle.std.proofs.lemmas.Grind.{common_steps}
use Rattle.frames.proofs.Parts.{rest_fails}
use Rattle.frames.proofs.writer.write_whole.Goals as goal

pub returns-then-is_empty-clause-ok : goal.returns-then-is_empty-clause-ok
returns-then-is_empty-clause-ok g c = grind (arith, common_steps)

pub returns-else-count-bytes-clause-err : goal.returns-else-count-bytes-clause-err
returns-else-count-bytes-clause-err g c =
    rest_fails _ _ _ _ _ c.args.bytes.now c.in-Ok.ensures.bytes c.write_rest.ensures.err
