use Rattle.std.proofs.Common.{rules}
use Rattle.exact_io.proofs.buffering.PromptWriterWrite.flush.Goals as goal

pub returns-in-Ok-clause-ok : goal.returns-in-Ok-clause-ok
returns-in-Ok-clause-ok g c = search rules
