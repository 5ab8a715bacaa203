use Rattle.std.proofs.Common.{rules}
use Rattle.exact_io.proofs.failing.WriterWrite.write.Goals as goal

pub returns-clause-bytes : goal.returns-clause-bytes
returns-clause-bytes c = search rules
