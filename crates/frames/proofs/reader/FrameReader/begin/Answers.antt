use Rattle.std.proofs.Common.{rules}
use Rattle.frames.proofs.reader.FrameReader.begin.Goals as goal

pub returns-clause-begun : goal.returns-clause-begun
returns-clause-begun g c = search rules
