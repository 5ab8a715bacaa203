use Rattle.std.proofs.Common.{refl}
use Rattle.frames.proofs.reader.stage_after.Goals as goal

pub returns-in-Fault : goal.returns-in-Fault
returns-in-Fault c = rw c.in-Fault.is refl
