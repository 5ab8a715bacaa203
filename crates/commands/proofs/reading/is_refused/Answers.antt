use Rattle.commands.proofs.SettledBytes.{settled_front}
use Rattle.commands.proofs.reading.is_refused.Goals as goal

pub returns-in-Ok : goal.returns-in-Ok
returns-in-Ok c = λ yes. settled_front _ _ c.whole_lines.ensures (c.in-Ok.ensures.settled yes)
