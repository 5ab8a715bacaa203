use Rattle.host.proofs.Common.{sym, ap, tallied}
use Rattle.host.proofs.traced.tally_in.Goals as goal

pub returns-in-Ok : goal.returns-in-Ok
returns-in-Ok c = sym (ap tallied c.in-Ok.is)
