use Rattle.std.proofs.Common.{rules}
use Rattle.branch_refine.proofs.comparing.packet_by.Goals as goal

pub returns-in-Greater : goal.returns-in-Greater
returns-in-Greater c = search rules

pub returns-in-GreaterEqual : goal.returns-in-GreaterEqual
returns-in-GreaterEqual c = search rules
