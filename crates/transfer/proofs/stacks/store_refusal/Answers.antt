use Rattle.std.proofs.Common.{rules}
use Rattle.transfer.proofs.stacks.store_refusal.Goals as goal

pub returns-then-from-len : goal.returns-then-from-len
returns-then-from-len c = search rules
