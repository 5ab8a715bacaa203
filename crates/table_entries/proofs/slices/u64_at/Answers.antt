use Rattle.std.proofs.Common.{◌∙◌, drop}
use Rattle.table_entries.proofs.LittleNumbers.{eight_bytes}
use Rattle.table_entries.proofs.slices.u64_at.Goals as goal

pub returns : goal.returns
returns c = c.get64.ensures ∙ eight_bytes (drop c.args.at c.args.bytes.now)
