use Rattle.std.proofs.Common.{◌∙◌, drop}
use Rattle.table_entries.proofs.LittleNumbers.{four_bytes}
use Rattle.table_entries.proofs.slices.u32_at.Goals as goal

pub returns : goal.returns
returns c = c.get32.ensures ∙ four_bytes (drop c.args.at c.args.bytes.now)
