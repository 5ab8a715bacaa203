use Rattle.std.proofs.Common.{◌∙◌, drop}
use Rattle.table_entries.proofs.LittleNumbers.{two_bytes}
use Rattle.table_entries.proofs.slices.u16_at.Goals as goal

pub returns : goal.returns
returns c = c.get16.ensures ∙ two_bytes (drop c.args.at c.args.bytes.now)
