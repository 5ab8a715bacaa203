use Rattle.std.proofs.Common.{rules}
use Rattle.table_entries.proofs.known_bytes.KnownBytes.copy.Goals as goal

pub returns : goal.returns
returns c = search rules
