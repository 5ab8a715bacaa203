use Rattle.std.proofs.Common.{rules}
use Rattle.table_entries.proofs.known_bytes.KnownBytes.keep.Goals as goal

pub returns-then-not-with_slots-clause-frames : goal.returns-then-not-with_slots-clause-frames
returns-then-not-with_slots-clause-frames c = search rules

pub returns-else-not-with_slots-clause-frames : goal.returns-else-not-with_slots-clause-frames
returns-else-not-with_slots-clause-frames c = search rules
