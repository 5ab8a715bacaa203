use Rattle.table_entries.proofs.KnownBytesLaws.{AreSpelled-none}
use Rattle.table_entries.proofs.known_bytes.KnownBytes.forget.Goals as goal

pub returns : goal.returns
returns c =
    λ rows a. AreSpelled-none rows c.keep.new.self a c.keep.ensures.frames c.keep.ensures.slots
