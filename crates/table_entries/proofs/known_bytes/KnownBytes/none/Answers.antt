use Rattle.std.proofs.Common.{None, refl}
use Rattle.table_entries.proofs.KnownBytesLaws.{AreSpelled-none}
use Rattle.table_entries.proofs.known_bytes.KnownBytes.none.Goals as goal

pub returns : goal.returns
returns c = λ rows a.
    AreSpelled-none rows (record { frames = c.new.result; slots = None }) a c.new.ensures refl
