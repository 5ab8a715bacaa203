-- The bytes that a reader has lost and a writer has gained, where they are known, also after a
-- failure.
use Rattle.std.specs.Prelude.{ℕ, ◌<◌, List, length, take, Option}
use Rattle.std.specs.Io.KnownBytes.{Appends, Consumes, IsAtEnd}
use Rattle.exact_io.specs.declared.reading.Filled.{Filled}
use Rattle.exact_io.specs.declared.reading.Filled.TheVariants.{Whole, Ended, Failed}

-- the known bytes grew by a beginning of bs, but not by all of it
abbrev pub AppendsBeginning : Option (List ℕ) → Option (List ℕ) → List ℕ → Type 0
AppendsBeginning old new bs = (n : ℕ) × (n < length bs) × Appends old new (take n bs)

-- the known bytes lost what filled the buffer, or its front; where the reader ended, none is left
abbrev pub Fills : Option (List ℕ) → Option (List ℕ) → Filled → List ℕ → Type 0
Fills old new Whole buffer = Consumes old new buffer
Fills old new (Ended n) buffer =
    (n < length buffer) × Consumes old new (take n buffer) × IsAtEnd new
Fills old new (Failed n) buffer = (n < length buffer) × Consumes old new (take n buffer)
