-- What was written to an output that keeps what it had until then.
use Rattle.std.specs.Prelude.{ℕ, List, Option}
use Rattle.exact_io.specs.declared.replacing.Replaced.{Replaced}

-- the bytes that the file got, where they are known
abbrev pub written : {F : Type 0} → (F → Option (List ℕ)) → Replaced F → Option (List ℕ)
written contents output = contents output.file
