-- The code of each reason why a table was not written, and its sentence.
use Rattle.std.specs.Prelude.{ℕ, List, codes}
use Rattle.table_entries.specs.declared.errors.WriteTableError.{WriteTableError}
use Rattle.table_entries.specs.declared.errors.WriteTableError.TheVariants.{Memory, Explored, Writer}

abbrev pub code_of : WriteTableError → List ℕ
code_of Memory = codes "P9"
code_of Explored = codes "P10"
code_of (Writer kind) = codes "P11"

abbrev pub sentence_of : WriteTableError → List ℕ
sentence_of Memory = codes "out of memory"
sentence_of Explored = codes "the program cannot be explored again"
sentence_of (Writer kind) = codes "the table cannot be written"
