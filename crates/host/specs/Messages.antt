-- The code of each error, and the sentence that says what is wrong.
use Rattle.std.specs.Prelude.{ℕ, List, codes}
use Rattle.host.specs.declared.errors.HostError.{HostError}
use Rattle.host.specs.declared.errors.HostError.TheVariants.{Memory, Report, Frames}

abbrev pub code_of : HostError → List ℕ
code_of Memory = codes "H1"
code_of Report = codes "H2"
code_of Frames = codes "H3"

abbrev pub sentence_of : HostError → List ℕ
sentence_of Memory = codes "out of memory"
sentence_of Report = codes "the report cannot be written"
sentence_of Frames = codes "the frames out cannot be written"
