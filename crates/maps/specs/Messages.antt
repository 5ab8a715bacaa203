-- The sentence that says why no maps, or no machine on them, were made.
use Rattle.std.specs.Prelude.{ℕ, List, codes}
use Rattle.maps.specs.declared.errors.MapError.{MapError}
use Rattle.maps.specs.declared.errors.MapError.TheVariants.{Memory}

abbrev pub sentence_of : MapError → List ℕ
sentence_of Memory = codes "out of memory"
