-- The versions of images and of frame streams. docs/FORMATS.md.
use Rattle.std.specs.Prelude.{ℕ, List, codes}
use Rattle.isa_model.specs.declared.versions.Version.{Version}
use Rattle.isa_model.specs.declared.versions.Version.TheVariants.{One, Two}

abbrev pub version_number : Version → ℕ
version_number One = 1
version_number Two = 2

-- ---- frame streams

abbrev pub stream_magic : Version → List ℕ
stream_magic One = codes "XPF1"
stream_magic Two = codes "XPF2"

-- the bytes of a record before its body
abbrev pub head_size : Version → ℕ
head_size One = 20
head_size Two = 24
