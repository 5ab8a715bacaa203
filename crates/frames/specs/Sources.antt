-- What is known of a source: the bytes that it has left, and whether a read of it may fail.
use Rattle.std.specs.Prelude.{ℕ, Bool, true, false, List, Option, Some}
use Rattle.exact_io.specs.declared.reading.Filled.{Filled}
use Rattle.exact_io.specs.declared.reading.Filled.TheVariants.{Whole, Ended, Failed}

-- its bytes, where contracts know them, and whether a read may fail
pub record Origin : Type 0 where
  pub bytes : Option (List ℕ)
  pub may_fail : Bool

-- a reader with these bytes
abbrev pub read_from : Option (List ℕ) → Origin
read_from bytes = record { bytes = bytes; may_fail = true }

-- these bytes in memory
abbrev pub in_memory : List ℕ → Origin
in_memory bytes = record { bytes = Some bytes; may_fail = false }

-- filling a buffer ended by the error of a read
abbrev pub HasFailed : Filled → Type 0
HasFailed Whole = ⊥
HasFailed (Ended n) = ⊥
HasFailed (Failed n) = Unit {0}
