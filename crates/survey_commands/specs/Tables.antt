-- What a row says of a proof table.
use Rattle.std.specs.Prelude.{◌≡◌, ◌⊎◌, ℕ, List, length, Some}
use Rattle.isa_model.specs.{Program}
use Rattle.rechecking.specs.Refusing.{ShowsBound}
use Rattle.proof_table.specs.Writing.{IsTableSize}
use Rattle.survey_rows.specs.declared.rows.Counts.{Counts}

-- the bytes are a proof table that shows a bound of the program, and the row says how many they
-- are
pub record HasTable (p : Program) (table : List ℕ) (counts : Counts) : Type 0 where
  pub bound : ℕ
  pub shows : ShowsBound p table bound
  pub size : counts.table_bytes ≡ Some (length table)

-- the size in the row stays as it was, or is that of a table that shows a bound of the program, or
-- of one that is spelled for it
abbrev pub SaysTableSize : Program → Counts → Counts → Type 0
SaysTableSize p old new =
    (new.table_bytes ≡ old.table_bytes)
    ⊎ (((table : List ℕ) × HasTable p table new)
    ⊎ ((size : ℕ) × IsTableSize p size × (new.table_bytes ≡ Some size)))
