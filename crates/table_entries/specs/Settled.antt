-- What the first bytes of a table say of it.
use Rattle.std.specs.Prelude.{◌≡◌, ℕ, List, ◌++◌, Option, Ok, Err, ◌⊎◌}
use Rattle.isa_model.specs.Code.Instructions.{Program}
use Rattle.table_entries.specs.declared.refusals.TableRefusal.TheVariants as refusal
use Rattle.table_entries.specs.Entries.{Entry}
use Rattle.table_entries.specs.Tables.{table_in, table_read}

-- however the bytes go on, they are refused alike
abbrev pub IsTableSettled : Program → List ℕ → Type 0
IsTableSettled p bytes = (more : List ℕ) → table_read p (bytes ++ more) ≡ table_read p bytes

-- they end too early, or where the last entry does
abbrev pub IsTableOpen : Program → List ℕ → Type 0
IsTableOpen p bytes = (table_in p bytes ≡ Err refusal.Short)
    ⊎ ((entries : List (Option Entry)) × (table_in p bytes ≡ Ok entries))
