-- What a table shows, and why it is refused, by tests in their order.
use Rattle.std.specs.Prelude.{◌≡◌, ℕ, List, slice_get, Ok, Err}
use Rattle.isa_model.specs.Code.Instructions.{Program}
use Rattle.control_flow.specs.Flows.{IsFlow, IsRefusal}
use Rattle.table_entries.specs.declared.refusals.TableRefusal.{TableRefusal}
use Rattle.table_entries.specs.declared.refusals.TableRefusal.TheVariants as refusal
use Rattle.table_entries.specs.Entries.{Entry}
use Rattle.table_entries.specs.Tables.{table_read}
use Rattle.rechecking.specs.declared.errors.TableError.{TableError}
use Rattle.rechecking.specs.declared.errors.TableError.TheVariants.{Flow, Bytes, Start}
use Rattle.rechecking.specs.Tables.{IsClosed}
use Rattle.rechecking.specs.Checking.{HasStart, StartsClearly, IsFirstRefused}

-- the bytes are a table with these entries
abbrev pub AreEntries : Program → List ℕ → List Entry → Type 0
AreEntries p bytes entries = IsFlow p × (table_read p bytes ≡ Ok entries)

-- the bytes are a closed table of the program, and the number is that of its first entry
pub record ShowsBound (p : Program) (bytes : List ℕ) (number : ℕ) : Type 0 where
  pub entries : List Entry
  pub read : table_read p bytes ≡ Ok entries
  pub closed : IsClosed p (slice_get entries)
  pub number_is : closed.first.number ≡ number

-- the first entry does not clearly cover the start state
abbrev pub LacksStart : Program → List ℕ → Type 0
LacksStart p bytes =
    (entries : List Entry) × AreEntries p bytes entries × (StartsClearly (slice_get entries) → ⊥)

-- it does, and an entry is the first that does not pass
abbrev pub HasRefusedEntry : Program → List ℕ → TableError → Type 0
HasRefusedEntry p bytes error = (entries : List Entry) × AreEntries p bytes entries
    × ((n : ℕ) × HasStart p (slice_get entries) n) × IsFirstRefused p (slice_get entries) error

-- the bytes are no table, or memory ran out
abbrev pub RefusesBytes : Program → List ℕ → TableRefusal → Type 0
RefusesBytes p bytes refusal.Memory = Unit {0}
RefusesBytes p bytes f = IsFlow p × (table_read p bytes ≡ Err f)

abbrev pub TableIsRefused : Program → List ℕ → TableError → Type 0
TableIsRefused p bytes (Flow e slot) = IsRefusal p e slot
TableIsRefused p bytes (Bytes f) = RefusesBytes p bytes f
TableIsRefused p bytes Start = LacksStart p bytes
TableIsRefused p bytes error = HasRefusedEntry p bytes error
