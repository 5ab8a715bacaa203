-- Entries that need not be read again, since one of two states that were read is theirs.
use Rattle.std.specs.Prelude.{◌≡◌, ℕ, Some}
use Rattle.isa_model.specs.Code.Instructions.{Program}
use Rattle.stack_state.specs.declared.states.State.{State}
use Rattle.table_entries.specs.declared.entries.EntryHead.{EntryHead}
use Rattle.table_entries.specs.Entries.{IsAllowed, entry_of}
use Rattle.table_entries.specs.declared.known_bytes.KnownBytes.{KnownBytes}
use Rattle.table_entries.specs.KnownBytes.{AreSpelled}
use Rattle.rechecking.specs.declared.entries.Known.{Known}
use Rattle.rechecking.specs.declared.entries.Known.TheVariants as known
use Rattle.rechecking.specs.Tables.{EntryAt}

-- the entry with this index has this state and this head
pub record HasEntry (p : Program) (t : EntryAt) (index : ℕ) (head : EntryHead)
    (a : State) : Type 0 where
  pub allowed : IsAllowed p head.number a.slot
  pub there : t index ≡ Some (entry_of head a)

-- the state of the known entry is the first of these two, or the second
abbrev pub IsKnownEntry : Program → EntryAt → State → State → Known → Type 0
IsKnownEntry p t a b known.None = Unit {0}
IsKnownEntry p t a b (known.First index head) = HasEntry p t index head a
IsKnownEntry p t a b (known.Second index head) = HasEntry p t index head b

-- the bytes spell parts of the known entry's state, where there are `rows` map rows
abbrev pub IsKnownSpelled : ℕ → KnownBytes → State → State → Known → Type 0
IsKnownSpelled rows bytes a b known.None = Unit {0}
IsKnownSpelled rows bytes a b (known.First index head) = AreSpelled rows bytes a
IsKnownSpelled rows bytes a b (known.Second index head) = AreSpelled rows bytes b
