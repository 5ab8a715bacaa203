-- What was written: a table, entries, or a part of them.
use Rattle.std.specs.Prelude.{◌≡◌, ℕ, ◌-◌, ◌^◌, ◌≤◌, min, List, [], ◌∷◌, length, map, take, All, Option, Some, Ok}
use Rattle.std.specs.List.{flat_map}
use Rattle.std.specs.Io.KnownBytes.{Appends}
use Rattle.isa_model.specs.Code.Instructions.{Program}
use Rattle.isa_model.specs.declared.limits.TheConstants.{MAX_EXPLORED}
use Rattle.exact_io.specs.Transfers.{AppendsBeginning}
use Rattle.stack_state.specs.Starts.{start}
use Rattle.walks.specs.Counts.{HasNumber}
use Rattle.proof_table.specs.declared.listing.ExploredInsn.{ExploredInsn}
use Rattle.proof_table.specs.Listed.{OfStart}
use Rattle.table_entries.specs.declared.errors.WriteTableError.{WriteTableError}
use Rattle.table_entries.specs.declared.errors.WriteTableError.TheVariants.{Memory, Explored, Writer}
use Rattle.table_entries.specs.Entries.{Entry}
use Rattle.table_entries.specs.Tables.{table_read}
use Rattle.proof_table.specs.Spelling.{entry_bytes, table_bytes}
use Rattle.proof_table.specs.Fitting.{EntryFits, entry_said}

-- there is a first entry, and the fact holds of its number
abbrev pub OfFirst : List Entry → (ℕ → Type 0) → Type 0
OfFirst [] fact = ⊥
OfFirst (e ∷ entries) fact = fact e.number

-- the entry of an explored instruction, as a table says it
abbrev pub entry_for : ExploredInsn → Entry
entry_for insn =
    entry_said (record {
      number = insn.number;
      state = insn.state;
      successors = insn.successors.items;
    })

-- the entries of explored instructions
abbrev pub entries_for : List ExploredInsn → List Entry
entries_for insns = map entry_for insns

-- what was explored of a program for its table: instructions, not too many, the first of which has
-- the number of the start
pub record IsForTable (p : Program) (insns : List ExploredInsn) : Type 0 where
  pub some : 1 ≤ length insns
  pub few : length insns ≤ MAX_EXPLORED
  pub number : OfStart insns (HasNumber p start)

-- how many bytes a table of these entries has; the number stops at the greatest one of 64 bits
abbrev pub table_length : List Entry → ℕ
table_length entries = min (length (table_bytes entries)) (2 ^ 64 - 1)

-- a table of these entries, which is read as them; the first one has the number of the start
pub record GainsTableOf (p : Program) (entries : List Entry)
    (old new : Option (List ℕ)) : Type 0 where
  pub read : table_read p (table_bytes entries) ≡ Ok entries
  pub number : OfFirst entries (HasNumber p start)
  pub gained : Appends old new (table_bytes entries)

-- a table, which is read as the entries that it spells; the first one has the number of the start
pub record GainsTable (p : Program) (old new : Option (List ℕ)) : Type 0 where
  pub entries : List Entry
  pub read : table_read p (table_bytes entries) ≡ Ok entries
  pub number : OfFirst entries (HasNumber p start)
  pub gained : Appends old new (table_bytes entries)

-- so many bytes has such a table; the number stops at the greatest one of 64 bits
abbrev pub IsTableSize : Program → ℕ → Type 0
IsTableSize p size =
    (written : List ℕ) × GainsTable p (Some []) (Some written)
    × (size ≡ min (length written) (2 ^ 64 - 1))

-- a beginning of such a table, which is not all of it
pub record BeginsTable (p : Program) (old new : Option (List ℕ)) : Type 0 where
  pub entries : List Entry
  pub read : table_read p (table_bytes entries) ≡ Ok entries
  pub begun : AppendsBeginning old new (table_bytes entries)

-- the first entry, if there is one, has the number of the first instruction
abbrev pub IsNumberedAs : List ExploredInsn → List Entry → Type 0
IsNumberedAs insns [] = Unit {0}
IsNumberedAs [] (e ∷ entries) = ⊥
IsNumberedAs (insn ∷ insns) (e ∷ entries) = e.number ≡ insn.number

-- the entries of the first `count` instructions, each of which a table can spell; the first one's
-- number is that of the first instruction
pub record GainsEntries (p : Program) (insns : List ExploredInsn) (count : ℕ)
    (old new : Option (List ℕ)) : Type 0 where
  pub entries : List Entry
  pub count_is : length entries ≡ count
  pub exact : entries ≡ entries_for (take count insns)
  pub numbered : IsNumberedAs insns entries
  pub fit : All (EntryFits p) entries
  pub gained : Appends old new (flat_map entry_bytes entries)

-- a beginning of these entries, which is not all of them
pub record BeginsEntries (p : Program) (count : ℕ) (old new : Option (List ℕ)) : Type 0 where
  pub entries : List Entry
  pub count_is : length entries ≡ count
  pub fit : All (EntryFits p) entries
  pub begun : AppendsBeginning old new (flat_map entry_bytes entries)

-- the bytes of an entry that a table can spell
pub record SpellsEntry (p : Program) (e : Entry) (bytes : List ℕ) : Type 0 where
  pub fits : EntryFits p e
  pub spelled : bytes ≡ entry_bytes e

-- ---- causes

-- the writer failed
abbrev pub IsWriters : WriteTableError → Type 0
IsWriters (Writer kind) = Unit {0}
IsWriters error = ⊥

-- why an entry is not spelled: memory ran out, or a table has no spelling for it
abbrev pub Lacks : Program → Entry → WriteTableError → Type 0
Lacks p e Memory = Unit {0}
Lacks p e Explored = EntryFits p e → ⊥
Lacks p e (Writer kind) = ⊥
