-- Tables whose entries are placed as they are asked for, from the first on.
use Rattle.std.specs.Prelude.{◌≡◌, ℕ, ◌-◌, ◌<◌, ◌≤◌, List, [], ◌∷◌, ◌++◌, drop, map, Option, None, IsSome, Result, Ok, Err}
use Rattle.isa_model.specs.Code.Instructions.{Program}
use Rattle.table_entries.specs.declared.refusals.TableRefusal.{TableRefusal}
use Rattle.table_entries.specs.Entries.{Entry}
use Rattle.table_entries.specs.Tables.{TableView, count_of, count_in, entries_in, entry_at, entry_from, first_none}

-- the entries that are placed, the bytes after them, and the count of entries that the first 8
-- bytes of the table say
pub record Grown : Type 0 where
  pub table : TableView
  pub rest : List ℕ
  pub count : ℕ

-- what was read before, and what is still read
abbrev pub with_entries : List (Option Entry) → Result (List (Option Entry) × List ℕ) TableRefusal
    → Result (List (Option Entry) × List ℕ) TableRefusal
with_entries front (Ok x) = Ok (front ++ x.0, x.1)
with_entries front (Err e) = Err e

-- an end of the bytes
abbrev pub IsEnd : List ℕ → List ℕ → Type 0
IsEnd bytes rest = (n : ℕ) × (rest ≡ drop n bytes)

-- the entries that are placed are the first of the table, and are allowed
pub record IsBegun (p : Program) (g : Grown) : Type 0 where
  pub counted : count_in g.table.bytes ≡ Ok g.count
  pub so_far : with_entries (map (entry_from p g.table.bytes) g.table.places)
      (entries_in p (g.count - count_of g.table) (count_of g.table) g.rest)
      ≡ entries_in p g.count 0 (drop 8 g.table.bytes)
  pub fine : first_none 0 (map (entry_from p g.table.bytes) g.table.places) ≡ None
  pub few : count_of g.table ≤ g.count
  pub is_end : IsEnd g.table.bytes g.rest

-- where an entry is not placed yet, those that are placed are the first
abbrev pub MayGrow : Program → Grown → Type 0
MayGrow p g = count_of g.table < g.count → IsBegun p g

-- more entries of the same table may be placed
pub record Grows (p : Program) (g h : Grown) : Type 0 where
  pub bytes : h.table.bytes ≡ g.table.bytes
  pub count : h.count ≡ g.count
  pub more : List ℕ
  pub places : h.table.places ≡ g.table.places ++ more
  pub begun : IsBegun p g → IsBegun p h
  pub whole : g.count ≤ count_of g.table → h.table.places ≡ g.table.places

-- the entry at the front of the remaining bytes is placed
abbrev pub with_place : TableView → ℕ → TableView
with_place t place = record { bytes = t.bytes; places = t.places ++ place ∷ [] }

-- every entry that is placed is there
abbrev pub AllThere : Program → Grown → Type 0
AllThere p g = (k : ℕ) → k < count_of g.table → IsSome (entry_at p g.table k)
