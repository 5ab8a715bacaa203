-- Tables: the magic XPT1, a u32 count, and the entries.
use Rattle.std.specs.Prelude.{◌≡◌, ℕ, zero, suc, ◌+◌, nat_lt, nat_eq, ◌==◌, ◌||◌, not, if◌then◌else◌, codes, Bool, true, false, List, [], ◌∷◌, length, drop, map, slice_get, Option, Some, None, Result, Ok, Err}
use Rattle.std.specs.List.{starts_with}
use Rattle.std.specs.Option.{option_and_then}
use Rattle.byteorder.specs.Endian.{little_number}
use Rattle.isa_model.specs.Code.Instructions.{Program}
use Rattle.table_entries.specs.declared.refusals.TableRefusal.{TableRefusal}
use Rattle.table_entries.specs.declared.refusals.TableRefusal.TheVariants as refusal
use Rattle.table_entries.specs.declared.stops.StopReason.{StopReason}
use Rattle.table_entries.specs.declared.stops.StopReason.TheVariants.{Short, Meaningless}
use Rattle.isa_model.specs.declared.limits.TheConstants.{MAX_EXPLORED}
use Rattle.table_entries.specs.Reading.{Read, allowed}
use Rattle.table_entries.specs.Entries.{Entry, entry_in}

-- the refusal for bytes that end, or for a byte without a meaning in the entry of index k
abbrev pub refusal_of : StopReason → ℕ → TableRefusal
refusal_of Short k = refusal.Short
refusal_of Meaningless k = refusal.Entry k

abbrev pub before : Option Entry → Result (List (Option Entry) × List ℕ) TableRefusal
    → Result (List (Option Entry) × List ℕ) TableRefusal
before entry (Ok x) = Ok (entry ∷ x.0, x.1)
before entry (Err e) = Err e

-- the entry of index k, and what is read after it
abbrev pub then_entries : ℕ → Read Entry
    → (List ℕ → Result (List (Option Entry) × List ℕ) TableRefusal)
    → Result (List (Option Entry) × List ℕ) TableRefusal
then_entries k (Err stop) others = Err (refusal_of stop k)
then_entries k (Ok x) others = before x.0 (others x.1)

-- n entries, from index k on
unfoldable pub entries_in : Program → ℕ → ℕ → List ℕ
    → Result (List (Option Entry) × List ℕ) TableRefusal
entries_in p zero k bytes = Ok ([], bytes)
entries_in p (suc n) k bytes =
    then_entries k (entry_in p bytes) (λ rest. entries_in p n (k + 1) rest)

-- no bytes are left over
abbrev pub to_the_end : Result (List (Option Entry) × List ℕ) TableRefusal
    → Result (List (Option Entry)) TableRefusal
to_the_end (Ok x) = if length x.1 == 0 then Ok x.0 else Err refusal.Long
to_the_end (Err e) = Err e

-- the count of entries in the first 8 bytes, or what is wrong with these
abbrev pub count_in : List ℕ → Result ℕ TableRefusal
count_in bytes =
    if nat_lt (length bytes) 8 then Err refusal.Short
    else if not (starts_with nat_eq bytes (codes "XPT1")) then Err refusal.Magic
    else let count = little_number 4 (drop 4 bytes) in
    if count == 0 || nat_lt MAX_EXPLORED count then Err refusal.Count else Ok count

-- this count of entries after the first 8 bytes, and nothing more
abbrev pub body_in : Program → List ℕ → ℕ → Result (List (Option Entry)) TableRefusal
body_in p bytes count = to_the_end (entries_in p count 0 (drop 8 bytes))

abbrev pub with_count : Program → List ℕ → Result ℕ TableRefusal
    → Result (List (Option Entry)) TableRefusal
with_count p bytes (Ok count) = body_in p bytes count
with_count p bytes (Err e) = Err e

-- the entries of a table; None: an entry has a field that is not allowed
abbrev pub table_in : Program → List ℕ → Result (List (Option Entry)) TableRefusal
table_in p bytes = with_count p bytes (count_in bytes)

-- the first of them that is None, where the first has index k
abbrev pub first_none : ℕ → List (Option Entry) → Option ℕ
first_none k [] = None
first_none k (None ∷ entries) = Some k
first_none k (Some e ∷ entries) = first_none (k + 1) entries

abbrev pub all_of : List (Option Entry) → List Entry
all_of [] = []
all_of (None ∷ entries) = all_of entries
all_of (Some e ∷ entries) = e ∷ all_of entries

abbrev pub unless : Option ℕ → List Entry → Result (List Entry) TableRefusal
unless (Some k) entries = Err (refusal.Entry k)
unless None entries = Ok entries

abbrev pub all_allowed : Result (List (Option Entry)) TableRefusal
    → Result (List Entry) TableRefusal
all_allowed (Ok entries) = unless (first_none 0 entries) (all_of entries)
all_allowed (Err e) = Err e

-- the entries of a table, all of whose fields are allowed; else the first that is not
abbrev pub table_read : Program → List ℕ → Result (List Entry) TableRefusal
table_read p bytes = all_allowed (table_in p bytes)

-- ---- tables with the places of their entries

-- the bytes, and where in them each entry begins
pub record TableView : Type 0 where
  pub bytes : List ℕ
  pub places : List ℕ

-- the entry that begins at the place
abbrev pub entry_from : Program → List ℕ → ℕ → Option Entry
entry_from p bytes place = allowed (entry_in p (drop place bytes))

-- the entry of index k
abbrev pub entry_at : Program → TableView → ℕ → Option Entry
entry_at p t k = option_and_then (entry_from p t.bytes) (slice_get t.places k)

-- how many entries it has
abbrev pub count_of : TableView → ℕ
count_of t = length t.places

-- the table has these entries, by their indexes
pub record KeepsEntries (p : Program) (t : TableView) (entries : List Entry) : Type 0 where
  pub count : count_of t ≡ length entries
  pub each : (k : ℕ) → entry_at p t k ≡ slice_get entries k

-- this count of entries begin at the places; `first` is the first of them that is not allowed
pub record ArePlaced (p : Program) (bytes : List ℕ) (count : ℕ) (places : List ℕ)
    (first : Option ℕ) : Type 0 where
  pub body : body_in p bytes count ≡ Ok (map (entry_from p bytes) places)
  pub first_is : first ≡ first_none 0 (map (entry_from p bytes) places)

-- the first index that was found, or else this one if its entry is not allowed
abbrev pub earlier : Option ℕ → Bool → ℕ → Option ℕ
earlier (Some first) fits k = Some first
earlier None true k = None
earlier None false k = Some k
